-- Each document has one marking, the one that is made byte by byte.
use Rattle.std.proofs.Common.{◌≡◌, ◌≢◌, ℕ, Bool, true, false, cond, eqb, inl, inr, List, [], ◌∷◌, ◌++◌, refl, sym, ap, subst, ◌∙◌, append_assoc, append-nil, take, drop, Result, Ok, Err, Vec}
use Rattle.std.specs.Prelude.{IfOk}
use Rattle.std.specs.declared.alloc.Global.{Global}
use Rattle.std.specs.List.{AllByRecursion}
use Rattle.std.specs.Char.{is_ascii_digit}
use Rattle.std.proofs.lemmas.List.{take-append-drop}
use Rattle.std.proofs.lemmas.Bool.{or_cases, eqb-true, eqb-false, false≢true}
use Rattle.fb_json.specs.Number.{IsNumber}
use Rattle.fb_json.specs.Scan.{is_number}
use Rattle.fb_json.specs.Marking.{quote, backslash, IsBody, nothing, plain, escape, IsCutBody, is_of_run, begins_run, begins_with, IsRun, Marks, nothing_left, text, cut_text, number, no_number, other, IsMarked, without_byte_order_mark}
use Rattle.fb_json.specs.Machine.{spelled, outside, in_text, escaped, in_run}
use Rattle.fb_json.proofs.Numbers.{is_number_sound, is_number_complete}

-- ---- bytes by their tests

pub is_not : (c d : ℕ) → c ≢ d → (b : Bool) → eqb c d ≡ b → b ≡ false
is_not c d ne true e = absurd (ne (eqb-true c d e))
is_not c d ne false e = refl

begins_is_of : (c : ℕ) → begins_run c ≡ true → is_of_run c ≡ true
begins_is_of c e = elim (or_cases (is_ascii_digit c) (eqb c 45) e) [
  | inl h ↦ rw h refl
  | inr h ↦ subst (λ (x : ℕ). is_of_run x ≡ true) (sym (eqb-true c 45 h)) refl
]

not_of_begins_not : (c : ℕ) (b : Bool) → begins_run c ≡ b → is_of_run c ≡ false → b ≡ false
not_of_begins_not c true e h = absurd (false≢true (sym h ∙ begins_is_of c e))
not_of_begins_not c false e h = refl

-- ---- a marking is the one that is made byte by byte

body_stays : (body rest : List ℕ) → IsBody body → in_text (body ++ rest) ≡ body ++ in_text rest
body_stays body rest nothing = refl
body_stays body rest (plain c cs q b more) =
    let not_quote : eqb c quote ≡ false = is_not c quote q (eqb c quote) refl in
    let not_backslash : eqb c backslash ≡ false = is_not c backslash b (eqb c backslash) refl in
    rw (not_quote, not_backslash) (ap (λ (x : List ℕ). c ∷ x) (body_stays cs rest more))
body_stays body rest (escape c cs more) = ap (λ (x : List ℕ). backslash ∷ c ∷ x) (body_stays cs rest more)

cut_stays : (body : List ℕ) → IsCutBody body → in_text body ≡ body
cut_stays body (inl h) = ap in_text (sym (append-nil body)) ∙ body_stays body [] h ∙ append-nil body
cut_stays body (inr h) = ap in_text h.2 ∙ body_stays h.0 (backslash ∷ []) h.1 ∙ sym h.2

run_goes_on : (front run rest : List ℕ) → AllByRecursion (λ c. is_of_run c ≡ true) run → in_run front (run ++ rest) ≡ in_run (front ++ run) rest
run_goes_on front [] rest h = ap (λ (x : List ℕ). in_run x rest) (sym (append-nil front))
run_goes_on front (c ∷ cs) rest h =
    let of : is_of_run c ≡ true = h.0 in
    rw of (run_goes_on (front ++ c ∷ []) cs rest h.1 ∙ ap (λ (x : List ℕ). in_run x rest) (append_assoc front (c ∷ []) cs))

run_ends : (run rest : List ℕ) → begins_with is_of_run rest ≡ false → in_run run rest ≡ spelled run ++ outside rest
run_ends run [] h = sym (append-nil (spelled run))
run_ends run (c ∷ cs) h =
    let no : begins_run c ≡ false = not_of_begins_not c (begins_run c) refl h in
    rw (h, no) refl

run_outside : (run rest : List ℕ) → IsRun run rest → outside (run ++ rest) ≡ spelled run ++ outside rest
run_outside [] rest h = absurd (false≢true h.begins)
run_outside (c ∷ cs) rest h =
    let b : begins_run c ≡ true = h.begins in
    rw b (run_goes_on (c ∷ []) cs rest h.are_of_run.1 ∙ run_ends (c ∷ cs) rest h.longest)

-- a run that is put, before what stands behind it
pub run_put : (out new run rest bytes : List ℕ) (n : ℕ) → run ≡ take n bytes → rest ≡ drop n bytes → IsRun (take n bytes) (drop n bytes) → new ≡ out ++ spelled run → new ++ outside rest ≡ out ++ outside bytes
run_put out new run rest bytes n front back is_run put =
    rw (put, front, back) (append_assoc out (spelled (take n bytes)) (outside (drop n bytes))
    ∙ ap (λ (x : List ℕ). out ++ x) (sym (run_outside (take n bytes) (drop n bytes) is_run) ∙ ap outside (take-append-drop n bytes)))

spelled_number : (run : List ℕ) → IsNumber run → spelled run ≡ quote ∷ 110 ∷ run ++ quote ∷ []
spelled_number run n = rw (is_number_complete run n) refl

is_no_number : (run : List ℕ) (b : Bool) → is_number run ≡ b → (IsNumber run → ⊥) → b ≡ false
is_no_number run true e h = absurd (h (is_number_sound run e))
is_no_number run false e h = refl

spelled_other : (run : List ℕ) → (IsNumber run → ⊥) → spelled run ≡ 33 ∷ []
spelled_other run h = let no : is_number run ≡ false = is_no_number run (is_number run) refl h in rw no refl

is_outside : (bytes marked : List ℕ) → Marks bytes marked → marked ≡ outside bytes
is_outside bytes marked nothing_left = refl
is_outside bytes marked (text body rest more is_body h) =
    ap (λ (x : List ℕ). quote ∷ 115 ∷ body ++ quote ∷ x) (is_outside rest more h) ∙ ap (λ (x : List ℕ). quote ∷ 115 ∷ x) (sym (body_stays body (quote ∷ rest) is_body))
is_outside bytes marked (cut_text body is_cut) = ap (λ (x : List ℕ). quote ∷ 115 ∷ x) (sym (cut_stays body is_cut))
is_outside bytes marked (number run rest more is_run is_number h) =
    let s : outside (run ++ rest) ≡ (quote ∷ 110 ∷ run ++ quote ∷ []) ++ outside rest = run_outside run rest is_run ∙ ap (λ (x : List ℕ). x ++ outside rest) (spelled_number run is_number) in
    ap (λ (x : List ℕ). quote ∷ 110 ∷ run ++ quote ∷ x) (is_outside rest more h) ∙ ap (λ (x : List ℕ). quote ∷ 110 ∷ x) (sym (append_assoc run (quote ∷ []) (outside rest))) ∙ sym s
is_outside bytes marked (no_number run rest more is_run is_none h) =
    let s : outside (run ++ rest) ≡ (33 ∷ []) ++ outside rest = run_outside run rest is_run ∙ ap (λ (x : List ℕ). x ++ outside rest) (spelled_other run is_none) in
    ap (λ (x : List ℕ). 33 ∷ x) (is_outside rest more h) ∙ sym s
is_outside bytes marked (other c rest more begins_none q h) =
    let not_quote : eqb c quote ≡ false = is_not c quote q (eqb c quote) refl in
    rw (begins_none, not_quote) (ap (λ (x : List ℕ). c ∷ x) (is_outside rest more h))

pub one_marking : (bytes one two : List ℕ) → IsMarked bytes one → IsMarked bytes two → one ≡ two
one_marking bytes one two p q = is_outside (without_byte_order_mark bytes) one p ∙ sym (is_outside (without_byte_order_mark bytes) two q)

-- ---- what is made byte by byte is a marking

all_push : (run : List ℕ) (c : ℕ) → AllByRecursion (λ x. is_of_run x ≡ true) run → is_of_run c ≡ true → AllByRecursion (λ x. is_of_run x ≡ true) (run ++ c ∷ [])
all_push [] c h e = (e, tt)
all_push (d ∷ ds) c h e = (h.0, all_push ds c h.1 e)

begins_push : (run : List ℕ) (c : ℕ) → begins_with begins_run run ≡ true → begins_with begins_run (run ++ c ∷ []) ≡ true
begins_push [] c h = absurd (false≢true h)
begins_push (d ∷ ds) c h = h

body_append : (front body : List ℕ) → IsBody front → IsBody body → IsBody (front ++ body)
body_append front body nothing h = h
body_append front body (plain c cs q b more) h = plain c (cs ++ body) q b (body_append cs body more h)
body_append front body (escape c cs more) h = escape c (cs ++ body) (body_append cs body more h)

moved : (body one rest out : List ℕ) → Marks (quote ∷ (body ++ one) ++ rest) (quote ∷ 115 ∷ (body ++ one) ++ out) → Marks (quote ∷ body ++ (one ++ rest)) (quote ∷ 115 ∷ body ++ (one ++ out))
moved body one rest out h = rw (append_assoc body one rest, append_assoc body one out) at h

run_marks : (run rest out : List ℕ) (b : Bool) → is_number run ≡ b → IsRun run rest → Marks rest out → Marks (run ++ rest) (cond b (quote ∷ 110 ∷ run ++ quote ∷ []) (33 ∷ []) ++ out)
run_marks run rest out true e r h = subst (λ (x : List ℕ). Marks (run ++ rest) (quote ∷ 110 ∷ x)) (sym (append_assoc run (quote ∷ []) out)) (number run rest out r (is_number_sound run e) h)
run_marks run rest out false e r h = no_number run rest out r (λ n. false≢true (sym e ∙ is_number_complete run n)) h

-- what the bytes become at each place
pub record IsMade (cs : List ℕ) : Type 0 where
  at_outside : Marks cs (outside cs)
  at_text : (body : List ℕ) → IsBody body → Marks (quote ∷ body ++ cs) (quote ∷ 115 ∷ body ++ in_text cs)
  at_escaped : (body : List ℕ) → IsBody body → Marks (quote ∷ body ++ backslash ∷ cs) (quote ∷ 115 ∷ body ++ backslash ∷ escaped cs)
  at_run : (run : List ℕ) → begins_with begins_run run ≡ true → AllByRecursion (λ c. is_of_run c ≡ true) run → Marks (run ++ cs) (in_run run cs)

plain_step : (c : ℕ) (cs : List ℕ) (q : Bool) → eqb c quote ≡ q → begins_run c ≡ false → IsMade cs → Marks (c ∷ cs) (cond q (quote ∷ 115 ∷ in_text cs) (c ∷ outside cs))
plain_step c cs true e n m = subst (λ (x : ℕ). Marks (x ∷ cs) (quote ∷ 115 ∷ in_text cs)) (sym (eqb-true c quote e)) (m.at_text [] nothing)
plain_step c cs false e n m = other c cs (outside cs) n (eqb-false c quote e) m.at_outside

outside_step : (c : ℕ) (cs : List ℕ) (b : Bool) → begins_run c ≡ b → IsMade cs → Marks (c ∷ cs) (cond b (in_run (c ∷ []) cs) (cond (eqb c quote) (quote ∷ 115 ∷ in_text cs) (c ∷ outside cs)))
outside_step c cs true e m = m.at_run (c ∷ []) e (begins_is_of c e, tt)
outside_step c cs false e m = plain_step c cs (eqb c quote) refl e m

letter_step : (c : ℕ) (cs body : List ℕ) (b : Bool) → eqb c backslash ≡ b → c ≢ quote → IsMade cs → IsBody body
    → Marks (quote ∷ body ++ c ∷ cs) (quote ∷ 115 ∷ body ++ cond b (c ∷ escaped cs) (c ∷ in_text cs))
letter_step c cs body true e q m h = subst (λ (x : ℕ). Marks (quote ∷ body ++ x ∷ cs) (quote ∷ 115 ∷ body ++ x ∷ escaped cs)) (sym (eqb-true c backslash e)) (m.at_escaped body h)
letter_step c cs body false e q m h = moved body (c ∷ []) cs (in_text cs) (m.at_text (body ++ c ∷ []) (body_append body (c ∷ []) h (plain c [] q (eqb-false c backslash e) nothing)))

text_step : (c : ℕ) (cs body : List ℕ) (q : Bool) → eqb c quote ≡ q → IsMade cs → IsBody body
    → Marks (quote ∷ body ++ c ∷ cs) (quote ∷ 115 ∷ body ++ cond q (c ∷ outside cs) (cond (eqb c backslash) (c ∷ escaped cs) (c ∷ in_text cs)))
text_step c cs body true e m h = subst (λ (x : ℕ). Marks (quote ∷ body ++ x ∷ cs) (quote ∷ 115 ∷ body ++ x ∷ outside cs)) (sym (eqb-true c quote e)) (text body cs (outside cs) h m.at_outside)
text_step c cs body false e m h = letter_step c cs body (eqb c backslash) refl (eqb-false c quote e) m h

escaped_step : (c : ℕ) (cs body : List ℕ) → IsMade cs → IsBody body → Marks (quote ∷ body ++ backslash ∷ c ∷ cs) (quote ∷ 115 ∷ body ++ backslash ∷ c ∷ in_text cs)
escaped_step c cs body m h = moved body (backslash ∷ c ∷ []) cs (in_text cs) (m.at_text (body ++ backslash ∷ c ∷ []) (body_append body (backslash ∷ c ∷ []) h (escape c [] nothing)))

run_step : (c : ℕ) (cs run : List ℕ) (b : Bool) → is_of_run c ≡ b → IsMade cs → begins_with begins_run run ≡ true → AllByRecursion (λ x. is_of_run x ≡ true) run
    → Marks (run ++ c ∷ cs) (cond b (in_run (run ++ c ∷ []) cs) (spelled run ++ cond (eqb c quote) (quote ∷ 115 ∷ in_text cs) (c ∷ outside cs)))
run_step c cs run true e m begins all =
    subst (λ (x : List ℕ). Marks x (in_run (run ++ c ∷ []) cs)) (append_assoc run (c ∷ []) cs) (m.at_run (run ++ c ∷ []) (begins_push run c begins) (all_push run c all e))
run_step c cs run false e m begins all =
    run_marks run (c ∷ cs) (cond (eqb c quote) (quote ∷ 115 ∷ in_text cs) (c ∷ outside cs)) (is_number run) refl
    (record { begins = begins; are_of_run = all; longest = e })
    (plain_step c cs (eqb c quote) refl (not_of_begins_not c (begins_run c) refl e) m)

made : (cs : List ℕ) → IsMade cs
made [] = record {
  at_outside = nothing_left;
  at_text = λ body h. cut_text (body ++ []) (inl (body_append body [] h nothing));
  at_escaped = λ body h. cut_text (body ++ backslash ∷ []) (inr (body, h, refl));
  at_run = λ run begins all. subst (λ (x : List ℕ). Marks (run ++ []) x) (append-nil (spelled run))
      (run_marks run [] [] (is_number run) refl (record { begins = begins; are_of_run = all; longest = refl }) nothing_left);
}
made (c ∷ cs) =
    let m = made cs in
    record {
      at_outside = outside_step c cs (begins_run c) refl m;
      at_text = λ body h. text_step c cs body (eqb c quote) refl m h;
      at_escaped = λ body h. escaped_step c cs body m h;
      at_run = λ run begins all. run_step c cs run (is_of_run c) refl m begins all;
    }

pub is_marking : (bytes : List ℕ) → IsMarked bytes (outside (without_byte_order_mark bytes))
is_marking bytes = (made (without_byte_order_mark bytes)).at_outside

-- what is made of a document without its byte order mark, where there is memory for it
pub is_marking_of : {E : Type 0} (bytes rest : List ℕ) (r : Result (Vec ℕ Global) E) → rest ≡ without_byte_order_mark bytes → IfOk r (λ v. v.items ≡ outside rest) → IfOk r (λ v. IsMarked bytes v.items)
is_marking_of bytes rest (Ok v) r o = subst (λ (x : List ℕ). IsMarked bytes x) (sym (o ∙ ap outside r)) (is_marking bytes)
is_marking_of bytes rest (Err e) r o = tt

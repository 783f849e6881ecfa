-- Going over a string byte by byte.
use Rattle.std.proofs.Common.{◌≡◌, ◌≢◌, ℕ, ◌+◌, ◌<◌, Bool, true, false, cond, eqb, List, [], ◌∷◌, ◌++◌, get_or, take, drop, length, refl, sym, ap, ◌∙◌, append_assoc, add-one, drop-cons}
use Rattle.std.proofs.lemmas.List.{take_more}
use Rattle.fb_json.specs.Marking.{quote, backslash}
use Rattle.fb_json.specs.Machine.{in_text, escaped}
use Rattle.fb_json.proofs.Markings.{is_not}

-- so far in a string, perhaps behind a backslash
abbrev pub IsAt : List ℕ → ℕ → Bool → Type 0
IsAt bytes at is_escaped = in_text bytes ≡ take at bytes ++ cond is_escaped (escaped (drop at bytes)) (in_text (drop at bytes))

-- one byte further
further : (bytes : List ℕ) (at : ℕ) (here next : List ℕ → List ℕ) → at < length bytes → ((cs : List ℕ) → here (get_or bytes at 0 ∷ cs) ≡ get_or bytes at 0 ∷ next cs)
    → take at bytes ++ here (drop at bytes) ≡ take (at + 1) bytes ++ next (drop (at + 1) bytes)
further bytes at here next lt step =
    let d : drop at bytes ≡ get_or bytes at 0 ∷ drop (at + 1) bytes = drop-cons bytes at 0 lt ∙ ap (λ (n : ℕ). get_or bytes at 0 ∷ drop n bytes) (sym (add-one at)) in
    let t : take (at + 1) bytes ≡ take at bytes ++ get_or bytes at 0 ∷ [] = take_more bytes at 0 lt in
    ap (λ (x : List ℕ). take at bytes ++ here x) d ∙ ap (λ (x : List ℕ). take at bytes ++ x) (step (drop (at + 1) bytes))
    ∙ sym (append_assoc (take at bytes) (get_or bytes at 0 ∷ []) (next (drop (at + 1) bytes))) ∙ ap (λ (x : List ℕ). x ++ next (drop (at + 1) bytes)) (sym t)

pub past_escaped : (bytes : List ℕ) (at : ℕ) (was is : Bool) → at < length bytes → was ≡ true → is ≡ false → IsAt bytes at was → IsAt bytes (at + 1) is
past_escaped bytes at true false lt w i h = h ∙ further bytes at escaped in_text lt (λ cs. refl)
past_escaped bytes at true true lt w i h = absurd cc
past_escaped bytes at false is lt w i h = absurd cc

past_plain : (bytes : List ℕ) (at : ℕ) (is : Bool) → at < length bytes → eqb (get_or bytes at 0) quote ≡ false → eqb (get_or bytes at 0) backslash ≡ is → IsAt bytes at false → IsAt bytes (at + 1) is
past_plain bytes at true lt q i h = h ∙ further bytes at in_text escaped lt (λ cs. rw (q, i) refl)
past_plain bytes at false lt q i h = h ∙ further bytes at in_text in_text lt (λ cs. rw (q, i) refl)

pub past_byte : (bytes : List ℕ) (at : ℕ) (was is : Bool) → at < length bytes → was ≡ false → get_or bytes at 0 ≢ quote → is ≡ eqb (get_or bytes at 0) backslash → IsAt bytes at was → IsAt bytes (at + 1) is
past_byte bytes at false is lt w q i h = past_plain bytes at is lt (is_not (get_or bytes at 0) quote q (eqb (get_or bytes at 0) quote) refl) (sym i) h
past_byte bytes at true is lt w q i h = absurd cc

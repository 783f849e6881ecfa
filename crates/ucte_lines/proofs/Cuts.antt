-- Lines and fields, found by loops.
use Rattle.std.proofs.Common.{◌≡◌, ℕ, zero, suc, ◌+◌, ◌-◌, ◌<◌, ◌≤◌, Bool, true, false, cond, List, [], ◌∷◌, length, take, drop, get_or, map, refl, sym, ap, ◌∙◌, arith}
use Rattle.std.specs.List.{position_or_len, before_first}
use Rattle.std.specs.Str.{IsUtf8, is_utf8, chars}
use Rattle.std.proofs.lemmas.Str.{is_utf8-from_IsUtf8, IsUtf8-from_is_utf8}
use Rattle.std.proofs.lemmas.Bool.{eq-eqb, ne_eqb, false_from_ne_true}
use Rattle.std.proofs.lemmas.List.{take_rest, drop_all, take_all, map-id}
use Rattle.std.proofs.lemmas.List.Sums.{position_or_len_is, prefix_len_is}
use Rattle.ucte_lines.specs.Lines.{characters_of, pieces_of, onto_first, is_blank}
use Rattle.ucte_lines.specs.Fields.{without_leading}

pub utf8_is : (bytes text : List ℕ) → text ≡ bytes → IsUtf8 bytes → chars text ≡ characters_of bytes
utf8_is bytes text e u = ap chars e ∙ sym (ap (λ (b : Bool). cond b (chars bytes) bytes) (is_utf8-from_IsUtf8 bytes u))

pub latin1_is : (bytes : List ℕ) → (IsUtf8 bytes → ⊥) → map (λ b. b) bytes ≡ characters_of bytes
latin1_is bytes not_text = map-id bytes ∙ sym (ap (λ (b : Bool). cond b (chars bytes) bytes) (false_from_ne_true (is_utf8 bytes) (λ h. not_text (IsUtf8-from_is_utf8 bytes h))))

-- the first line ends at the first line feed
pub lines_at : (text : List ℕ) (i : ℕ) → i < length text → ((k : ℕ) → k < i → get_or text k 0 ≡ 10 → ⊥) → get_or text i 0 ≡ 10 → pieces_of text ≡ take i text ∷ pieces_of (drop (suc i) text)
lines_at [] i lt before here = absurd (omega arith)
lines_at (c ∷ cs) zero lt before here = let e = eq-eqb c 10 here in rw e refl
lines_at (c ∷ cs) (suc i) lt before here =
    let e = ne_eqb c 10 (before 0 (omega arith)) in
    let rest = lines_at cs i (omega arith) (λ k h. before (suc k) (omega arith)) here in
    rw e (ap (onto_first c) rest)

pub lines_none : (text : List ℕ) → 0 < length text → ((k : ℕ) → k < length text → get_or text k 0 ≡ 10 → ⊥) → pieces_of text ≡ text ∷ []
lines_none [] some before = absurd (omega arith)
lines_none (c ∷ []) some before = let e = ne_eqb c 10 (before 0 (omega arith)) in rw e refl
lines_none (c ∷ d ∷ cs) some before =
    let e = ne_eqb c 10 (before 0 (omega arith)) in
    let rest = lines_none (d ∷ cs) (omega arith) (λ k h. before (suc k) (omega arith)) in
    rw e (ap (onto_first c) rest)

pub split_at : (text : List ℕ) (i : ℕ) → i < length text → ((k : ℕ) → k < i → get_or text k 0 ≡ 10 → ⊥) → get_or text i 0 ≡ 10 → pieces_of text ≡ take i text ∷ pieces_of (take (length text - (i + 1)) (drop (i + 1) text))
split_at text i lt before here =
    let one : i + 1 ≡ suc i = omega arith in
    lines_at text i lt before here ∙ ap (λ (xs : List ℕ). take i text ∷ pieces_of xs) (sym (take_rest text (i + 1) ∙ ap (λ (n : ℕ). drop n text) one))

pub split_none : (text : List ℕ) (i : ℕ) → 0 < length text → length text ≤ i → ((k : ℕ) → k < i → get_or text k 0 ≡ 10 → ⊥) → pieces_of text ≡ text ∷ pieces_of (take (length text - length text) (drop (length text) text))
split_none text i some le before =
    lines_none text some (λ k h. before k (omega arith)) ∙ ap (λ (xs : List ℕ). text ∷ pieces_of xs) (sym (take_rest text (length text) ∙ drop_all (length text) text (omega arith)))

pub leading_at : (text : List ℕ) (i : ℕ) → i < length text → ((k : ℕ) → k < i → is_blank (get_or text k 0) ≡ true) → is_blank (get_or text i 0) ≡ false → take (length text - i) (drop i text) ≡ without_leading text
leading_at text i lt before here = take_rest text i ∙ ap (λ (n : ℕ). drop n text) (sym (prefix_len_is is_blank text i 0 (omega arith) before (λ _. here)))

pub leading_none : (text : List ℕ) (i : ℕ) → i ≤ length text → length text ≤ i → ((k : ℕ) → k < i → is_blank (get_or text k 0) ≡ true) → take (length text - length text) (drop (length text) text) ≡ without_leading text
leading_none text i le ge before =
    let e = prefix_len_is is_blank text i 0 le before (λ h. absurd (omega arith)) in
    take_rest text (length text) ∙ ap (λ (n : ℕ). drop n text) (sym (e ∙ omega arith))

pub before_at : (text : List ℕ) (i : ℕ) → i < length text → ((k : ℕ) → k < i → is_blank (get_or text k 0) ≡ false) → is_blank (get_or text i 0) ≡ true → take i text ≡ before_first is_blank text
before_at text i lt before here = ap (λ (n : ℕ). take n text) (sym (position_or_len_is is_blank text i 0 (omega arith) before (λ _. here)))

pub before_none : (text : List ℕ) (i : ℕ) → i ≤ length text → length text ≤ i → ((k : ℕ) → k < i → is_blank (get_or text k 0) ≡ false) → text ≡ before_first is_blank text
before_none text i le ge before =
    let e = position_or_len_is is_blank text i 0 le before (λ h. absurd (omega arith)) in
    sym (take_all (position_or_len is_blank text) text (omega (arith, e)))

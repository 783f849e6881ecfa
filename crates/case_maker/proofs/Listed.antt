-- Texts and lists that go on with one item more, and states that go on with one draw more.
use Rattle.std.proofs.Common.{◌≡◌, ℕ, zero, suc, ◌+◌, ◌*◌, List, [], ◌∷◌, ◌++◌, length, map, refl, sym, ap, ◌∙◌, arith, append_assoc}
use Rattle.std.specs.List.{flat_map, range_with_len}
use Rattle.std.proofs.lemmas.List.{map-id, flat_map_more}
use Rattle.std.proofs.lemmas.Bool.Decides.{nat_tests}
use Rattle.std.proofs.lemmas.List.FromFn.{map-range_with_len_more, length-map-range_with_len}
use Rattle.case_maker.specs.Drawing.{next_state, state_after}
use Rattle.case_maker.specs.Pieces.{separator, parted}

-- ---- Draws

pub two_more : (state k : ℕ) → state_after state (2 * (k + 1)) ≡ next_state (next_state (state_after state (2 * k)))
two_more state k = let more : 2 * (k + 1) ≡ suc (suc (2 * k)) = omega arith in ap (state_after state) more

pub state_after-after : (state m n : ℕ) → state_after (state_after state m) n ≡ state_after state (n + m)
state_after-after state m zero = let same : m ≡ zero + m = omega arith in ap (state_after state) same
state_after-after state m (suc n) =
    let same : suc (n + m) ≡ suc n + m = omega arith in
    ap next_state (state_after-after state m n) ∙ ap (state_after state) same

-- ---- Texts

one_more : (k : ℕ) → range_with_len 0 (k + 1) ≡ range_with_len 0 k ++ k ∷ []
one_more k =
    sym (map-id (range_with_len 0 (k + 1)))
    ∙ map-range_with_len_more (λ (n : ℕ). n) 0 k k (omega arith)
    ∙ ap (λ ns. ns ++ k ∷ []) (map-id (range_with_len 0 k))

pub text_more : (f : ℕ → List ℕ) (k : ℕ) (old text new : List ℕ) → text ≡ old ++ flat_map f (range_with_len 0 k) → new ≡ text ++ f k
    → new ≡ old ++ flat_map f (range_with_len 0 (k + 1))
text_more f k old text new was is =
    is ∙ ap (λ t. t ++ f k) was ∙ flat_map_more f old (range_with_len 0 k) k ∙ ap (λ ns. old ++ flat_map f ns) (sym (one_more k))

-- ---- Items with commas between them

separator_suc : (n : ℕ) → separator (suc n) ≡ 44 ∷ []
separator_suc n = grind (arith, nat_tests)

parted_push : (xs : List (List ℕ)) (x : List ℕ) → parted (xs ++ x ∷ []) ≡ parted xs ++ (separator (length xs) ++ x)
parted_push [] x = refl
parted_push (y ∷ []) x = ap (λ s. y ++ (s ++ x)) (sym (separator_suc zero))
parted_push (y ∷ z ∷ zs) x =
    ap (λ t. y ++ 44 ∷ t) (parted_push (z ∷ zs) x)
    ∙ ap (λ s. y ++ 44 ∷ (parted (z ∷ zs) ++ (s ++ x))) (separator_suc (length zs) ∙ sym (separator_suc (suc (length zs))))
    ∙ sym (append_assoc y (44 ∷ parted (z ∷ zs)) (separator (suc (suc (length zs))) ++ x))

pub item_more : (f : ℕ → List ℕ) (k : ℕ) (old text middle new : List ℕ) → text ≡ old ++ parted (map f (range_with_len 0 k)) → middle ≡ text ++ separator k
    → new ≡ middle ++ f k → new ≡ old ++ parted (map f (range_with_len 0 (k + 1)))
item_more f k old text middle new was mark is =
    let items = map f (range_with_len 0 k) in
    is ∙ ap (λ t. t ++ f k) (mark ∙ ap (λ t. t ++ separator k) was)
    ∙ append_assoc (old ++ parted items) (separator k) (f k)
    ∙ append_assoc old (parted items) (separator k ++ f k)
    ∙ ap (λ n. old ++ (parted items ++ (separator n ++ f k))) (sym (length-map-range_with_len f 0 k))
    ∙ ap (λ t. old ++ t) (sym (parted_push items (f k)))
    ∙ ap (λ xs. old ++ parted xs) (sym (map-range_with_len_more f 0 k k (omega arith)))

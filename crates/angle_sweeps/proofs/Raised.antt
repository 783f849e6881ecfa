-- A list that is raised at one class.
use Rattle.std.proofs.Common.{◌≡◌, ℕ, ◌+◌, ◌*◌, ◌<◌, ◌≤◌, ◌⊎◌, Bool, true, false, cond, eqb, List, [], ◌∷◌, length, get_or, set, All, ℤ, pos, ◌+ℤ◌, ◌-ℤ◌, ◌*ℤ◌, ◌≤ℤ◌, arith, mul-le-mul_left, refl, sym, ap, ap₂, subst, ◌∙◌, inl, inr, length-set, get_or-set_same, get_or-set_other}
use Rattle.std.proofs.lemmas.Int.{ints}
use Rattle.std.proofs.lemmas.Bool.{cases_eq, cond-true, cond-false, eq-eqb, ne_eqb, both_ways}
use borrow.Author.Differences.{up, down}
use Rattle.std.proofs.lemmas.List.Elements.{All-head, All-tail, All-get_or, All-set}
use Rattle.whole_laws.specs.Sums.{total_below, at}
use Rattle.whole_laws.specs.SumLaws.{sum_below-same, sum_below-low, sum_below-pos}
use Rattle.whole_laws.specs.TotalLaws.{total_below-combine}
use Rattle.grid_state.specs.declared.types.Edge.{Edge}
use Rattle.grid_state.specs.GridState.{GridState, row_of, weight, weight_to, is_free, classes_of, susceptance_over, susceptance_of, IsEdge, IsSound}
use Rattle.grid_laplacian.specs.Tables.{laplacian}
use Rattle.grid_laplacian.specs.Laws.{laplacian_at}
use Rattle.grid_laplacian.proofs.Enclosure.{scaled}
use Rattle.grid_laplacian.proofs.Uniqueness.{laplacian-combine}
use Rattle.grid_laplacian.proofs.Bridge.{laplacian_is, sum_below-single}
use Rattle.grid_laplacian.proofs.Crossings.{row_edges}
use Rattle.angle_sweeps.specs.Sweeps.{IsUnder}

-- 1 at the class i alone
abbrev bump : ℕ → ℕ → ℤ
bump i j = cond (eqb j i) (pos 1) (pos 0)

bump_at : (i j : ℕ) → j ≡ i → bump i j ≡ pos 1
bump_at i j e = cond-true (eqb j i) (pos 1) (pos 0) (eq-eqb j i e)

bump_off : (i j : ℕ) → (j ≡ i → ⊥) → bump i j ≡ pos 0
bump_off i j ne = cond-false (eqb j i) (pos 1) (pos 0) (ne_eqb j i ne)

bump_high : (i j : ℕ) → pos 0 ≤ℤ bump i j
bump_high i j = high (eqb j i)
  where
    high : (b : Bool) → pos 0 ≤ℤ cond b (pos 1) (pos 0)
    high true = omega (arith, ints)
    high false = omega (arith, ints)

-- elsewhere the Laplacian of a bump is at most 0
laplacian-bump_off : (n : ℕ) (w : ℕ → ℕ → ℕ) (i j : ℕ) → (j ≡ i → ⊥) → laplacian n w (bump i) j ≤ℤ pos 0
laplacian-bump_off n w i j ne = sum_below-low n (λ m. pos (w j m) *ℤ (bump i j -ℤ bump i m)) (λ m h. term (w j m) (bump i j) (bump i m) (bump_off i j ne) (bump_high i m))
  where
    term : (v : ℕ) (x y : ℤ) → x ≡ pos 0 → pos 0 ≤ℤ y → (pos v *ℤ (x -ℤ y)) ≤ℤ pos 0
    term v x y e h =
        let low : up (x -ℤ y) ≤ down (x -ℤ y) = omega (arith, ints) in
        let times = mul-le-mul_left v low in
        omega (arith, ints)

-- at its class it is the sum of the weights
laplacian-bump_at : (n : ℕ) (w : ℕ → ℕ → ℕ) (i : ℕ) → w i i ≡ 0 → laplacian n w (bump i) i ≡ pos (total_below n (w i))
laplacian-bump_at n w i none =
    sum_below-same n (λ m. pos (w i m) *ℤ (bump i i -ℤ bump i m)) (λ m. pos (w i m)) (λ m h. term m (cases_eq m i)) ∙ sum_below-pos n (w i)
  where
    term : (m : ℕ) → ((m ≡ i) ⊎ (m ≡ i → ⊥)) → pos (w i m) *ℤ (bump i i -ℤ bump i m) ≡ pos (w i m)
    term m (inl e) = let z : w i m ≡ 0 = ap (w i) e ∙ none in rw z (omega (arith, ints))
    term m (inr ne) = rw (bump_at i i refl, bump_off i m ne) (omega (arith, ints))

-- ---- the weights of a row sum to its susceptance_of
total_below-single : (n : ℕ) (f : ℕ → ℕ) (k : ℕ) → k < n → ((j : ℕ) → j < n → (j ≡ k → ⊥) → f j ≡ 0) → total_below n f ≡ f k
total_below-single n f k h none =
    let e = sum_below-single n (λ j. pos (f j)) k h (λ j b other. ap pos (none j b other)) in
    let e' = sum_below-pos n f in
    omega (arith, ints)

row_total : (n : ℕ) (es : List Edge) → All (λ e. IsEdge n e) es → total_below n (weight_to es) ≡ susceptance_over es
row_total n [] all = total_below-combine n 0 0 (λ j. 0) (λ j. 0) (λ j. 0) (λ j b. omega arith) ∙ omega arith
row_total n (e ∷ es) all =
    let rest = row_total n es (All-tail (λ e. IsEdge n e) e es all) in
    let here = All-head (λ e. IsEdge n e) e es all in
    let one = total_below-single n (λ j. cond (eqb e.to j) e.b 0) e.to here.leads (λ j b other. cond-false {A = ℕ} (eqb e.to j) e.b 0 (ne_eqb e.to j (λ same. other (sym same)))) in
    let one_at = cond-true {A = ℕ} (eqb e.to e.to) e.b 0 (eq-eqb e.to e.to refl) in
    let both = total_below-combine n 1 1 (λ j. cond (eqb e.to j) e.b 0) (weight_to es) (λ j. cond (eqb e.to j) e.b 0 + weight_to es j) (λ j b. omega arith) in
    omega arith

-- ---- a list raised at one class
raised_value : (n : ℕ) (w : List ℤ) (i k m : ℕ) → length w ≡ n → i < n → m < n → at (set w i (at w i +ℤ pos k)) m ≡ pos 1 *ℤ at w m +ℤ pos k *ℤ bump i m
raised_value n w i k m same hi hm =
    elim (cases_eq m i) [
      | inl e ↦ ap (λ j. get_or (set w i (at w i +ℤ pos k)) j (pos 0)) e
          ∙ (let lt : i < length w = omega arith in get_or-set_same w i (at w i +ℤ pos k) (pos 0) lt)
          ∙ (let one = bump_at i m e in let back = ap (at w) e in at_class (at w i) (at w m) (bump i m) k (sym back) one)
      | inr ne ↦ (get_or-set_other w i m (at w i +ℤ pos k) (pos 0) ne) ∙ off_class (at w m) (bump i m) k (bump_off i m ne)
    ]
  where
    at_class : (x y z : ℤ) (k : ℕ) → x ≡ y → z ≡ pos 1 → x +ℤ pos k ≡ pos 1 *ℤ y +ℤ pos k *ℤ z
    at_class x y z k e e' = rw (e, e') (omega (arith, ints))

    off_class : (y z : ℤ) (k : ℕ) → z ≡ pos 0 → y ≡ pos 1 *ℤ y +ℤ pos k *ℤ z
    off_class y z k e = rw e (omega (arith, ints))

pub laplacian_raised : (state : GridState) → IsSound state → (w : List ℤ) (i k : ℕ) → length w ≡ classes_of state → i < classes_of state → (j : ℕ) → j < classes_of state
    → laplacian_at state (set w i (at w i +ℤ pos k)) j ≡ laplacian_at state w j +ℤ pos k *ℤ laplacian (classes_of state) (weight state) (bump i) j
laplacian_raised state sound w i k same hi j hj =
    let n = classes_of state in
    let w' = set w i (at w i +ℤ pos k) in
    sym (laplacian_is state sound w' j hj)
    ∙ sum_below-same n (λ m. pos (weight state j m) *ℤ (at w' j -ℤ at w' m)) (λ m. pos (weight state j m) *ℤ ((pos 1 *ℤ at w j +ℤ pos k *ℤ bump i j) -ℤ (pos 1 *ℤ at w m +ℤ pos k *ℤ bump i m)))
    (λ m hm. ap₂ (λ (x y : ℤ). pos (weight state j m) *ℤ (x -ℤ y)) (raised_value n w i k j same hi hj) (raised_value n w i k m same hi hm))
    ∙ laplacian-combine n (weight state) (pos 1) (pos k) (at w) (bump i) j
    ∙ (let e = laplacian_is state sound w j hj in once (laplacian n (weight state) (at w) j) (laplacian_at state w j) (pos k *ℤ laplacian n (weight state) (bump i) j) e)
  where
    once : (x y z : ℤ) → x ≡ y → pos 1 *ℤ x +ℤ z ≡ y +ℤ z
    once x y z e = rw e (omega (arith, ints))

pub raised_at : (state : GridState) → IsSound state → (w : List ℤ) (i k : ℕ) → length w ≡ classes_of state → i < classes_of state
    → laplacian_at state (set w i (at w i +ℤ pos k)) i ≡ laplacian_at state w i +ℤ pos (k * susceptance_of state i)
raised_at state sound w i k same hi =
    laplacian_raised state sound w i k same hi i hi
    ∙ ap (λ (z : ℤ). laplacian_at state w i +ℤ pos k *ℤ z) (laplacian-bump_at (classes_of state) (weight state) i (sound.others i) ∙ ap pos (row_total (classes_of state) (row_of state i) (row_edges state sound i hi)))

pub raised_off : (state : GridState) → IsSound state → (w : List ℤ) (i k : ℕ) → length w ≡ classes_of state → i < classes_of state → (j : ℕ) → j < classes_of state → (j ≡ i → ⊥)
    → laplacian_at state (set w i (at w i +ℤ pos k)) j ≤ℤ laplacian_at state w j
raised_off state sound w i k same hi j hj ne =
    let e = laplacian_raised state sound w i k same hi j hj in
    let low = laplacian-bump_off (classes_of state) (weight state) i j ne in
    let times = scaled k (laplacian (classes_of state) (weight state) (bump i) j) (pos 0) low in
    omega (arith, ints)

-- a step keeps what a sweep keeps
pub step_under : (state : GridState) → IsSound state → (p w : List ℤ) → IsUnder state p w → (i k : ℕ) → i < classes_of state → is_free state i ≡ true
    → pos (k * susceptance_of state i) ≤ℤ (at p i -ℤ laplacian_at state w i) → IsUnder state p (set w i (at w i +ℤ pos k))
step_under state sound p w is i k hi free_i room = record {
  each_class = length-set w i (at w i +ℤ pos k) ∙ is.each_class;
  nonnegative = All-set (λ z. pos 0 ≤ℤ z) w i (at w i +ℤ pos k) (let high : pos 0 ≤ℤ at w i = All-get_or (λ z. pos 0 ≤ℤ z) w i (pos 0) (omega (arith, is.each_class)) is.nonnegative in omega (arith, ints)) is.nonnegative;
  fixed = λ j hj u. (let ne : j ≡ i → ⊥ = λ e. both_ways (is_free state j) u (ap (is_free state) e ∙ free_i) in get_or-set_other w i j (at w i +ℤ pos k) (pos 0) ne) ∙ is.fixed j hj u;
  under = λ j hj free_j. elim (cases_eq j i) [
    | inl e ↦ subst (λ (m : ℕ). laplacian_at state (set w i (at w i +ℤ pos k)) m ≤ℤ at p m) (sym e) (let risen = raised_at state sound w i k is.each_class hi in omega (arith, ints))
    | inr ne ↦ let low = raised_off state sound w i k is.each_class hi j hj ne in let before = is.under j hj free_j in omega (arith, ints)
  ];
}

-- The laws of `specs/Laws.antt` hold of every state.
use Rattle.std.proofs.Common.{◌≡◌, ℕ, zero, suc, ◌+◌, ◌*◌, ◌<◌, ◌≤◌, ◌⊎◌, inl, inr, Bool, true, false, cond, eqb, not, ◌&&◌, List, [], ◌∷◌, length, get_or, map, All, sum_by, ℤ, pos, negsuc, ◌-ℤ◌, ◌*ℤ◌, nat_abs, ◌≤ℤ◌, arith, mul-le-mul_right, refl, sym, ap, ap₂, subst, ◌∙◌}
use Rattle.std.specs.List.{range_with_len}
use Rattle.std.proofs.lemmas.Int.{ints}
use Rattle.std.proofs.lemmas.Bool.{cases_Bool, both_ways, cases_eq, cond-true, cond-false, and_parts, and_from, eqb-true, eq-eqb, not_from_false}
use Rattle.std.proofs.lemmas.List.Elements.{All-head, All-tail, All-get_or}
use Rattle.std.proofs.lemmas.List.FromFn.{get_or-map-range_with_len, length-map-range_with_len}
use Rattle.std.proofs.lemmas.List.Sums.{sum_by-cons}
use Rattle.grid_state.specs.declared.types.Edge.{Edge}
use Rattle.grid_state.specs.GridState.{GridState, row_of, weight_to, weight, is_live, is_free, classes_of, live_count, IsEdge, IsSound}
use Rattle.whole_laws.specs.Sums.{total_below, at}
use Rattle.grid_laplacian.specs.Tables.{laplacian, SolvesTable}
use Rattle.grid_laplacian.specs.Sizes.{supply_of}
use Rattle.grid_laplacian.specs.Laws.{Solves, Maximum, Existence, Uniqueness, Cut, Angle}
use Rattle.whole_laws.specs.SumLaws.{sum_below-same}
use Rattle.whole_laws.specs.TotalLaws.{total_below-le}
use Rattle.grid_laplacian.proofs.Maximum.{maximum}
use Rattle.grid_laplacian.proofs.Existence.{solution}
use Rattle.grid_laplacian.proofs.Uniqueness.{uniqueness}
use Rattle.grid_laplacian.proofs.Cut.{cut}
use Rattle.grid_laplacian.proofs.Angle.{angle, free_count}
use Rattle.grid_laplacian.proofs.Bridge.{grounded, laplacian_is}

-- a flow, and what solves the table of weights
pub solves_of : (state : GridState) → IsSound state → (p t : List ℤ) (d : ℕ) → Solves state p t d → SolvesTable (classes_of state) (weight state) (is_free state) (at p) (at t) d
solves_of state sound p t d flow = record {
  positive = flow.positive;
  fixed = flow.fixed;
  balanced = λ i h is. laplacian_is state sound t i h ∙ flow.balanced i h is;
}

-- ---- maximum
abbrev masked : GridState → List ℤ → ℕ → ℤ
masked state f i = cond (is_live state i) (at f i) (pos 0)

no_weight : (w : ℕ) (a x y : ℤ) → w ≡ 0 → pos w *ℤ (a -ℤ x) ≡ pos w *ℤ (a -ℤ y)
no_weight w a x y e = rw e (omega (arith, ints))

masked_same : (state : GridState) → IsSound state → (f : List ℤ) (i : ℕ) → i < classes_of state → is_live state i ≡ true
    → laplacian (classes_of state) (weight state) (masked state f) i ≡ laplacian (classes_of state) (weight state) (at f) i
masked_same state sound f i h live_i =
    sum_below-same (classes_of state) (λ j. pos (weight state i j) *ℤ (masked state f i -ℤ masked state f j)) (λ j. pos (weight state i j) *ℤ (at f i -ℤ at f j)) (λ j hj.
    ap (λ (z : ℤ). pos (weight state i j) *ℤ (z -ℤ masked state f j)) (cond-true (is_live state i) (at f i) (pos 0) live_i)
    ∙ elim (cases_Bool (is_live state j)) [
      | inl live_j ↦ ap (λ (z : ℤ). pos (weight state i j) *ℤ (at f i -ℤ z)) (cond-true (is_live state j) (at f j) (pos 0) live_j)
      | inr dead_j ↦ no_weight (weight state i j) (at f i) (masked state f j) (at f j)
          (elim (cases_eq (weight state i j) 0) [
            | inl none ↦ none
            | inr some ↦
                let turned = sound.symmetric i j in
                absurd (both_ways (is_live state j) dead_j (sound.live_closed.joined_in j i hj h live_i (omega arith)))
          ])
    ])

pub maximum_holds : (state : GridState) → IsSound state → Maximum state
maximum_holds state sound f inside at_slack i h live_i =
    subst (λ (z : ℤ). pos 0 ≤ℤ z) (cond-true (is_live state i) (at f i) (pos 0) live_i)
    (maximum (classes_of state) (weight state) (is_free state) (grounded state sound) (masked state f)
    (λ j hj is.
    let live_j = (and_parts (is_live state j) (not (eqb j state.slack)) is).0 in
    subst (λ (z : ℤ). pos 0 ≤ℤ z) (sym (masked_same state sound f j hj live_j ∙ laplacian_is state sound f j hj)) (inside j hj is))
    (λ j hj u. edge j hj u (cases_Bool (is_live state j)))
    i h)
  where
    edge : (j : ℕ) → j < classes_of state → is_free state j ≡ false → ((is_live state j ≡ true) ⊎ (is_live state j ≡ false)) → pos 0 ≤ℤ masked state f j
    edge j hj u (inr dead) = let e = cond-false (is_live state j) (at f j) (pos 0) dead in omega (arith, ints)
    edge j hj u (inl live) =
        let e = cond-true (is_live state j) (at f j) (pos 0) live in
        elim (cases_Bool (eqb j state.slack)) [
          | inl same ↦ let e' = ap (at f) (eqb-true j state.slack same) in omega (arith, ints)
          | inr other ↦ absurd (both_ways (is_free state j) u (and_from (is_live state j) (not (eqb j state.slack)) live (not_from_false (eqb j state.slack) other)))
        ]

-- ---- existence
pub existence_holds : (state : GridState) → IsSound state → Existence state
existence_holds state sound p =
    let all = solution (classes_of state) (weight state) (is_free state) (grounded state sound) in
    let one = all.2 (at p) in
    let t = map one.0 (range_with_len 0 (classes_of state)) in
    let there : (i : ℕ) → i < classes_of state → at t i ≡ one.0 i = λ i h. get_or-map-range_with_len one.0 0 (classes_of state) i i (pos 0) h (omega arith) in (
      t,
      all.0,
      record {
        each_class = length-map-range_with_len one.0 0 (classes_of state);
        positive = all.1;
        fixed = λ i h u. there i h ∙ one.1.fixed i h u;
        balanced = λ i h is.
            sym (laplacian_is state sound t i h)
            ∙ sum_below-same (classes_of state) (λ j. pos (weight state i j) *ℤ (at t i -ℤ at t j)) (λ j. pos (weight state i j) *ℤ (one.0 i -ℤ one.0 j))
            (λ j b. ap₂ (λ (x y : ℤ). pos (weight state i j) *ℤ (x -ℤ y)) (there i h) (there j b))
            ∙ one.1.balanced i h is;
      },
    )

-- ---- uniqueness
pub uniqueness_holds : (state : GridState) → IsSound state → Uniqueness state
uniqueness_holds state sound p t t' d d' flow flow' i h =
    uniqueness (classes_of state) (weight state) (is_free state) (grounded state sound) (at p) (at t) (at t') d d' (solves_of state sound p t d flow) (solves_of state sound p t' d' flow') i h

-- ---- cut
pub part_of_weight : (es : List Edge) (k : ℕ) (e : Edge) → k < length es → (get_or es k e).b ≤ weight_to es (get_or es k e).to
part_of_weight [] k d h = absurd (omega arith)
part_of_weight (e ∷ es) zero d h = let one = cond-true {A = ℕ} (eqb e.to e.to) e.b 0 (eq-eqb e.to e.to refl) in omega arith
part_of_weight (e ∷ es) (suc k) d h = let rest = part_of_weight es k d (omega arith) in omega arith

times_more : (a b : ℕ) (z : ℤ) → a ≤ b → nat_abs (pos a *ℤ z) ≤ nat_abs (pos b *ℤ z)
times_more a b (pos x) le = let more = mul-le-mul_right x le in omega (arith, ints)
times_more a b (negsuc x) le = let more = mul-le-mul_right (suc x) le in omega (arith, ints)

row_at : (state : GridState) → IsSound state → (i : ℕ) → i < classes_of state → All (λ e. IsEdge (classes_of state) e) (row_of state i)
row_at state sound i h = All-get_or (λ row. All (λ e. IsEdge (classes_of state) e) row) state.rows i [] (omega (arith, sound.same_length)) sound.edges

pub cut_holds : (state : GridState) → IsSound state → Cut state
cut_holds state sound p t d flow i h k e b =
    let edge = get_or (row_of state i) k e in
    let ends = (row_at state sound i h k e b).leads in
    let whole = cut (classes_of state) (weight state) (is_free state) sound.symmetric (at p) (at t) d (solves_of state sound p t d flow) i edge.to h ends in
    let part = times_more edge.b (weight state i edge.to) (at t i -ℤ at t edge.to) (part_of_weight (row_of state i) k e b) in
    omega arith

-- ---- angle
pub least_weight : (b : ℕ) (es : List Edge) → All (λ e. b ≤ e.b) es → (j : ℕ) → 0 < weight_to es j → b ≤ weight_to es j
least_weight b [] all j some = absurd (omega arith)
least_weight b (e ∷ es) all j some =
    let here = All-head (λ e. b ≤ e.b) e es all in
    let rest = All-tail (λ e. b ≤ e.b) e es all in
    elim (cases_Bool (eqb e.to j)) [
      | inl same ↦ let x = cond-true {A = ℕ} (eqb e.to j) e.b 0 same in omega arith
      | inr other ↦ let x = cond-false {A = ℕ} (eqb e.to j) e.b 0 other in let tail = least_weight b es rest j (omega arith) in omega arith
    ]

total_first : (n : ℕ) (f : ℕ → ℕ) → total_below (suc n) f ≡ f 0 + total_below n (λ i. f (suc i))
total_first zero f = omega arith
total_first (suc n) f = let rest = total_first n f in omega arith

pub total_of_list : {X : Type 0} (f : X → ℕ) (xs : List X) (d : X) → total_below (length xs) (λ i. f (get_or xs i d)) ≡ sum_by f xs
total_of_list f [] d = refl
total_of_list f (x ∷ xs) d = total_first (length xs) (λ i. f (get_or (x ∷ xs) i d)) ∙ ap (λ k. f x + k) (total_of_list f xs d) ∙ sym (sum_by-cons f x xs)

pub fewer_free : (state : GridState) → free_count (classes_of state) (is_free state) ≤ live_count state
fewer_free state =
    let part = total_below-le (classes_of state) (λ i. cond (is_free state i) 1 0) (λ i. cond (is_live state i) 1 0) (λ i h. one_more (is_live state i) (not (eqb i state.slack))) in
    let list = total_of_list (λ l. cond l 1 0) state.live false in
    omega arith
  where
    one_more : (x y : Bool) → cond (x && y) 1 0 ≤ cond x 1 0
    one_more true true = omega arith
    one_more true false = omega arith
    one_more false y = omega arith

pub angle_holds : (state : GridState) → IsSound state → Angle state
angle_holds state sound p t d flow b least i h =
    let bound = angle (classes_of state) (weight state) (is_free state) sound.symmetric (grounded state sound) (at p) (at t) d (solves_of state sound p t d flow) b
    (λ x y hx hy some. least_weight b (row_of state x) (least.each x hx) y some) i h in
    let more = mul-le-mul_right (d * supply_of state p) (fewer_free state) in
    omega arith

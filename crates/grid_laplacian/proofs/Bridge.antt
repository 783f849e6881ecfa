-- A state is a grounded table of weights.
use Rattle.std.proofs.Common.{◌≡◌, ℕ, zero, suc, ◌+◌, ◌<◌, ◌≤◌, ◌⊎◌, inl, inr, Bool, true, false, cond, eqb, not, List, [], ◌∷◌, All, ℤ, pos, ◌+ℤ◌, ◌-ℤ◌, ◌*ℤ◌, arith, refl, sym, ap, ap₂, subst, ◌∙◌}
use Rattle.std.proofs.lemmas.Int.{ints}
use Rattle.std.proofs.lemmas.Bool.{cases_Bool, both_ways, cases_eq, cond-true, cond-false, and_parts, eq-eqb, ne_eqb, not-true, not_from_false}
use Rattle.std.proofs.lemmas.List.Elements.{All-head, All-tail, All-get_or}
use Rattle.grid_state.specs.declared.types.Edge.{Edge}
use Rattle.grid_state.specs.GridState.{GridState, row_of, weight_to, weight, is_live, is_free, classes_of, IsEdge, IsClosed, IsSound}
use Rattle.whole_laws.specs.Sums.{sum_below, at}
use Rattle.grid_laplacian.specs.Tables.{laplacian, Leaves, IsGrounded}
use Rattle.grid_laplacian.specs.Laws.{drop_over, laplacian_at}
use Rattle.whole_laws.specs.SumLaws.{sum_below-zero_each, sum_below-add_each}

-- ---- a search for a weight out of a set
abbrev Out : ℕ → (ℕ → ℕ → ℕ) → (ℕ → Bool) → ℕ → Type 0
Out m w set a = (b : ℕ) × (b < m) × (set b ≡ false) × (0 < w a b)

from_one : (m : ℕ) (w : ℕ → ℕ → ℕ) (set : ℕ → Bool) (a : ℕ) → Out m w set a ⊎ ((b : ℕ) → b < m → set b ≡ false → w a b ≡ 0)
from_one zero w set a = inr (λ b h e. absurd (omega arith))
from_one (suc m) w set a =
    elim (from_one m w set a) [
      | inl r ↦ inl (r.0, (let lt : r.0 < m = r.1 in omega arith), r.2, r.3)
      | inr none ↦ elim (cases_Bool (set m)) [
        | inl in_set ↦ inr (λ b h e. none b (let ne : b ≡ m → ⊥ = λ same. both_ways (set b) e (ap set same ∙ in_set) in omega arith) e)
        | inr out ↦ elim (cases_eq (w a m) 0) [
          | inl zero_there ↦ inr (λ b h e. elim (cases_eq b m) [ inl same ↦ ap (w a) same ∙ zero_there | inr ne ↦ none b (omega arith) e ])
          | inr some ↦ inl (m, omega arith, out, omega arith)
        ]
      ]
    ]

abbrev NoneOut : ℕ → ℕ → (ℕ → ℕ → ℕ) → (ℕ → Bool) → Type 0
NoneOut m n w set = (a b : ℕ) → a < m → b < n → set a ≡ true → set b ≡ false → w a b ≡ 0

way_out : (m n : ℕ) (w : ℕ → ℕ → ℕ) (set : ℕ → Bool) → m ≤ n → Leaves n w set ⊎ NoneOut m n w set
way_out zero n w set le = inr (λ a b h h' e e'. absurd (omega arith))
way_out (suc m) n w set le =
    elim (way_out m n w set (omega arith)) [
      | inl found ↦ inl found
      | inr none ↦ elim (cases_Bool (set m)) [
        | inr out ↦ inr (λ a b h h' e e'. none a b (let ne : a ≡ m → ⊥ = λ same. both_ways (set m) out (ap set (sym same) ∙ e) in omega arith) h' e e')
        | inl in_set ↦ elim (from_one n w set m) [
          | inl r ↦ inl (record { inner = m; outer = r.0; inner_below = omega arith; outer_below = r.1; inside = in_set; outside = r.2; joined = r.3 })
          | inr no_way ↦ inr (λ a b h h' e e'. elim (cases_eq a m) [ inl same ↦ ap (λ k. w k b) same ∙ no_way b h' e' | inr ne ↦ none a b (omega arith) h' e e' ])
        ]
      ]
    ]

-- ---- the live classes are grounded
pub grounded : (state : GridState) → IsSound state → IsGrounded (classes_of state) (weight state) (is_free state)
grounded state sound set within i h s =
    elim (way_out (classes_of state) (classes_of state) (weight state) set (omega arith)) [
      | inl found ↦ found
      | inr none ↦
          let free_i = within i h s in
          let live_i = (and_parts (is_live state i) (not (eqb i state.slack)) free_i).0 in
          let closed : IsClosed state (λ j. not (set j)) = record {
            slack_in = not_from_false (set state.slack) (no_slack (cases_Bool (set state.slack)));
            joined_in = λ a b ha hb out joined. not_from_false (set a) (stays a b ha hb (not-true (set b) out) joined none (cases_Bool (set a)));
          } in
          let out = sound.live_least (λ j. not (set j)) closed i h live_i in
          absurd (both_ways (set i) (not-true (set i) out) s)
    ]
  where
    no_slack : ((set state.slack ≡ true) ⊎ (set state.slack ≡ false)) → set state.slack ≡ false
    no_slack (inr e) = e
    no_slack (inl e) =
        let other = (and_parts (is_live state state.slack) (not (eqb state.slack state.slack)) (within state.slack sound.slack_below e)).1 in
        absurd (both_ways (eqb state.slack state.slack) (not-true (eqb state.slack state.slack) other) (eq-eqb state.slack state.slack refl))

    stays : (a b : ℕ) → a < classes_of state → b < classes_of state → set b ≡ false → 0 < weight state a b → NoneOut (classes_of state) (classes_of state) (weight state) set
        → ((set a ≡ true) ⊎ (set a ≡ false)) → set a ≡ false
    stays a b ha hb out joined none (inr e) = e
    stays a b ha hb out joined none (inl e) = let none_here = none a b ha hb e out in absurd (omega arith)

-- ---- a sum over branches is one over classes
pub sum_below-single : (n : ℕ) (f : ℕ → ℤ) (k : ℕ) → k < n → ((j : ℕ) → j < n → (j ≡ k → ⊥) → f j ≡ pos 0) → sum_below n f ≡ f k
sum_below-single zero f k h none = absurd (omega arith)
sum_below-single (suc n) f k h none =
    elim (cases_eq k n) [
      | inl e ↦ subst (λ (i : ℕ). sum_below n f +ℤ f n ≡ f i) (sym e) (
          let rest = sum_below-zero_each n f (λ j b. none j (omega arith) (λ same. omega arith)) in omega (arith, ints))
      | inr ne ↦
          let rest = sum_below-single n f k (omega arith) (λ j b other. none j (omega arith) other) in
          let last = none n (omega arith) (λ same. ne (sym same)) in
          omega (arith, ints)
    ]

row-sum : (n : ℕ) (es : List Edge) (f : ℕ → ℤ) (x : ℤ) → All (λ e. IsEdge n e) es → sum_below n (λ j. pos (weight_to es j) *ℤ (x -ℤ f j)) ≡ drop_over es f x
row-sum n [] f x all = sum_below-zero_each n (λ j. pos 0 *ℤ (x -ℤ f j)) (λ j b. omega (arith, ints))
row-sum n (e ∷ es) f x all =
    let rest = row-sum n es f x (All-tail (λ e. IsEdge n e) e es all) in
    let here = All-head (λ e. IsEdge n e) e es all in
    let first = sum_below-single n (λ j. pos (cond (eqb e.to j) e.b 0) *ℤ (x -ℤ f j)) e.to here.leads
    (λ j b other. ap (λ k. pos k *ℤ (x -ℤ f j)) (cond-false {A = ℕ} (eqb e.to j) e.b 0 (ne_eqb e.to j (λ same. other (sym same)))) ∙ zero_times (x -ℤ f j)) in
    let at_its_end : pos (cond (eqb e.to e.to) e.b 0) *ℤ (x -ℤ f e.to) ≡ pos e.b *ℤ (x -ℤ f e.to) =
    ap (λ k. pos k *ℤ (x -ℤ f e.to)) (cond-true {A = ℕ} (eqb e.to e.to) e.b 0 (eq-eqb e.to e.to refl)) in
    let both = sum_below-add_each n (λ j. pos (cond (eqb e.to j) e.b 0) *ℤ (x -ℤ f j)) (λ j. pos (weight_to es j) *ℤ (x -ℤ f j)) (λ j. pos (cond (eqb e.to j) e.b 0 + weight_to es j) *ℤ (x -ℤ f j))
    (λ j b. two_times (cond (eqb e.to j) e.b 0) (weight_to es j) (x -ℤ f j)) in
    both ∙ ap₂ ◌+ℤ◌ (first ∙ at_its_end) rest
  where
    zero_times : (z : ℤ) → pos 0 *ℤ z ≡ pos 0
    zero_times z = omega (arith, ints)

    two_times : (a b : ℕ) (z : ℤ) → pos (a + b) *ℤ z ≡ pos a *ℤ z +ℤ pos b *ℤ z
    two_times a b z = omega (arith, ints)

pub laplacian_is : (state : GridState) → IsSound state → (f : List ℤ) (i : ℕ) → i < classes_of state → laplacian (classes_of state) (weight state) (at f) i ≡ laplacian_at state f i
laplacian_is state sound f i h =
    row-sum (classes_of state) (row_of state i) (at f) (at f i) (All-get_or (λ row. All (λ e. IsEdge (classes_of state) e) row) state.rows i [] (omega (arith, sound.same_length)) sound.edges)

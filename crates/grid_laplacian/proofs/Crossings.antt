-- Where a carrying branch joins two classes, a live class other than the slack's has a susceptance.
use Rattle.std.proofs.Common.{◌≡◌, ℕ, zero, suc, ◌<◌, ◌≤◌, inl, inr, Bool, true, false, cond, eqb, not, List, [], ◌∷◌, length, get_or, All, arith, refl, sym, ap, subst, ◌∙◌}
use Rattle.std.proofs.lemmas.Bool.{cases_eq, cases_Bool, and_from, cond-true, cond-false, eq-eqb, eqb-true, not_from_false}
use Rattle.std.proofs.lemmas.List.Elements.{All-get_or}
use Rattle.grid_state.specs.declared.types.Edge.{Edge}
use Rattle.grid_state.specs.GridState.{GridState, row_of, weight_to, weight, classes_of, is_live, is_free, no_edge, susceptance_over, susceptance_of, IsEdge, IsSound}
use Rattle.grid_laplacian.specs.Sizes.{greatest_below, least_over, least_below, free_susceptance_of, greatest_susceptance_of, least_susceptance_of}
use Rattle.grid_laplacian.specs.Ranges.{HasCrossing}
use Rattle.grid_laplacian.proofs.Bridge.{grounded}
use Rattle.grid_laplacian.proofs.LawProofs.{part_of_weight}
use Rattle.grid_laplacian.proofs.PartialSums.{le_greatest}

weight-le-susceptance : (es : List Edge) (j : ℕ) → weight_to es j ≤ susceptance_over es
weight-le-susceptance [] j = omega arith
weight-le-susceptance (e ∷ es) j =
    let rest = weight-le-susceptance es j in
    let part = small (eqb e.to j) e.b in
    omega arith
  where
    small : (b : Bool) (x : ℕ) → cond b x 0 ≤ x
    small true x = omega arith
    small false x = omega arith

pub row_edges : (s : GridState) → IsSound s → (i : ℕ) → i < classes_of s → All (λ e. IsEdge (classes_of s) e) (row_of s i)
row_edges s sound i h = All-get_or (λ row. All (λ e. IsEdge (classes_of s) e) row) s.rows i [] (omega (arith, sound.same_length)) sound.edges

-- a class with an equation has a susceptance
pub susceptance_positive : (s : GridState) → IsSound s → (i : ℕ) → i < classes_of s → is_free s i ≡ true → 0 < susceptance_of s i
susceptance_positive s sound i h free_i =
    let out = grounded s sound (λ j. eqb j i) (λ j hj e. ap (is_free s) (eqb-true j i e) ∙ free_i) i h (eq-eqb i i refl) in
    let joined : 0 < weight s i out.outer = subst (λ (k : ℕ). 0 < weight s k out.outer) (eqb-true out.inner i out.inside) out.joined in
    let part = weight-le-susceptance (row_of s i) out.outer in
    omega arith

some_in_row : (es : List Edge) → 0 < susceptance_over es → 0 < length es
some_in_row [] h = absurd (omega arith)
some_in_row (e ∷ es) h = omega arith

-- so a carrying branch joins it to another
pub free_crosses : (s : GridState) → IsSound s → (i : ℕ) → i < classes_of s → is_free s i ≡ true → HasCrossing s
free_crosses s sound i h free_i = record { class = i; class_below = h; some = some_in_row (row_of s i) (susceptance_positive s sound i h free_i) }

pub susceptance-le-greatest : (s : GridState) (i : ℕ) → i < classes_of s → is_free s i ≡ true → susceptance_of s i ≤ greatest_susceptance_of s
susceptance-le-greatest s i h free_i =
    let whole = le_greatest (classes_of s) (free_susceptance_of s) i h in
    let e = cond-true {A = ℕ} (is_free s i) (susceptance_of s i) 0 free_i in
    omega arith

-- a class with a branch is live
live_of_row : (s : GridState) → IsSound s → (i : ℕ) → 0 < length (row_of s i) → is_live s i ≡ true
live_of_row s sound i some =
    elim (cases_Bool (is_live s i)) [
      | inl live ↦ live
      | inr dead ↦ let none = sound.dead_alone i dead in absurd (omega arith)
    ]

positive_at : (s : GridState) → IsSound s → (i : ℕ) → i < classes_of s → 0 < susceptance_of s i → eqb i s.slack ≡ false → 0 < greatest_susceptance_of s
positive_at s sound i h some other =
    let free_i = and_from (is_live s i) (not (eqb i s.slack)) (live_of_row s sound i (some_in_row (row_of s i) some)) (not_from_false (eqb i s.slack) other) in
    let most = susceptance-le-greatest s i h free_i in
    omega arith

pub crossing_positive : (s : GridState) → IsSound s → HasCrossing s → 0 < greatest_susceptance_of s
crossing_positive s sound cross =
    let i = cross.class in
    let e = get_or (row_of s i) 0 no_edge in
    let j = e.to in
    let edge = row_edges s sound i cross.class_below 0 no_edge cross.some in
    let some = edge.some in
    let part : e.b ≤ weight s i j = part_of_weight (row_of s i) 0 no_edge cross.some in
    let turned = sound.symmetric i j in
    elim (cases_Bool (eqb i s.slack)) [
      | inr other ↦ let more = weight-le-susceptance (row_of s i) j in positive_at s sound i cross.class_below (omega arith) other
      | inl same ↦
          let more = weight-le-susceptance (row_of s j) i in
          positive_at s sound j edge.leads (omega arith) (elim (cases_Bool (eqb j s.slack)) [
            | inr other ↦ other
            | inl also ↦
                let e' : j ≡ i = eqb-true j s.slack also ∙ sym (eqb-true i s.slack same) in
                let itself : weight s i j ≡ 0 = ap (weight s i) e' ∙ sound.others i in
                absurd (omega arith)
          ])
    ]

some_below : (n : ℕ) (f : ℕ → ℕ) → 0 < greatest_below n f → (i : ℕ) × (i < n) × (0 < f i)
some_below zero f h = absurd (omega arith)
some_below (suc n) f h =
    elim (cases_eq (f n) 0) [
      | inr some ↦ (n, omega arith, omega arith)
      | inl none ↦ let rest = some_below n f (omega arith) in (rest.0, (let lt : rest.0 < n = rest.1 in omega arith), rest.2)
    ]

-- a class whose susceptance is counted
pub record Counted (s : GridState) : Type 0 where
  pub class : ℕ
  pub class_below : class < classes_of s
  pub free : is_free s class ≡ true
  pub some : 0 < susceptance_of s class

pub counted : (s : GridState) → 0 < greatest_susceptance_of s → Counted s
counted s h =
    let found = some_below (classes_of s) (free_susceptance_of s) h in
    let i = found.0 in
    let some : 0 < free_susceptance_of s i = found.2 in
    elim (cases_Bool (is_free s i)) [
      | inl free_i ↦ let e = cond-true {A = ℕ} (is_free s i) (susceptance_of s i) 0 free_i in record { class = i; class_below = found.1; free = free_i; some = omega arith }
      | inr held ↦ let e = cond-false {A = ℕ} (is_free s i) (susceptance_of s i) 0 held in absurd (omega arith)
    ]

pub positive_crosses : (s : GridState) → 0 < greatest_susceptance_of s → HasCrossing s
positive_crosses s h = let c = counted s h in record { class = c.class; class_below = c.class_below; some = some_in_row (row_of s c.class) c.some }

pub least_below-le : (n : ℕ) (f : ℕ → ℕ) (k : ℕ) → k < n → least_below n f ≤ f k
least_below-le zero f k h = absurd (omega arith)
least_below-le (suc n) f k h =
    elim (cases_eq k n) [
      | inl e ↦ let same = ap f e in omega arith
      | inr ne ↦ let rest = least_below-le n f k (omega arith) in omega arith
    ]

least_over-le : (es : List Edge) → 0 < susceptance_over es → least_over es ≤ susceptance_over es
least_over-le [] h = absurd (omega arith)
least_over-le (e ∷ es) h = omega arith

pub least-le-susceptance : (s : GridState) (i : ℕ) → i < classes_of s → 0 < susceptance_of s i → least_susceptance_of s ≤ susceptance_of s i
least-le-susceptance s i h some =
    let one = least_below-le (classes_of s) (λ j. least_over (row_of s j)) i h in
    let two = least_over-le (row_of s i) some in
    omega arith

-- the least susceptance of a branch is at most the greatest of a class
pub least-le-greatest : (s : GridState) → 0 < greatest_susceptance_of s → least_susceptance_of s ≤ greatest_susceptance_of s
least-le-greatest s h =
    let c = counted s h in
    let least = least-le-susceptance s c.class c.class_below c.some in
    let most = susceptance-le-greatest s c.class c.class_below c.free in
    omega arith

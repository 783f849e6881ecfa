-- The least susceptance is that of some carrying branch, wherever one joins two classes.
use Rattle.std.proofs.Common.{◌≡◌, ℕ, zero, suc, ◌<◌, ◌≤◌, ◌⊎◌, inl, inr, List, [], ◌∷◌, length, get_or, All, arith, refl, ◌∙◌}
use Rattle.std.proofs.lemmas.List.Elements.{All-head, All-tail}
use Rattle.grid_state.specs.declared.types.Edge.{Edge}
use Rattle.grid_state.specs.GridState.{GridState, row_of, classes_of, IsEdge, IsSound}
use Rattle.grid_laplacian.specs.Sizes.{least_over, least_below, least_susceptance_of, IsLeastSusceptance}
use Rattle.grid_laplacian.specs.Ranges.{HasCrossing}
use Rattle.grid_laplacian.proofs.Crossings.{row_edges, least_below-le}
use Rattle.grid_laplacian.proofs.SizeCondition.{least_is}
use Rattle.grid_laplacian.proofs.SizeLoops.{least_below-small}

taken_over : (n : ℕ) (es : List Edge) → All (λ e. IsEdge n e) es → 0 < length es → (k : ℕ) × (e : Edge) × (k < length es) × (get_or es k e ≡ e) × (e.b ≡ least_over es)
taken_over n [] all some = absurd (omega arith)
taken_over n (e ∷ []) all some = let here = (All-head (λ x. IsEdge n x) e [] all).small in (0, e, omega arith, refl, omega arith)
taken_over n (e ∷ f ∷ es) all some =
    let rest = taken_over n (f ∷ es) (All-tail (λ x. IsEdge n x) e (f ∷ es) all) (omega arith) in
    let lt : rest.0 < length (f ∷ es) = rest.2 in
    let same : rest.1.b ≡ least_over (f ∷ es) = rest.4 in
    elim (cases_le e.b (least_over (f ∷ es))) [
      | inl le ↦ (0, e, omega arith, refl, omega arith)
      | inr lt' ↦ (suc rest.0, rest.1, omega arith, rest.3, omega arith)
    ]
  where
    cases_le : (x y : ℕ) → (x ≤ y) ⊎ (y < x)
    cases_le x y = grind arith

attained : (n : ℕ) (f : ℕ → ℕ) → least_below n f < 100000000000 → (k : ℕ) × (k < n) × (f k ≡ least_below n f)
attained zero f h = absurd (omega arith)
attained (suc n) f h =
    elim (cases_le (f n) (least_below n f)) [
      | inl le ↦ (n, omega arith, omega arith)
      | inr lt ↦ let rest = attained n f (omega arith) in (rest.0, (let below : rest.0 < n = rest.1 in omega arith), (let same : f rest.0 ≡ least_below n f = rest.2 in omega arith))
    ]
  where
    cases_le : (x y : ℕ) → (x ≤ y) ⊎ (y < x)
    cases_le x y = grind arith

some_in : (es : List Edge) → least_over es < 100000000000 → 0 < length es
some_in [] h = absurd (omega arith)
some_in (e ∷ es) h = omega arith

over-small : (es : List Edge) → least_over es ≤ 100000000000
over-small [] = omega arith
over-small (e ∷ es) = let rest = over-small es in omega arith

at_class : (s : GridState) → IsSound s → (i : ℕ) → i < classes_of s → 0 < length (row_of s i) → least_over (row_of s i) ≡ least_susceptance_of s → IsLeastSusceptance s (least_susceptance_of s)
at_class s sound i h some same =
    let found = taken_over (classes_of s) (row_of s i) (row_edges s sound i h) some in
    record { least = least_is s; class = i; class_below = h; taken = (found.0, found.1, found.2, found.3, found.4 ∙ same) }

pub least_susceptance_is : (s : GridState) → IsSound s → HasCrossing s → IsLeastSusceptance s (least_susceptance_of s)
least_susceptance_is s sound cross =
    let f : ℕ → ℕ = λ i. least_over (row_of s i) in
    let most = least_below-small (classes_of s) f in
    elim (cases_le 100000000000 (least_susceptance_of s)) [
      | inr less ↦
          let found = attained (classes_of s) f less in
          let same : least_over (row_of s found.0) ≡ least_susceptance_of s = found.2 in
          at_class s sound found.0 found.1 (some_in (row_of s found.0) (omega arith)) same
      | inl full ↦
          let low = least_below-le (classes_of s) f cross.class cross.class_below in
          let high = over-small (row_of s cross.class) in
          at_class s sound cross.class cross.class_below cross.some (omega arith)
    ]
  where
    cases_le : (x y : ℕ) → (x ≤ y) ⊎ (y < x)
    cases_le x y = grind arith

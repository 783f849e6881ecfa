-- A turn of a round.
use Rattle.std.proofs.Common.{◌≡◌, ℕ, ◌+◌, ◌<◌, ◌≤◌, ◌-ℤ◌, ◌<ℤ◌, ℤ, pos, Bool, true, false, List, arith, below_more, ap, refl}
use Rattle.std.specs.Bool.{OnTrue, OnFalse}
use Rattle.std.proofs.lemmas.Bool.{OnTrue_at, OnFalse_at, OnTrue_from, OnFalse_from, both_ways}
use Rattle.whole_laws.specs.Sums.{at}
use Rattle.grid_state.specs.GridState.{GridState, is_free, susceptance_of}
use Rattle.grid_laplacian.specs.Laws.{laplacian_at}
use Rattle.grid_laplacian.specs.Sizes.{size_of}
use Rattle.angle_sweeps.specs.Sweeps.{IsUnder}

-- what is left at i is below the susceptance, if i has an equation
abbrev pub CloseAt : GridState → List ℤ → List ℤ → ℕ → Type 0
CloseAt s p w i = is_free s i ≡ true → (at p i -ℤ laplacian_at s w i) <ℤ pos (susceptance_of s i)

pub record SoFar (s : GridState) (p first w : List ℤ) (rose : Bool) (k : ℕ) : Type 0 where
  pub under : IsUnder s p w
  pub larger : OnTrue rose (size_of first < size_of w)
  pub close : OnFalse rose ((w ≡ first) × ((i : ℕ) → i < k → CloseAt s p w i))

not_smaller : (s : GridState) (p first w : List ℤ) (rose : Bool) (k : ℕ) → SoFar s p first w rose k → size_of first ≤ size_of w
not_smaller s p first w true k so_far = let e = so_far.larger in omega (arith, OnTrue_at refl e)
not_smaller s p first w false k so_far = let e = ap size_of (OnFalse_at refl so_far.close).0 in omega arith

-- it rose here
pub rises : (s : GridState) (p first w : List ℤ) (rose : Bool) (k : ℕ) → SoFar s p first w rose k → (w' : List ℤ) → IsUnder s p w' → size_of w < size_of w'
    → SoFar s p first w' true (k + 1)
rises s p first w rose k so_far w' under' more = record {
  under = under';
  larger = OnTrue_from true (size_of first < size_of w') (λ _. let before = not_smaller s p first w rose k so_far in omega arith);
  close = OnFalse_from true ((w' ≡ first) × ((i : ℕ) → i < k + 1 → CloseAt s p w' i)) (λ e. absurd (both_ways true e refl));
}

-- it stayed
pub stays : (s : GridState) (p first w : List ℤ) (rose : Bool) (k : ℕ) → SoFar s p first w rose k → CloseAt s p w k → SoFar s p first w rose (k + 1)
stays s p first w rose k so_far here = record {
  under = so_far.under;
  larger = so_far.larger;
  close = OnFalse_from rose ((w ≡ first) × ((i : ℕ) → i < k + 1 → CloseAt s p w i)) (λ e. let before = OnFalse_at e so_far.close in (before.0, below_more (CloseAt s p w) k before.1 here));
}

pub held : (s : GridState) (p w : List ℤ) (k : ℕ) → is_free s k ≡ false → CloseAt s p w k
held s p w k e = λ free. absurd (both_ways (is_free s k) e free)

pub close_again : (s : GridState) (p w w' : List ℤ) (k : ℕ) → w' ≡ w → (at p k -ℤ laplacian_at s w' k) <ℤ pos (susceptance_of s k) → CloseAt s p w k
close_again s p w w' k e h = λ free. rw e at h

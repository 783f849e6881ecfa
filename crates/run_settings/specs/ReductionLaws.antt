-- What holds of all reductions that are read.
use Rattle.std.specs.Prelude.{◌≡◌, ◌≢◌, ◌<◌, ◌^◌, pos, ◌≤ℤ◌, true, List, length, slice_get}
use Rattle.std.specs.List.{All, AllPairs}
use Rattle.fb_types.specs.declared.crac.Element.{Element}
use Rattle.run_settings.specs.Reductions.{is_limited}
use Rattle.run_settings.specs.declared.reduction.Reduction.{Reduction}

-- the element is one of the list and is limited in the direction; each reduction is from 0 to 10^11 W
pub record IsReduction (elements : List Element) (r : Reduction) : Type 0 where
  pub place : r.element < length elements
  pub limited : is_limited r.opposite (slice_get elements r.element) ≡ true
  pub cva : (pos 0 ≤ℤ r.cva) × (r.cva ≤ℤ pos (10 ^ 11))
  pub iva : (pos 0 ≤ℤ r.iva) × (r.iva ≤ℤ pos (10 ^ 11))

-- two reductions are not of the same element in the same direction
abbrev pub AreApart : Reduction → Reduction → Type 0
AreApart r q = r.element ≡ q.element → r.opposite ≢ q.opposite

-- no element is reduced twice in a direction
pub record AreReductionsOf (elements : List Element) (reductions : List Reduction) : Type 0 where
  pub each : All (IsReduction elements) reductions
  pub once : AllPairs AreApart reductions

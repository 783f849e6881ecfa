-- What holds of all CRACs that are read.
use Rattle.std.specs.Prelude.{◌≡◌, ◌≢◌, ◌≤◌, ◌<◌, ◌^◌, ◌||◌, ℕ, ℤ, pos, ◌≤ℤ◌, true, List, length, is_some, IfSome}
use Rattle.std.specs.List.{All, AllPairs}
use Rattle.fb_types.specs.declared.grid.Branch.{Branch}
use Rattle.fb_types.specs.declared.crac.Contingency.{Contingency}
use Rattle.fb_types.specs.declared.crac.Element.{Element}
use Rattle.fb_types.specs.declared.crac.Crac.{Crac}
use Rattle.crac_model.specs.Crac.{contingency_ids, element_ids}

-- no id stands twice
abbrev pub AreDistinct : List (List ℕ) → Type 0
AreDistinct ids = AllPairs (λ a b. a ≢ b) ids

-- a limit from 1 to 10^11 W
abbrev pub IsLimit : ℤ → Type 0
IsLimit watts = (pos 1 ≤ℤ watts) × (watts ≤ℤ pos (10 ^ 11))

-- the branch is one of the grid and the contingency one of the list; the margin is from 0 to 10^11 W, and there is a limit
pub record IsElement (branches contingencies : ℕ) (e : Element) : Type 0 where
  pub branch : e.branch < branches
  pub contingency : IfSome e.contingency (λ place. place < contingencies)
  pub margin : (pos 0 ≤ℤ e.margin) × (e.margin ≤ℤ pos (10 ^ 11))
  pub direct : IfSome e.direct IsLimit
  pub opposite : IfSome e.opposite IsLimit
  pub limited : (is_some e.direct || is_some e.opposite) ≡ true

-- the branches that a contingency takes out are some of the grid
abbrev pub IsContingency : ℕ → Contingency → Type 0
IsContingency branches c = All (λ place. place < branches) c.branches

-- a CRAC over these branches
pub record IsCracOver (branches : List Branch) (crac : Crac) : Type 0 where
  pub contingencies : length crac.contingencies ≤ 512
  pub outages : All (IsContingency (length branches)) crac.contingencies
  pub distinct_contingencies : AreDistinct (contingency_ids crac.contingencies)
  pub elements : length crac.elements ≤ 20000
  pub each : All (IsElement (length branches) (length crac.contingencies)) crac.elements
  pub distinct_elements : AreDistinct (element_ids crac.elements)

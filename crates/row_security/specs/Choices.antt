-- The law that exact angles can always be chosen. Nobody need read this to know what a domain promises: it is proved of it. What is
-- said of every choice is therefore said of some.
use Rattle.std.specs.Prelude.{ℤ, List}
use Rattle.fb_types.specs.declared.grid.Grid.{Grid}
use Rattle.grid_state.specs.GridState.{GridState}
use Rattle.security.specs.Flows.{ExactAngles}
use Rattle.security.specs.Rows.{KeyedZone, Choice, IsChoice}
use Rattle.security.specs.Points.{AreAnglesAt}

-- whatever the zones are, exact angles can be chosen for the numbers of a row, and for all net positions of the Core zones
pub record HasChoices (s : GridState) (grid : Grid) : Type 0 where
  pub some : (zones : List KeyedZone) → (choice : Choice) × IsChoice s grid zones choice
  pub each : (zones : List KeyedZone) (x : List ℤ) → (e : ExactAngles) × AreAnglesAt s grid zones x e

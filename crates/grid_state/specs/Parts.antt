-- Words of private contracts, which nobody need believe: the parts of a state, once the classes of its nodes are numbered.
use Rattle.std.specs.Prelude.{◌≡◌, ℕ, ◌<◌, Bool, true, false, List, length, map}
use Rattle.fb_types.specs.declared.grid.Grid.{Grid}
use Rattle.grid_state.specs.declared.links.Link.{Link}
use Rattle.grid_state.specs.Links.{is_out, between, AreClasses}
use Rattle.grid_state.specs.Unions.{AreMarks, links_marked}

pub record AreParts (grid : Grid) (slack : ℕ) (outage : List ℕ) (out : List Bool) (count : ℕ) (class_of : List ℕ) (lines : List Link) : Type 0 where
  pub slack_below : slack < length grid.nodes
  pub marks : AreMarks (length grid.branches) out (is_out outage)
  pub classes : AreClasses (length grid.nodes) (links_marked true out grid.branches) count class_of
  pub made : lines ≡ map (between class_of) (links_marked false out grid.branches)

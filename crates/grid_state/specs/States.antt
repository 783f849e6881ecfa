-- The state of a grid, read off its nodes and branches, the slack node, and the outage: a list of branches that are left out.
-- Nodes and branches go by their places in the grid, from 0.
use Rattle.std.specs.Prelude.{◌≡◌, ℕ, List, length, map}
use Rattle.std.specs.List.{enumerate_from}
use Rattle.fb_types.specs.declared.grid.Branch.{Branch}
use Rattle.fb_types.specs.declared.grid.Grid.{Grid}
use Rattle.grid_state.specs.declared.links.Link.{Link}
use Rattle.grid_state.specs.GridState.{GridState, classes_of, class_at}
use Rattle.grid_state.specs.Links.{is_out, couplers_of, lines_of, between, AreClasses, AreReached}
use Rattle.grid_state.specs.Rows.{AreRows, carries_in}

-- the lines and transformers in operation outside the outage, as links of classes
abbrev pub class_lines_of : List ℕ → List Branch → List ℕ → List Link
class_lines_of outage branches class_of = map (between class_of) (lines_of outage branches)

pub record IsStateOf (grid : Grid) (slack : ℕ) (outage : List ℕ) (s : GridState) : Type 0 where
  -- nodes are of one class where a chain of closed couplers outside the outage joins them
  pub classes : AreClasses (length grid.nodes) (couplers_of outage grid.branches) (classes_of s) s.class_of
  pub slack_class : s.slack ≡ class_at s slack
  -- a class is live where a chain of lines and transformers in operation outside the outage joins it to the slack's class
  pub live : AreReached (classes_of s) (class_lines_of outage grid.branches s.class_of) s.slack s.live
  pub carries : s.carries ≡ map (carries_in (is_out outage) s.class_of s.live) (enumerate_from 0 grid.branches)
  pub rows : AreRows s.live (class_lines_of outage grid.branches s.class_of) s.rows

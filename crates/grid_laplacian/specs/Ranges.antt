-- How far the angles of a state reach, and the range of loads, generations and phase shifts in which all numbers of a state
-- stay within 128 bits. Powers are in watts, susceptances in kW/rad, and phase shifts in 10^-12 rad.
use Rattle.std.specs.Prelude.{ℕ, ◌+◌, ◌-◌, ◌*◌, ◌/◌, ◌^◌, ◌<◌, ◌≤◌, max, if◌then◌else◌, ◌+ℤ◌, List, length, sum_by, unsigned_abs}
use Rattle.std.specs.List.{enumerate_from}
use Rattle.fb_types.specs.declared.grid.Branch.{Branch}
use Rattle.fb_types.specs.declared.grid.Grid.{Grid}
use Rattle.grid_state.specs.GridState.{GridState, classes_of, row_of, live_count, carries_at}
use Rattle.grid_state.specs.States.{IsStateOf}
use Rattle.grid_laplacian.specs.Sizes.{greatest_susceptance_of, total_susceptance_of, least_susceptance_of}

-- ---- The reach

-- n·ceil(S/b), n being the number of live classes, S the sum of the susceptances of the live classes but the slack's, and b
-- the least susceptance. It is 0 where no carrying branch joins two classes, since S is 0 there
abbrev pub reach_of : GridState → ℕ
reach_of s = live_count s * ((total_susceptance_of s + least_susceptance_of s - 1) / least_susceptance_of s)

-- ---- The size condition

-- a carrying branch joins two classes
pub record HasCrossing (s : GridState) : Type 0 where
  pub class : ℕ
  pub class_below : class < classes_of s
  pub some : 0 < length (row_of s class)

-- the greater of a total and twice the sum S of the susceptances
abbrev pub greater_total_of : GridState → ℕ → ℕ
greater_total_of s total = max total (2 * total_susceptance_of s)

-- the size condition for a right side whose numbers add up to `total` in size: wherever a carrying branch joins two classes,
-- the number of live classes times the greater total is at most floor(2^120/s)·b, s being the greatest susceptance of a live
-- class but the slack's and b the least of a branch
abbrev pub HasRoomFor : GridState → ℕ → Type 0
HasRoomFor s total =
    HasCrossing s → live_count s * greater_total_of s total ≤ 2 ^ 120 / greatest_susceptance_of s * least_susceptance_of s

-- ---- The range rule

-- the state is one of the grid, seen from some slack node with some outage
pub record IsOfGrid (grid : Grid) (s : GridState) : Type 0 where
  pub slack_node : ℕ
  pub outage : List ℕ
  pub of_grid : IsStateOf grid slack_node outage s

-- the sum of |load + generation| over all nodes
abbrev pub exchanges_of : Grid → ℕ
exchanges_of grid = sum_by (λ node. unsigned_abs (node.load +ℤ node.generation)) grid.nodes

-- the susceptance times the size of the phase shift of a branch, given with its number, if it carries, else 0
abbrev pub shift_of : GridState → ℕ × Branch → ℕ
shift_of s p = if carries_at s p.0 then unsigned_abs p.1.b * unsigned_abs p.1.phi else 0

-- the sum over all carrying branches
abbrev pub shifts_of : GridState → Grid → ℕ
shifts_of s grid = sum_by (shift_of s) (enumerate_from 0 grid.branches)

-- in 10^-13 W, the most that the numbers of a right side may add up to in size, or twice the sum of the susceptances
abbrev pub greatest_total_of : GridState → ℕ
greatest_total_of s = greater_total_of s (2 * 10 ^ 25)

-- the range rule
pub record IsInRange (grid : Grid) (s : GridState) : Type 0 where
  -- the base balance, in 10^-13 W, adds up to at most 2·10^25 in size
  pub balance : 10 ^ 13 * exchanges_of grid + 2 * 10 ^ 4 * shifts_of s grid ≤ 2 * 10 ^ 25
  -- and there is room for right sides of this size
  pub room : HasRoomFor s (2 * 10 ^ 25)

-- The ranges of a grid's numbers: powers in watts, susceptances in kW/rad.
use Rattle.std.specs.Prelude.{◌≢◌, ℕ, ◌+◌, ◌^◌, ◌<◌, ◌≤◌, pos, ◌≤ℤ◌, List, length, IsTrue, sum_by, unsigned_abs}
use Rattle.std.specs.List.{All}
use Rattle.fb_types.specs.declared.grid.Node.{Node}
use Rattle.fb_types.specs.declared.grid.Branch.{Branch}
use Rattle.fb_types.specs.declared.grid.BranchKind.TheVariants.{Coupler}

-- the size of a node's load and generation together
abbrev pub exchange_of : Node → ℕ
exchange_of n = unsigned_abs n.load + unsigned_abs n.generation

-- all loads and generations together are at most 10^12 W in size
pub record AreInjections (nodes : List Node) : Type 0 where
  pub small : sum_by exchange_of nodes ≤ 10 ^ 12

-- a line or a transformer in operation
pub record IsRunning (branch : Branch) : Type 0 where
  pub in_operation : IsTrue branch.in_operation
  pub no_coupler : branch.kind ≢ Coupler

-- the ends are nodes, and what is in operation has a susceptance from 1 to 10^11
pub record IsBranch (nodes : ℕ) (branch : Branch) : Type 0 where
  pub from : branch.from < nodes
  pub to : branch.to < nodes
  pub some : IsRunning branch → pos 1 ≤ℤ branch.b
  pub small : IsRunning branch → branch.b ≤ℤ pos (10 ^ 11)

pub record AreBranches (nodes : ℕ) (branches : List Branch) : Type 0 where
  pub each : All (IsBranch nodes) branches

-- the nodes and the branches make a grid
pub record IsGrid (nodes : List Node) (branches : List Branch) : Type 0 where
  pub few_nodes : length nodes ≤ 4096
  pub few_branches : length branches ≤ 16384
  pub injections : AreInjections nodes
  pub branches_in_range : AreBranches (length nodes) branches

-- A grid is its nodes and its branches.
use Rattle.std.proofs.Common.{◌≡◌, ℕ, ◌≤◌, Bool, true, false, List, length, refl, subst}
use Rattle.std.proofs.Math.Bridge.{le_prop}
use Rattle.std.proofs.Math.Dec.{T}
use Rattle.fb_types.specs.GridRanges.{AreInjections, AreBranches}
use Rattle.fb_types.specs.declared.grid.Node.{Node}
use Rattle.fb_types.specs.declared.grid.Branch.{Branch}
use Rattle.fb_types.specs.declared.grid.Grid.{Grid}

test_prop : (b : Bool) → IsProp (T b)
test_prop true = λ x y. refl
test_prop false = λ x y. absurd x

injections_prop : (nodes : List Node) → IsProp (AreInjections nodes)
injections_prop nodes = hlevel le_prop

branches_prop : (n : ℕ) (branches : List Branch) → IsProp (AreBranches n branches)
branches_prop n branches = hlevel (le_prop, test_prop)

module _ (nodes : List Node) (branches : List Branch) where
  grid_over : (n n' : length nodes ≤ 4096) (b b' : length branches ≤ 16384) (i i' : AreInjections nodes) (r r' : AreBranches (length nodes) branches)
      → (let g : Grid = record { nodes = nodes; branches = branches; few_nodes = n; few_branches = b; injections_in_range = i; branches_in_range = r } in
      g ≡ record { nodes = nodes; branches = branches; few_nodes = n'; few_branches = b'; injections_in_range = i'; branches_in_range = r' })
  grid_over n n' b b' i i' r r' = λ k. record {
    nodes = nodes;
    branches = branches;
    few_nodes = le_prop n n' k;
    few_branches = le_prop b b' k;
    injections_in_range = injections_prop nodes i i' k;
    branches_in_range = branches_prop (length nodes) branches r r' k;
  }

IsGridAs : Grid → List Node → List Branch → Type 0
IsGridAs g nodes branches = (n : length nodes ≤ 4096) (b : length branches ≤ 16384) (i : AreInjections nodes) (r : AreBranches (length nodes) branches)
    → g ≡ record { nodes = nodes; branches = branches; few_nodes = n; few_branches = b; injections_in_range = i; branches_in_range = r }

grid_as : (g : Grid) (nodes : List Node) (branches : List Branch) → g.nodes ≡ nodes → g.branches ≡ branches → IsGridAs g nodes branches
unfolding IsGridAs
grid_as g nodes branches e f =
    subst (λ (x : List Node). IsGridAs g x branches) e (subst (λ (x : List Branch). IsGridAs g g.nodes x) f
    (λ n b i r. grid_over g.nodes g.branches g.few_nodes n g.few_branches b g.injections_in_range i g.branches_in_range r))

pub grid_same : (g h : Grid) → g.nodes ≡ h.nodes → g.branches ≡ h.branches → g ≡ h
unfolding IsGridAs
grid_same g h e f = grid_as g h.nodes h.branches e f h.few_nodes h.few_branches h.injections_in_range h.branches_in_range

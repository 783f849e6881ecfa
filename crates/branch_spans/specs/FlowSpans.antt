-- The span of the flow of a branch. Nobody need read this to know what a domain promises.
-- It is the flow that the angles of a column make on the branch, without its phase shift, in the unit of the column's right side
-- (10^-13 W), from a barrier and the column's enclosed angles.
use Rattle.std.specs.Prelude.{◌≡◌, ℕ, ℤ, pos, ◌+ℤ◌, ◌-ℤ◌, ◌*ℤ◌, List, slice_get, Some}
use Rattle.whole_laws.specs.Sums.{at}
use Rattle.fractions.specs.Spans.{LiesIn}
use Rattle.fb_types.specs.declared.grid.Branch.{Branch}
use Rattle.fb_types.specs.declared.grid.Grid.{Grid}
use Rattle.fb_types.specs.declared.rows.Angles.{Angles}
use Rattle.grid_state.specs.GridState.{GridState, class_at}
use Rattle.grid_laplacian.specs.Enclosures.{EnclosesColumn}
use Rattle.security.specs.Flows.{ExactAngles, AreAnglesOf, NumberedBranch, flow_of}

-- d = w_i − w_j and e = kappa·(v_i + v_j), for classes i and j
abbrev pub difference_of : Angles → ℕ → ℕ → ℤ
difference_of angles i j = at angles.w i -ℤ at angles.w j

abbrev pub doubt_of : List ℤ → Angles → ℕ → ℕ → ℤ
doubt_of v angles i j = pos angles.kappa *ℤ (at v i +ℤ at v j)

-- from b·(d − e) to b·(d + e)
abbrev pub flow_span_of : GridState → Branch → List ℤ → Angles → ℤ × ℤ
flow_span_of s branch v angles = (
  branch.b *ℤ (difference_of angles (class_at s branch.from) (class_at s branch.to) -ℤ doubt_of v angles (class_at s branch.from) (class_at s branch.to)),
  branch.b *ℤ (difference_of angles (class_at s branch.from) (class_at s branch.to) +ℤ doubt_of v angles (class_at s branch.from) (class_at s branch.to)),
)

-- the angles enclose those of some right side
pub record IsColumn (s : GridState) (angles : Angles) : Type 0 where
  pub side : List ℤ
  pub encloses : EnclosesColumn s side angles

-- the branch stands in the grid under its number
pub record IsBranchOf (grid : Grid) (c : NumberedBranch) : Type 0 where
  pub stands : slice_get grid.branches c.number ≡ Some c.branch

-- the span holds the exact flow of the branch, whatever right side the angles enclose and however its exact angles are written
abbrev pub HoldsFlow : GridState → NumberedBranch → Angles → ℤ × ℤ → Type 0
HoldsFlow s c angles span = (p : List ℤ) → EnclosesColumn s p angles → (e : ExactAngles) → AreAnglesOf s p e → LiesIn span (flow_of s c e)

-- what holds of the branch with this number
abbrev pub ForBranch : Grid → ℕ → (NumberedBranch → Type 0) → Type 0
ForBranch grid k P = (c : NumberedBranch) → c.number ≡ k → IsBranchOf grid c → P c

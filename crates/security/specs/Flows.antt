-- The exact direct-current flows of a branch, in watts: at the reference, for a watt of a zone, and where zones have other
-- net positions. Angles are exact: whole numbers over a denominator that all classes share. (The usual DC load flow: B. Stott,
-- J. Jardim, O. Alsac, "DC Power Flow Revisited", 2009. Zonal factors and flows as in the Core day-ahead capacity calculation
-- methodology, ACER decision 02-2019, annex I.)
use Rattle.std.specs.Prelude.{◌≡◌, ℕ, ◌^◌, ◌<◌, ◌≤◌, true, false, ℤ, pos, ◌-ℤ◌, ◌*ℤ◌, List, length, if◌then◌else◌}
use Rattle.std.specs.List.{AllZip, zip}
use Rattle.whole_laws.specs.Sums.{at}
use Rattle.fractions.specs.Fractions.{Fraction, Same, whole, plus, times, total}
use Rattle.fb_types.specs.declared.grid.Branch.{Branch}
use Rattle.fb_types.specs.declared.keys.Column.{Column}
use Rattle.grid_state.specs.GridState.{GridState, classes_of, class_at, is_free, carries_at}
use Rattle.grid_laplacian.specs.Laws.{Solves, laplacian_at}
use Rattle.security.specs.Quotients.{divided}
use Rattle.security.specs.Balances.{block_weights}

-- angles of the classes: whole numbers over one denominator
pub record ExactAngles : Type 0 where
  pub angles : List ℤ
  pub scale : ℕ

-- they are the angles of a right side
abbrev pub AreAnglesOf : GridState → List ℤ → ExactAngles → Type 0
AreAnglesOf s p e = Solves s p e.angles e.scale

-- they are the angles of a balance that is a fraction at each class: 0 at the slack's class and at classes that are not live, and
-- L·t/d is the balance at every other class
pub record AreAnglesFor (s : GridState) (balance : ℕ → Fraction) (e : ExactAngles) : Type 0 where
  pub each_class : length e.angles ≡ classes_of s
  pub positive : 1 ≤ e.scale
  pub fixed : (i : ℕ) → i < classes_of s → is_free s i ≡ false → at e.angles i ≡ pos 0
  pub balanced : (i : ℕ) → i < classes_of s → is_free s i ≡ true → Same (divided (whole (laplacian_at s e.angles i)) (pos e.scale)) (balance i)

-- a branch with its number
pub record NumberedBranch : Type 0 where
  pub number : ℕ
  pub branch : Branch

-- ---- Flows

-- b·(θ1 − θ2), and 0 for a branch that does not carry
abbrev pub flow_of : GridState → NumberedBranch → ExactAngles → Fraction
flow_of s c e =
    if carries_at s c.number
    then divided (whole (c.branch.b *ℤ (at e.angles (class_at s c.branch.from) -ℤ at e.angles (class_at s c.branch.to)))) (pos e.scale)
    else whole (pos 0)

-- what the phase shift of the branch adds to its flow, in nanowatts
abbrev pub shifted_by : GridState → NumberedBranch → ℤ
shifted_by s c = if carries_at s c.number then c.branch.b *ℤ c.branch.phi else pos 0

-- nanowatts as watts
abbrev pub in_watts : Fraction → Fraction
in_watts p = divided p (pos (10 ^ 9))

-- the reference flow, by angles of the base balance
abbrev pub reference_flow_of : GridState → NumberedBranch → ExactAngles → Fraction
reference_flow_of s c e = in_watts (plus (flow_of s c e) (whole (shifted_by s c)))

-- the flow where zones have other net positions, by angles of their balance
abbrev pub flow_with : GridState → NumberedBranch → ExactAngles → Fraction
flow_with s c e = in_watts (plus (flow_of s c e) (whole (shifted_by s c)))

-- the factor of a zone, by angles of the weights of each of its blocks: the sum over the blocks of share/10^8 times the flow of
-- the weights over their total
abbrev pub factor_of : GridState → NumberedBranch → Column → List ExactAngles → Fraction
factor_of s c key es = total (λ z. divided (times z.0.share (flow_of s c z.1)) (pos (10 ^ 8) *ℤ z.0.total)) (zip key.blocks es)

-- ---- Choices of exact angles

-- angles for each block of a key
abbrev pub AreAnglesOfKey : GridState → Column → List ExactAngles → Type 0
AreAnglesOfKey s key es = AllZip (λ block e. AreAnglesOf s (block_weights s block) e) key.blocks es

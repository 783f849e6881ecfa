-- Words of private contracts: the first reason for which a record fails, kind by kind. Nobody need believe them.
use Rattle.std.specs.Prelude.{◌≡◌, ◌<◌, List, ℤ, Option, Some, None, ◌⊎◌}
use Rattle.fb_types.specs.declared.rows.Angles.{Angles}
use Rattle.grid_state.specs.GridState.{GridState}
use Rattle.grid_laplacian.specs.Enclosures.{IsBarrier, IsNear}
use Rattle.certificate_check.specs.declared.verdict.Reason.{Reason}
use Rattle.certificate_check.specs.declared.verdict.Reason.TheVariants as why
use Rattle.cnec_rows.specs.declared.types.RowProof.{RowProof}
use Rattle.certificate_check.specs.Records.{IsColumn}

pub record IsAngleFault (s : GridState) (p : List ℤ) (angles : Angles) (reason : Reason) : Type 0 where
  pub is : reason ≡ why.Angle
  pub fails : IsColumn s p angles → ⊥

pub record IsKappaFault (s : GridState) (p : List ℤ) (angles : Angles) (reason : Reason) : Type 0 where
  pub is : reason ≡ why.Kappa
  pub column : IsColumn s p angles
  pub some : 0 < angles.kappa
  pub less : IsNear s p angles.w 0

abbrev pub ColumnRuling : GridState → List ℤ → Angles → Option Reason → Type 0
ColumnRuling s p angles None = IsColumn s p angles × (IsNear s p angles.w 0 → angles.kappa ≡ 0)
ColumnRuling s p angles (Some reason) = IsAngleFault s p angles reason ⊎ IsKappaFault s p angles reason

pub record IsBarrierFault (s : GridState) (v : List ℤ) (reason : Reason) : Type 0 where
  pub is : reason ≡ why.Barrier
  pub fails : IsBarrier s v → ⊥

abbrev pub BarrierRuling : GridState → List ℤ → Option Reason → Type 0
BarrierRuling s v None = IsBarrier s v
BarrierRuling s v (Some reason) = IsBarrierFault s v reason

-- ---- rows

pub record IsClassFault (due numbers : RowProof) (reason : Reason) : Type 0 where
  pub is : reason ≡ why.Class
  pub fails : numbers.class ≡ due.class → ⊥

pub record IsCoefficientFault (due numbers : RowProof) (reason : Reason) : Type 0 where
  pub is : reason ≡ why.Coefficient
  pub class : numbers.class ≡ due.class
  pub fails : numbers.a ≡ due.a → ⊥

pub record IsSideFault (due numbers : RowProof) (reason : Reason) : Type 0 where
  pub is : reason ≡ why.RightSide
  pub class : numbers.class ≡ due.class
  pub a : numbers.a ≡ due.a
  pub fails : (numbers.r_in ≡ due.r_in) × (numbers.r_out ≡ due.r_out) → ⊥

abbrev pub RowRuling : RowProof → RowProof → Option Reason → Type 0
RowRuling due numbers None =
    (numbers.class ≡ due.class) × (numbers.a ≡ due.a)
    × (numbers.r_in ≡ due.r_in) × (numbers.r_out ≡ due.r_out)
RowRuling due numbers (Some reason) =
    IsClassFault due numbers reason ⊎ (IsCoefficientFault due numbers reason ⊎ IsSideFault due numbers reason)

use Rattle.std.proofs.Common.{◌≡◌, ℕ, ◌<◌, ◌≤◌, ◌*◌, ◌-ℤ◌, true}
use Rattle.std.specs.Prelude.{unsigned_abs}
use Rattle.whole_laws.specs.Sums.{at}
use Rattle.grid_state.specs.GridState.{is_free, susceptance_of}
use Rattle.grid_laplacian.specs.Laws.{laplacian_at}
use Rattle.certificate_check.proofs.columns.is_near.Given as goal

abbrev pub invariant-loop-class : goal.invariant-loop-class
invariant-loop-class l =
    (i : ℕ) → i < l.class → is_free l.state i ≡ true
    → unsigned_abs (at l.p i -ℤ laplacian_at l.state l.w i) ≤ l.kappa * susceptance_of l.state i

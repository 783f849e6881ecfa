use Rattle.std.proofs.Common.{◌≡◌, ℕ, ◌<◌, ◌≤ℤ◌, pos, true}
use Rattle.grid_state.specs.GridState.{is_free, susceptance_of}
use Rattle.grid_laplacian.specs.Laws.{laplacian_at}
use Rattle.certificate_check.proofs.barriers.is_barrier.Given as goal

abbrev pub invariant-loop-class : goal.invariant-loop-class
invariant-loop-class l =
    (i : ℕ) → i < l.class → is_free l.state i ≡ true → pos (susceptance_of l.state i) ≤ℤ laplacian_at l.state l.v i

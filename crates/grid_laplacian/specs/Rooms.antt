-- Words of private contracts, which nobody need believe: what keeps the partial sums of a residual within 128 bits. The contract of `residual_at` says
-- what its callers owe.
use Rattle.std.specs.Prelude.{◌*◌, ◌^◌, ◌≤◌, List, length, All, ℤ, unsigned_abs}
use Rattle.grid_state.specs.declared.types.Edge.{Edge}
use Rattle.grid_state.specs.GridState.{IsEdge, susceptance_over}

pub record HasRoom (row : List Edge) (w : List ℤ) (start here : ℤ) : Type 0 where
  pub edges : All (λ e. IsEdge (length w) e) row
  pub start_small : unsigned_abs start ≤ 2 ^ 121
  pub here_small : susceptance_over row * unsigned_abs here ≤ 2 ^ 121
  pub there_small : All (λ z. susceptance_over row * unsigned_abs z ≤ 2 ^ 121) w

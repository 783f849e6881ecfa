use Rattle.std.proofs.Common.{All, take}
use Rattle.grid_laplacian.specs.Ranges.{IsInRange}
use Rattle.run_inputs.proofs.range.first_out_of_range.Given as goal

abbrev pub invariant-loop-number : goal.invariant-loop-number
invariant-loop-number l = All (IsInRange l.grid) (take l.number l.states)

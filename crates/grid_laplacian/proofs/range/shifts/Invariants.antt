use Rattle.std.proofs.Common.{◌≡◌, ◌≤◌, ◌*◌, ◌^◌, sum_by, take}
use Rattle.std.specs.List.{enumerate_from}
use Rattle.grid_laplacian.specs.Ranges.{shift_of}
use Rattle.grid_laplacian.proofs.range.shifts.Given as goal

abbrev pub invariant-loop-number : goal.invariant-loop-number
invariant-loop-number l = record {
  so_far : l.sum ≡ sum_by (shift_of l.state) (take l.number (enumerate_from 0 l.branches));
  small : l.sum ≤ l.number * (10 ^ 11 * 2 ^ 63);
}

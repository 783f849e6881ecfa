use Rattle.std.proofs.Common.{◌≡◌, ℕ, ◌<◌, length}
use Rattle.whole_laws.specs.Sums.{at}
use Rattle.redundancy.specs.Thinned.{row_of}
use Rattle.redundancy.specs.Points.{slack_at}
use Rattle.redundancy.proofs.screens.column.Given as goal

abbrev pub invariant-loop-row : goal.invariant-loop-row
invariant-loop-row l = (length l.slacks ≡ l.row-index) × ((k : ℕ) → k < l.row-index → at l.slacks k ≡ slack_at (row_of l.rows k) l.x)

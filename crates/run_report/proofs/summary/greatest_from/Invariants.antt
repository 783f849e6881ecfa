use Rattle.std.proofs.Common.{◌≡◌, take}
use Rattle.std.specs.Int.{int_max}
use Rattle.std.specs.List.{fold}
use Rattle.run_report.specs.ReportTexts.{gap_of}
use Rattle.run_report.proofs.summary.greatest_from.Given as goal

abbrev pub invariant-loop-row : goal.invariant-loop-row
invariant-loop-row l = l.greatest ≡ fold (λ gap r. int_max gap (gap_of r)) l.fn.first (take l.row-index l.rows)

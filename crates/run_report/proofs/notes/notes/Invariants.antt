use Rattle.std.proofs.Common.{◌≡◌, map, take}
use Rattle.serde_json.specs.Written.{compact_text}
use Rattle.run_report.specs.ReportTexts.{notes}
use Rattle.run_report.proofs.notes.notes.Given as goal

abbrev pub invariant-loop-branch : goal.invariant-loop-branch
invariant-loop-branch l = l.ids ≡ map compact_text (notes (take l.branch-index l.branches))

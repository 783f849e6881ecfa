use Rattle.std.proofs.Common.{◌≡◌, ◌++◌, false, map, take, string_bytes}
use Rattle.serde_json.specs.Written.{compact_text}
use Rattle.fb_certificate.specs.CracRows.{crac_rows}
use Rattle.run_report.specs.Lines.{joined}
use Rattle.run_report.specs.ReportTexts.{row_trees}
use Rattle.run_report.proofs.rows.put_rows.Given as goal

abbrev pub invariant-loop-place : goal.invariant-loop-place
invariant-loop-place l = string_bytes l.line
    ≡ string_bytes l.initial.line ++ joined false (take l.place (map compact_text
    (row_trees (crac_rows l.inputs.crac.elements) l.certificate.rows l.spans)))

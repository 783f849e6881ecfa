use Rattle.std.proofs.Common.{◌≡◌, ◌++◌, take}
use Rattle.csv_rows.specs.Tables.{table_text}
use Rattle.domain_report.specs.DomainTexts.{records}
use Rattle.domain_report.proofs.put_rows.Given as goal

abbrev pub invariant-loop-place : goal.invariant-loop-place
invariant-loop-place l = l.table.text ≡ l.initial.table.text ++ table_text (take l.place (records l.inputs.crac l.certificate))

use Rattle.std.proofs.Common.{◌≡◌, ◌++◌, map, take}
use Rattle.csv_rows.specs.Tables.{table_text}
use Rattle.certificate_text.specs.Pieces.{cite_fields}
use Rattle.certificate_text.proofs.cites.put_cites.Given as goal

abbrev pub invariant-loop-cite : goal.invariant-loop-cite
invariant-loop-cite l = l.table.text ≡ l.initial.table.text ++ table_text (map (cite_fields l.kind) (take l.cite-index l.cites))

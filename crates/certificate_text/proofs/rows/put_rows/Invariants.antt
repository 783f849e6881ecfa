use Rattle.std.proofs.Common.{◌≡◌, ◌++◌, map, take}
use Rattle.std.specs.List.{enumerate_from}
use Rattle.certificate_text.specs.CertificateTexts.{line_of_row, lines_text}
use Rattle.certificate_text.proofs.rows.put_rows.Given as goal

abbrev pub invariant-loop-k : goal.invariant-loop-k
invariant-loop-k l = l.table.text ≡ l.initial.table.text ++ lines_text (map line_of_row (take l.k (enumerate_from 1 l.rows)))

use Rattle.std.proofs.Common.{◌≡◌, ◌++◌, map, take}
use Rattle.std.specs.List.{zip}
use Rattle.certificate_text.specs.CertificateTexts.{line_of_column, lines_text}
use Rattle.certificate_text.proofs.columns.put_columns.Given as goal

abbrev pub invariant-loop-k : goal.invariant-loop-k
invariant-loop-k l = l.table.text ≡ l.initial.table.text ++ lines_text (map (line_of_column l.state) (take l.k (zip l.places l.blocks)))

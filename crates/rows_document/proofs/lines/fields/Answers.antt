use Rattle.std.proofs.Common.{◌==◌, arith}
use Rattle.std.proofs.lemmas.List.Splits.{length-slice_split}
use Rattle.rows_document.proofs.lines.fields.Goals as goal

pub returns-then-commas-ge-MOST_FIELDS-clause-none : goal.returns-then-commas-ge-MOST_FIELDS-clause-none
returns-then-commas-ge-MOST_FIELDS-clause-none c = omega (arith, length-slice_split (λ b. b == 44) c.args.line.now, c.commas.ensures)

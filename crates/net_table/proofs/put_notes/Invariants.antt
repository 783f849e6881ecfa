use Rattle.std.proofs.Common.{◌≡◌, ◌++◌, take}
use Rattle.csv_rows.specs.Tables.{table_text}
use Rattle.net_table.specs.NetTexts.{note_rows}
use Rattle.net_table.proofs.put_notes.Given as goal

abbrev pub invariant-loop-branch : goal.invariant-loop-branch
invariant-loop-branch l = l.table.text ≡ l.initial.table.text ++ table_text (note_rows (take l.branch-index l.branches))

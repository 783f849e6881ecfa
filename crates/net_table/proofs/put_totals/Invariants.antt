use Rattle.std.proofs.Common.{◌≡◌, ◌++◌, take}
use Rattle.csv_rows.specs.Tables.{table_text}
use Rattle.net_table.specs.NetTexts.{rows_of}
use Rattle.net_table.specs.Totals.{totals_in}
use Rattle.net_table.proofs.put_totals.Given as goal

abbrev pub invariant-loop-k : goal.invariant-loop-k
invariant-loop-k l = l.table.text ≡ l.initial.table.text ++ table_text (rows_of (totals_in (take l.k l.totals.entries)))

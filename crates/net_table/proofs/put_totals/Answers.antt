use Rattle.std.proofs.Common.{rules, w64, ◌++◌, [], ◌∷◌, take, sym, ap, ◌∙◌}
use Rattle.std.specs.Prelude.{string_bytes}
use Rattle.std.specs.Fmt.{signed_decimal}
use Rattle.std.proofs.lemmas.Int.{to_z-of_z}
use Rattle.csv_rows.specs.Tables.{table_text, record_text}
use Rattle.csv_rows.specs.TableLaws.{record_more}
use Rattle.net_table.specs.NetTexts.{rows_of}
use Rattle.net_table.specs.Totals.{totals_in}
use Rattle.net_table.proofs.TableRows.{total_more}
use Rattle.net_table.proofs.put_totals.Goals as goal

pub loop-k-preserved : goal.loop-k-preserved
loop-k-preserved c =
    let entries = c.args.totals.now.entries in
    let k = c.loop-k.k in
    let code = c.as_bytes.ensures.value in
    let net = c.as_bytes-in-loop-k.ensures.value ∙ c.format-net.ensures.text ∙ ap signed_decimal (to_z-of_z w64 c.in-Some.net.now (search rules)) in
    record_more c.args.table.now.text c.loop-k.table.text _ (rows_of (totals_in (take k entries))) (string_bytes c.in-Some.code.now ∷ signed_decimal c.in-Some.net.now ∷ [])
    c.loop-k.invariant (c.in_ok-put_slices.ensures.ok ∙ (λ i. c.loop-k.table.text ++ record_text (code i ∷ net i ∷ [])))
    ∙ ap (λ rs. c.args.table.now.text ++ table_text rs) (sym (total_more entries k (c.in-Some.code.now, c.in-Some.net.now) (sym c.in-Some.ensures.entry)))

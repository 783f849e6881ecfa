use Rattle.std.proofs.Common.{◌++◌, map, take, sym, ap, ◌∙◌}
use Rattle.csv_rows.specs.Tables.{table_text}
use Rattle.csv_rows.specs.TableLaws.{record_more}
use Rattle.certificate_text.specs.Pieces.{cite_fields}
use Rattle.certificate_text.proofs.Appending.{item_more, mapped_more}
use Rattle.certificate_text.proofs.cites.put_cites.Goals as goal

pub loop-cite-preserved : goal.loop-cite-preserved
loop-cite-preserved c =
    let fields = cite_fields c.args.kind.now in
    let cites = c.args.cites.now in
    let k = c.loop-cite.cite-index in
    let cite = c.cite-item.result in
    record_more c.args.table.now.text c.loop-cite.table.text c.put_cite.new.table.text (map fields (take k cites)) (fields cite) c.loop-cite.invariant c.in_ok-put_cite.ensures
    ∙ ap (λ rs. c.args.table.now.text ++ table_text rs) (sym (mapped_more fields cites k cite (item_more cites k cite c.loop-cite-test.true c.cite-item.is)))

use Rattle.std.proofs.Common.{◌+◌, ◌++◌, map, take, sym, ap, ◌∙◌, arith}
use Rattle.std.specs.List.{enumerate_from}
use Rattle.certificate_text.specs.CertificateTexts.{line_of_row, lines_text}
use Rattle.certificate_text.proofs.Appending.{line_added, mapped_more, numbered_more, numbered_done}
use Rattle.certificate_text.proofs.rows.put_rows.Goals as goal

pub loop-k-preserved : goal.loop-k-preserved
loop-k-preserved c =
    let rows = c.args.rows.now in
    let k = c.loop-k.k in
    let row = c.index-rows-k.result in
    let numbered = enumerate_from 1 rows in
    line_added c.args.table.now.text c.loop-k.table.text c.put_numbered.new.table.text (map line_of_row (take k numbered)) (line_of_row (k + 1, row)) c.loop-k.invariant c.in_ok-put_numbered.ensures
    ∙ ap (λ ls. c.args.table.now.text ++ lines_text ls)
    (sym (mapped_more line_of_row numbered k (k + 1, row) (numbered_more 1 rows k (k + 1) row c.loop-k-test.true (omega arith) c.index-rows-k.is)))

pub returns : goal.returns
returns c = c.loop-k.invariant ∙ ap (λ ls. c.args.table.now.text ++ lines_text (map line_of_row ls)) (numbered_done 1 c.args.rows.now c.loop-k.k c.loop-k-test.false)

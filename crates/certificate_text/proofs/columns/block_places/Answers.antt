use Rattle.std.proofs.Common.{◌+◌, ◌++◌, sym, ap, ◌∙◌, arith}
use Rattle.std.specs.List.{enumerate_from, flat_map}
use Rattle.certificate_text.specs.CertificateTexts.{zone_places}
use Rattle.certificate_text.proofs.Appending.{flat_more, numbered_more, numbered_done}
use Rattle.certificate_text.proofs.columns.block_places.Goals as goal

pub loop-k-preserved : goal.loop-k-preserved
loop-k-preserved c =
    let columns = c.args.columns.now in
    let k = c.loop-k.k in
    let column = c.index-columns-k.result in
    c.in_ok-put_zone_places.ensures
    ∙ ap (λ ps. ps ++ zone_places (k + 1, column)) c.loop-k.invariant
    ∙ sym (flat_more zone_places (enumerate_from 1 columns) k (k + 1, column) (numbered_more 1 columns k (k + 1) column c.loop-k-test.true (omega arith) c.index-columns-k.is))

pub returns : goal.returns
returns c = c.loop-k.invariant ∙ ap (flat_map zone_places) (numbered_done 1 c.args.columns.now c.loop-k.k c.loop-k-test.false)

use Rattle.std.proofs.Common.{◌≡◌, ◌<◌, ◌≤◌, ◌++◌, length, get_or, map, take, sym, ap, ◌∙◌, arith}
use Rattle.std.specs.List.{zip}
use Rattle.certificate_text.specs.CertificateTexts.{line_of_column, lines_text}
use Rattle.certificate_text.proofs.Appending.{line_added, mapped_more, pairs_more, pairs_done}
use Rattle.certificate_text.proofs.columns.put_columns.Goals as goal

pub returns-in_default : goal.returns-in_default
returns-in_default c =
    let past : length c.args.places.now ≤ c.loop-k.k = c.in_default.ensures.lookup.3 in
    c.loop-k.invariant
    ∙ ap (λ ps. c.args.table.now.text ++ lines_text (map (line_of_column c.args.state) ps)) (pairs_done c.args.places.now c.args.blocks.now c.loop-k.k (omega (arith, past)))

pub loop-k-preserved : goal.loop-k-preserved
loop-k-preserved c =
    let places = c.args.places.now in
    let blocks = c.args.blocks.now in
    let k = c.loop-k.k in
    let place = c.in-Some.place.now in
    let angles = c.index-blocks-k.result in
    let line = line_of_column c.args.state in
    let within : k < length places = c.in-Some.ensures.lookup.3.0 in
    let read : place ≡ get_or places k place = c.in-Some.ensures.lookup.1 in
    let pairs = zip places blocks in
    line_added c.args.table.now.text c.loop-k.table.text c.put_column.new.table.text (map line (take k pairs)) (line (place, angles)) c.loop-k.invariant c.in_ok-put_column.ensures
    ∙ ap (λ ls. c.args.table.now.text ++ lines_text ls) (sym (mapped_more line pairs k (place, angles) (pairs_more places blocks k place angles within c.loop-k-test.true read c.index-blocks-k.is)))

pub returns : goal.returns
returns c =
    c.loop-k.invariant
    ∙ ap (λ ps. c.args.table.now.text ++ lines_text (map (line_of_column c.args.state) ps)) (pairs_done c.args.places.now c.args.blocks.now c.loop-k.k (omega (arith, c.loop-k-test.false)))

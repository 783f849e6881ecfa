use Rattle.std.proofs.lemmas.Result.{IfOk-weaker}
use Rattle.fb_certificate.proofs.RunLaws.{numbered_row}
use Rattle.fb_certificate.proofs.row.row_at.Goals as goal

pub returns-clause-numbers : goal.returns-clause-numbers
returns-clause-numbers c =
    IfOk-weaker c.row_of.result _ _
    (λ found numbers row stands. numbers row (numbered_row c.args.inputs.now c.in_ok-rows.rows.items c.args.row row c.index.result.now c.in_ok-rows.ensures stands c.index.ensures))
    c.row_of.ensures.numbers

pub returns-clause-holds : goal.returns-clause-holds
returns-clause-holds c =
    IfOk-weaker c.row_of.result _ _
    (λ found holds row stands. holds row (numbered_row c.args.inputs.now c.in_ok-rows.rows.items c.args.row row c.index.result.now c.in_ok-rows.ensures stands c.index.ensures))
    c.row_of.ensures.holds

pub returns-clause-right : goal.returns-clause-right
returns-clause-right c =
    IfOk-weaker c.row_of.result _ _
    (λ found right row stands. right row (numbered_row c.args.inputs.now c.in_ok-rows.rows.items c.args.row row c.index.result.now c.in_ok-rows.ensures stands c.index.ensures))
    c.row_of.ensures.right

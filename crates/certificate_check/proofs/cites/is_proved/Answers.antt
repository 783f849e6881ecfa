use Rattle.std.proofs.Common.{◌-◌, List, get_or, ap, ◌∙◌, arith}
use Rattle.fb_types.specs.declared.rows.Half.{Half}
use Rattle.row_removal.specs.Kinds.{kind_of}
use Rattle.certificate_check.proofs.CiteSteps.{follows_from}
use Rattle.certificate_check.proofs.cites.is_proved.Goals as goal

pub returns : goal.returns
returns c =
    let some = c.if-number-eq0.false in
    let within = c.if-count-number.false in
    follows_from (kind_of c.args.list.now.kind) c.args.list.now.bounds.now c.args.list.now.rows.now
    c.args.list.now.halves c.args.cite.now c.index-as_slice-number.result c.follows.result
    c.requires.halves
    (c.index-as_slice-number.is ∙ ap
    (λ (hs : List Half). get_or hs (c.args.cite.now.row - 1) c.index-as_slice-number.result) c.as_slice.ensures.items)
    (omega (arith, some)) (omega (arith, within)) c.follows.ensures.exact

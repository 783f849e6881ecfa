use Rattle.std.proofs.Common.{ap, sym, ◌∙◌}
use Rattle.certificate_check.specs.declared.judgement.Judgement.{Judgement}
use Rattle.certificate_check.specs.declared.judgement.Judgement.TheVariants.{Failed}
use Rattle.certificate_check.specs.declared.verdict.Reason.TheVariants as why
use Rattle.certificate_check.specs.Judged.{followed, joined}
use Rattle.certificate_check.proofs.Claims.{small_numbers, few_judgements}
use Rattle.certificate_check.proofs.Joining.{even_judged, uneven_judged}
use Rattle.certificate_check.proofs.states.judge_states.Goals as goal

pub joined-judgement-requires-clause-few : goal.joined-judgement-requires-clause-few
joined-judgement-requires-clause-few g c =
    rw c.as_slice.ensures.items
    (few_judgements c.args.inputs.now c.args.proofs.now c.in_ok-judgements.judgements c.in_ok-judgements.ensures
    c.requires.whole)

pub joined-judgement-requires-clause-small : goal.joined-judgement-requires-clause-small
joined-judgement-requires-clause-small g c =
    rw c.as_slice.ensures.items
    (small_numbers c.args.inputs.now c.args.proofs.now c.in_ok-judgements.judgements c.in_ok-judgements.ensures)

pub returns-then-len-proofs-clause-judged : goal.returns-then-len-proofs-clause-judged
returns-then-len-proofs-clause-judged g c =
    even_judged c.args.inputs.now c.args.proofs.now c.in_ok-judgements.judgements c.in_ok-judgements.ensures
    c.joined-judgement.result (sym c.len.ensures.count ∙ c.if-len-proofs.true)
    (c.joined-judgement.ensures.value ∙ ap joined c.as_slice.ensures.items)

pub returns-clause-judged : goal.returns-clause-judged
returns-clause-judged g c =
    uneven_judged c.args.inputs.now c.args.proofs.now c.in_ok-judgements.judgements c.in_ok-judgements.ensures
    c.then.result (λ e. c.if-len-proofs.false (c.len.ensures.count ∙ e))
    (c.then.ensures.value
    ∙ ap (λ (j : Judgement). followed j (Failed 1 why.Order))
    (c.joined-judgement.ensures.value ∙ ap joined c.as_slice.ensures.items))

use Rattle.std.proofs.Common.{subst, sym}
use Rattle.fb_certificate.specs.Lists.{inner_list}
use Rattle.certificate_check.specs.CiteRulings.{AreCitesJudged, AreListsJudged}
use Rattle.certificate_check.specs.declared.judgement.Judgement.{Judgement}
use Rattle.certificate_check.proofs.CiteSteps.{inner_fails, lists_judged}
use Rattle.certificate_check.proofs.cites.judge_lists.Goals as goal

pub returns-in-Failed-clause-judged : goal.returns-in-Failed-clause-judged
returns-in-Failed-clause-judged c =
    inner_fails c.args.bounds.now c.args.rows.now c.args.inner.now c.args.outer.now c.in-Failed.record
    c.in-Failed.reason
    (subst (λ (j : Judgement). AreCitesJudged inner_list c.args.bounds.now c.args.rows.now c.args.inner.now j)
    c.in-Failed.is c.in_ok-records.ensures.judged)

pub returns-clause-judged : goal.returns-clause-judged
returns-clause-judged c =
    subst (λ (j : Judgement). AreListsJudged c.args.bounds.now c.args.rows.now c.args.inner.now c.args.outer.now j)
    (sym c.behind.ensures.value)
    (lists_judged c.args.bounds.now c.args.rows.now c.args.inner.now c.args.outer.now c.in-Passed.records
    c.in_ok-judgement.judgement
    (subst (λ (j : Judgement). AreCitesJudged inner_list c.args.bounds.now c.args.rows.now c.args.inner.now j)
    c.in-Passed.is c.in_ok-records.ensures.judged)
    c.in_ok-judgement.ensures.judged)

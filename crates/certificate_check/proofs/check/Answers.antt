use Rattle.std.proofs.Common.{subst}
use Rattle.certificate_check.specs.Judged.{IsJudged, domain_records, AreStatesJudged}
use Rattle.certificate_check.specs.declared.judgement.Judgement.{Judgement}
use Rattle.certificate_check.specs.declared.judgement.Judgement.TheVariants.{Passed, Failed}
use Rattle.certificate_check.proofs.Conclusions.{states_in_certificate, states_proved, whole_states_fail, whole_domain_fails, whole_passes}
use Rattle.certificate_check.proofs.check.Goals as goal

pub returns-in-Failed : goal.returns-in-Failed
returns-in-Failed g c =
    let judged = subst (λ (j : Judgement). AreStatesJudged c.args.inputs.now c.as_slice-proofs.result.now j) c.in-Failed.is
    c.in_ok-records.ensures.judged in
    whole_states_fail c.args.inputs.now c.args.certificate.now c.in-Failed.record c.in-Failed.reason
    c.if-certificate-ne1.false
    (states_in_certificate c.args.inputs.now c.args.certificate.now c.as_slice-proofs.result.now
    (Failed c.in-Failed.record c.in-Failed.reason) c.as_slice-proofs.ensures.items (judged c.args.certificate.now))

pub judge_domain-requires-clause-proofs : goal.judge_domain-requires-clause-proofs
judge_domain-requires-clause-proofs g c =
    let judged = subst (λ (j : Judgement). AreStatesJudged c.args.inputs.now c.as_slice-proofs.result.now j) c.in-Passed.is
    c.in_ok-records.ensures.judged in
    states_proved c.args.inputs.now c.args.certificate.now c.in-Passed.records
    (states_in_certificate c.args.inputs.now c.args.certificate.now c.as_slice-proofs.result.now
    (Passed c.in-Passed.records) c.as_slice-proofs.ensures.items (judged c.args.certificate.now))

pub returns-in-Passed-2 : goal.returns-in-Passed-2
returns-in-Passed-2 g c =
    let judged = subst (λ (j : Judgement). AreStatesJudged c.args.inputs.now c.as_slice-proofs.result.now j) c.in-Passed.is
    c.in_ok-records.ensures.judged in
    whole_passes c.args.inputs.now c.args.certificate.now c.in-Passed.records c.in-Passed-2.records
    c.if-certificate-ne1.false
    (states_in_certificate c.args.inputs.now c.args.certificate.now c.as_slice-proofs.result.now
    (Passed c.in-Passed.records) c.as_slice-proofs.ensures.items (judged c.args.certificate.now))
    (subst (λ (j : Judgement). IsJudged c.args.inputs.now c.args.certificate.now
    (domain_records c.args.inputs.now c.args.certificate.now) j) c.in-Passed-2.is c.in_ok-judge_domain.ensures.judged)

pub returns-in-Failed-2 : goal.returns-in-Failed-2
returns-in-Failed-2 g c =
    let judged = subst (λ (j : Judgement). AreStatesJudged c.args.inputs.now c.as_slice-proofs.result.now j) c.in-Passed.is
    c.in_ok-records.ensures.judged in
    whole_domain_fails c.args.inputs.now c.args.certificate.now c.in-Passed.records c.in-Failed-2.record
    c.in-Failed-2.reason c.if-certificate-ne1.false
    (states_in_certificate c.args.inputs.now c.args.certificate.now c.as_slice-proofs.result.now
    (Passed c.in-Passed.records) c.as_slice-proofs.ensures.items (judged c.args.certificate.now))
    (subst (λ (j : Judgement). IsJudged c.args.inputs.now c.args.certificate.now
    (domain_records c.args.inputs.now c.args.certificate.now) j) c.in-Failed-2.is c.in_ok-judge_domain.ensures.judged)

use Rattle.std.proofs.Common.{List, ℤ, subst, sym}
use Rattle.std.specs.Prelude.{Option, Some, None}
use Rattle.fb_types.specs.declared.keys.Column.{Column}
use Rattle.fb_types.specs.declared.rows.Angles.{Angles}
use Rattle.security.specs.Balances.{reference_side}
use Rattle.certificate_check.specs.Judged.{AreZonesJudged, IsStateJudged}
use Rattle.certificate_check.specs.Rulings.{BarrierRuling, ColumnRuling}
use Rattle.certificate_check.specs.declared.judgement.Judgement.{Judgement}
use Rattle.certificate_check.specs.declared.verdict.Reason.{Reason}
use Rattle.certificate_check.proofs.Reaching.{where_none}
use Rattle.certificate_check.proofs.Stepping.{state_barrier_fails, state_reference_fails, state_judged}
use Rattle.certificate_check.proofs.states.judge_state.Goals as goal

pub returns-in-Some-clause-judged : goal.returns-in-Some-clause-judged
returns-in-Some-clause-judged c = λ cert.
    state_barrier_fails c.args.inputs.now cert c.args.state.now c.args.proof.now c.in-Some.reason
    (subst (λ (v : List ℤ). BarrierRuling c.args.state.now v (Some c.in-Some.reason)) c.as_slice.ensures.items
    c.in-Some.ensures)

pub returns-in-Some-2-clause-judged : goal.returns-in-Some-2-clause-judged
returns-in-Some-2-clause-judged c = λ cert.
    state_reference_fails c.args.inputs.now cert c.args.state.now c.args.proof.now c.in-Some-2.reason
    (subst (λ (v : List ℤ). BarrierRuling c.args.state.now v None) c.as_slice.ensures.items c.in_default.ensures)
    (subst (λ (o : Option Reason). ColumnRuling c.args.state.now
    (reference_side c.args.state.now c.args.inputs.now.grid) c.args.proof.now.reference o) c.in-Some-2.is
    c.in_ok-reason.ensures)

pub returns-clause-judged : goal.returns-clause-judged
returns-clause-judged c =
    subst (λ (j : Judgement). IsStateJudged c.args.inputs.now c.args.state.now c.args.proof.now j)
    (sym c.behind.ensures.value) (λ cert.
    state_judged c.args.inputs.now cert c.args.state.now c.args.proof.now c.in_ok-blocks.blocks
    (subst (λ (v : List ℤ). BarrierRuling c.args.state.now v None) c.as_slice.ensures.items c.in_default.ensures)
    (where_none (ColumnRuling c.args.state.now
    (reference_side c.args.state.now c.args.inputs.now.grid) c.args.proof.now.reference) _ c.in_default-2.not-Some
    c.in_ok-reason.ensures)
    (subst (λ (keys : List Column). AreZonesJudged c.args.state.now keys c.args.proof.now.blocks
    c.in_ok-blocks.blocks) c.as_slice-zones.ensures.items
    (subst (λ (xs : List Angles). AreZonesJudged c.args.state.now c.as_slice-zones.result.now xs
    c.in_ok-blocks.blocks) c.as_slice-2.ensures.items c.in_ok-blocks.ensures.judged)))

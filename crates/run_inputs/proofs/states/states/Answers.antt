use Rattle.std.proofs.Common.{◌<◌, length, arith}
use Rattle.std.proofs.lemmas.List.{length-map}
use Rattle.fb_certificate.specs.CracRows.{branches_out, out_by_state}
use Rattle.run_inputs.proofs.BuildLaws.{out_below, unsplit-more, refusal_is}
use Rattle.run_inputs.proofs.states.states.Goals as goal

pub state_from-requires-clause-outage : goal.state_from-requires-clause-outage
state_from-requires-clause-outage c = rw c.out_in-out.ensures (out_below (length c.args.grid.now.branches) c.args.crac.now c.args.outages.now c.loop-number.number c.requires.crac)

pub returns-in-Err-clause-cause : goal.returns-in-Err-clause-cause
returns-in-Err-clause-cause c =
    let out = out_by_state c.args.crac.now c.args.outages.now in
    let size = length-map c.args.outages.now (branches_out c.args.crac.now.contingencies) in
    let test = c.loop-number-test.true in
    let within : c.loop-number.number < length out = omega arith in
    let marks = rw c.as_slice.ensures.items at c.in_ok-keyed.ensures in
    let cause = rw c.out_in-out.ensures at (c.in-Err.ensures.cause c.args.columns.now marks) in
    refusal_is c.args.grid.now c.args.slack c.args.columns.now out c.loop-number.number c.loop-number.states c.in-Err.fault c.refused_at.result within c.loop-number.invariant cause c.refused_at.ensures

pub loop-number-preserved : goal.loop-number-preserved
loop-number-preserved c =
    let out = out_by_state c.args.crac.now c.args.outages.now in
    let size = length-map c.args.outages.now (branches_out c.args.crac.now.contingencies) in
    let test = c.loop-number-test.true in
    let within : c.loop-number.number < length out = omega arith in
    let added = rw c.in_ok-state-in-Ok.ensures at c.in_ok-add-in-Ok.ensures.pushed in
    let marks = rw c.as_slice.ensures.items at c.in_ok-keyed.ensures in
    let is = rw c.out_in-out.ensures at c.in-Ok.ensures.state in
    let unsplit = c.in-Ok.ensures.none_stranded c.args.columns.now marks in
    rw added (unsplit-more c.args.grid.now c.args.slack c.args.columns.now out c.loop-number.number c.loop-number.states c.in-Ok.state within c.loop-number.invariant is unsplit)

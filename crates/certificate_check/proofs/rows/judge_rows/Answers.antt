use Rattle.std.proofs.Common.{arith, pos, []}
use Rattle.cnec_rows.specs.declared.types.RowProof.{RowProof}
use Rattle.cnec_selection.specs.declared.Class.TheVariants.{Below}
use Rattle.certificate_check.proofs.RowSteps.{one_row_passes, one_row_fails, rows_lack, rows_exceed, rows_pass}
use Rattle.certificate_check.proofs.rows.judge_rows.Goals as goal

no_row : RowProof
no_row = record { class = Below; a = []; r_in = pos 0; r_out = pos 0 }

pub returns-then-rows-i-clause-judged : goal.returns-then-rows-i-clause-judged
returns-then-rows-i-clause-judged c =
    rows_lack c.args.due.now c.args.rows.now c.loop-i.i no_row c.loop-i-test.true c.if-rows-i.true
    c.loop-i.invariant.reached

pub returns-in-Some-clause-judged : goal.returns-in-Some-clause-judged
returns-in-Some-clause-judged c =
    let m = c.if-rows-i.false in
    one_row_fails c.args.due.now c.args.rows.now c.loop-i.i c.in-Some.reason c.index-due-i.result
    c.index-rows-i.result c.loop-i-test.true
    (omega (arith, m)) c.index-due-i.is c.index-rows-i.is c.in-Some.ensures c.loop-i.invariant.reached

pub loop-i-preserved : goal.loop-i-preserved
loop-i-preserved c =
    let m = c.if-rows-i.false in
    record {
      reached = one_row_passes c.args.due.now c.args.rows.now c.loop-i.i c.index-due-i.result c.index-rows-i.result
          c.loop-i-test.true (omega (arith, m)) c.index-due-i.is c.index-rows-i.is c.in_default.ensures
          c.loop-i.invariant.reached;
      there = omega (arith, m);
    }

pub returns-then-due-rows-clause-judged : goal.returns-then-due-rows-clause-judged
returns-then-due-rows-clause-judged c =
    let past = c.loop-i-test.false in
    let end = c.loop-i.auto.i-end in
    let more = c.if-due-rows.true in
    rows_exceed c.args.due.now c.args.rows.now c.loop-i.i no_row (omega (arith, past, end))
    (omega (arith, past, end, more)) c.loop-i.invariant.reached

pub returns-clause-judged : goal.returns-clause-judged
returns-clause-judged c =
    let past = c.loop-i-test.false in
    let end = c.loop-i.auto.i-end in
    let more = c.if-due-rows.false in
    rows_pass c.args.due.now c.args.rows.now c.loop-i.i (omega (arith, past, end))
    (omega (arith, past, end, more)) c.loop-i.invariant.reached

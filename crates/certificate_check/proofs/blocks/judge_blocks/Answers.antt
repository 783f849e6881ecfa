use Rattle.std.proofs.Common.{arith, pos, [], subst}
use Rattle.std.specs.Prelude.{Option}
use Rattle.security.specs.Balances.{block_side}
use Rattle.certificate_check.specs.declared.verdict.Reason.{Reason}
use Rattle.certificate_check.specs.Rulings.{ColumnRuling}
use Rattle.certificate_check.proofs.Reaching.{where_none, block_passes, block_fails, block_lacks, blocks_pass}
use Rattle.certificate_check.proofs.blocks.judge_blocks.Goals as goal

pub returns-then-columns-first-clause-judged : goal.returns-then-columns-first-clause-judged
returns-then-columns-first-clause-judged c =
    let first = c.requires.first in
    let past = c.if-columns-first.true in
    block_lacks c.args.state.now c.args.blocks.now c.args.columns.now c.args.first c.loop-i.i
    (record { share = pos 0; total = pos 0; weights = [] }) c.loop-i-test.true
    (omega (arith, first, past)) c.loop-i.invariant.reached

pub returns-in-Some-clause-judged : goal.returns-in-Some-clause-judged
returns-in-Some-clause-judged c =
    let past = c.if-columns-first.false in
    block_fails c.args.state.now c.args.blocks.now c.args.columns.now c.args.first c.loop-i.i c.index-blocks-i.result
    c.index-columns-first.result c.in-Some.reason
    c.loop-i-test.true (omega (arith, past)) c.index-blocks-i.is c.index-columns-first.is
    (subst (λ (o : Option Reason). ColumnRuling c.args.state.now
    (block_side c.args.state.now c.index-blocks-i.result) c.index-columns-first.result o) c.in-Some.is
    c.in_ok-reason.ensures)
    c.loop-i.invariant.reached

pub loop-i-preserved : goal.loop-i-preserved
loop-i-preserved c =
    let past = c.if-columns-first.false in
    record {
      reached =
          block_passes c.args.state.now c.args.blocks.now c.args.columns.now c.args.first c.loop-i.i
          c.index-blocks-i.result c.index-columns-first.result
          c.loop-i-test.true (omega (arith, past)) c.index-blocks-i.is c.index-columns-first.is
          (where_none (ColumnRuling c.args.state.now
          (block_side c.args.state.now c.index-blocks-i.result) c.index-columns-first.result) _ c.in_default.not-Some
          c.in_ok-reason.ensures)
          c.loop-i.invariant.reached;
      there = omega (arith, past);
    }

pub returns-clause-judged : goal.returns-clause-judged
returns-clause-judged c =
    let past = c.loop-i-test.false in
    let end = c.loop-i.auto.i-end in
    blocks_pass c.args.state.now c.args.blocks.now c.args.columns.now c.args.first c.loop-i.i
    (omega (arith, past, end)) c.loop-i.invariant.reached

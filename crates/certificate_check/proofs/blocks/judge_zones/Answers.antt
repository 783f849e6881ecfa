use Rattle.std.proofs.Common.{ℕ, ◌+◌, ◌≤◌, List, length, arith, [], sym, subst, ap}
use Rattle.std.proofs.lemmas.List.Elements.{All-get_or}
use Rattle.fb_types.specs.declared.keys.Block.{Block}
use Rattle.fb_types.specs.declared.keys.Column.{Column}
use Rattle.certificate_check.specs.declared.judgement.Judgement.{Judgement}
use Rattle.certificate_check.specs.declared.judgement.Judgement.TheVariants.{Passed}
use Rattle.certificate_check.specs.Judged.{AreBlocksJudged, AreBlocksCounted, AreZonesReached}
use Rattle.certificate_check.proofs.Reaching.{zone_passes, zone_fails, zones_pass, zones_exceeded}
use Rattle.certificate_check.proofs.blocks.judge_zones.Goals as goal

pub returns-in-Failed-clause-judged : goal.returns-in-Failed-clause-judged
returns-in-Failed-clause-judged c =
    let s = c.args.state.now in
    zone_fails s c.args.zones.now c.args.columns.now c.loop-zone.zone-index c.loop-zone.first c.in-Failed.record
    c.in-Failed.reason c.zone-item.result c.loop-zone-test.true c.zone-item.is
    (subst (λ (j : Judgement). AreBlocksJudged s c.zone-item.result.blocks c.args.columns.now c.loop-zone.first j)
    c.in-Failed.is
    (subst (λ (bs : List Block). AreBlocksJudged s bs c.args.columns.now c.loop-zone.first c.in_ok-records.field-0)
    c.as_slice.ensures.items c.in_ok-records.ensures.judged))
    c.loop-zone.invariant.reached

pub loop-zone-preserved : goal.loop-zone-preserved
loop-zone-preserved c =
    let s = c.args.state.now in
    let blocks = c.zone-item.result.blocks in
    let first = c.loop-zone.first in
    let counted = subst (λ (j : Judgement). AreBlocksCounted blocks c.args.columns.now first j) c.in-Passed.is
    (subst (λ (bs : List Block). AreBlocksCounted bs c.args.columns.now first c.in_ok-records.field-0)
    c.as_slice.ensures.items c.in_ok-records.ensures.counted) in
    let judged = subst (λ (j : Judgement). AreBlocksJudged s blocks c.args.columns.now first j) c.in-Passed.is
    (subst (λ (bs : List Block). AreBlocksJudged s bs c.args.columns.now first c.in_ok-records.field-0)
    c.as_slice.ensures.items c.in_ok-records.ensures.judged) in
    let exact = subst (λ (n : ℕ). AreBlocksJudged s blocks c.args.columns.now first (Passed n)) counted.0 judged in
    let four = ap (λ (k : Column). length k.blocks) c.zone-item.is in
    let few = All-get_or (λ (k : Column). length k.blocks ≤ 4) c.args.zones.now c.loop-zone.zone-index
    c.zone-item.result c.loop-zone-test.true c.requires.few_blocks in
    let count = counted.0 in
    let long = counted.1 in
    let before = c.loop-zone.invariant.few in
    record {
      reached =
          subst (λ (n : ℕ). AreZonesReached s c.args.zones.now c.args.columns.now (c.loop-zone.zone-index + 1)
          (first + n)) (sym counted.0)
          (zone_passes s c.args.zones.now c.args.columns.now c.loop-zone.zone-index first c.zone-item.result
          c.loop-zone-test.true c.zone-item.is exact c.loop-zone.invariant.reached);
      there = omega (arith, count, long);
      few = omega (arith, count, four, few, before);
    }

pub returns-then-first-columns-clause-judged : goal.returns-then-first-columns-clause-judged
returns-then-first-columns-clause-judged c =
    let past = c.loop-zone-test.false in
    zones_exceeded c.args.state.now c.args.zones.now c.args.columns.now c.loop-zone.zone-index c.loop-zone.first
    (record { kappa = 0; w = [] }) (omega (arith, past)) c.if-first-columns.true c.loop-zone.invariant.reached

pub returns-clause-judged : goal.returns-clause-judged
returns-clause-judged c =
    let past = c.loop-zone-test.false in
    let end = c.if-first-columns.false in
    zones_pass c.args.state.now c.args.zones.now c.args.columns.now c.loop-zone.zone-index c.loop-zone.first
    (omega (arith, past)) (omega (arith, end)) c.loop-zone.invariant.reached

use Rattle.std.proofs.Common.{◌+◌, ℕ, arith, sym, subst}
use Rattle.row_removal.specs.Kinds.{kind_of}
use Rattle.certificate_check.specs.CiteRulings.{AreCitesReached}
use Rattle.certificate_check.proofs.CiteSteps.{one_cite_passes, one_cite_fails, cites_pass}
use Rattle.certificate_check.proofs.cites.judge_cites.Goals as goal

pub returns-in-Some-clause-judged : goal.returns-in-Some-clause-judged
returns-in-Some-clause-judged c =
    one_cite_fails (kind_of c.args.list.now.kind) c.args.list.now.bounds.now c.args.list.now.rows.now c.args.cites.now
    c.loop-i.i c.loop-i.least c.in-Some.reason c.index-cites-i.result c.loop-i-test.true c.index-cites-i.is
    (c.in-Some.ensures c.args.cites.now c.requires.cites) c.loop-i.invariant.reached

pub loop-i-preserved : goal.loop-i-preserved
loop-i-preserved c =
    let good = c.in_default.ensures c.args.cites.now c.requires.cites in
    let order = good.order in
    let after = c.row_after-least.ensures.value in
    let rising = c.loop-i.invariant.rising in
    record {
      reached =
          subst (λ (n : ℕ). AreCitesReached
          (kind_of c.args.list.now.kind) c.args.list.now.bounds.now c.args.list.now.rows.now c.args.cites.now
          (c.loop-i.i + 1) n) (sym after)
          (one_cite_passes (kind_of c.args.list.now.kind) c.args.list.now.bounds.now c.args.list.now.rows.now
          c.args.cites.now c.loop-i.i c.loop-i.least c.index-cites-i.result c.loop-i-test.true c.index-cites-i.is good
          c.loop-i.invariant.reached);
      rising = omega (arith, order, after, rising);
      small = c.row_after-least.ensures.small;
    }

pub returns-clause-judged : goal.returns-clause-judged
returns-clause-judged c =
    let past = c.loop-i-test.false in
    let end = c.loop-i.auto.i-end in
    cites_pass (kind_of c.args.list.now.kind) c.args.list.now.bounds.now c.args.list.now.rows.now c.args.cites.now
    c.loop-i.i c.loop-i.least (omega (arith, past, end)) c.loop-i.invariant.reached

use Rattle.fb_certificate.specs.RowsMade.{IsMadeBy}
use Rattle.fb_certificate.proofs.WholeLaws.{zip_next}
use Rattle.fb_certificate.proofs.made.state_rows.Goals as goal

pub loop-row-preserved : goal.loop-row-preserved
loop-row-preserved c = record {
  rows = zip_next (IsMadeBy c.args.inputs.now c.args.proof.now) c.args.rows.now c.loop-row.row-index _ c.loop-row.made c.add.new.self c.in_ok-numbers.numbers
      c.loop-row-test.true c.loop-row.invariant.rows c.in_ok-numbers.ensures.made c.in_ok-add.ensures.pushed;
  last = c.in_ok-numbers.ensures.flows.by;
}

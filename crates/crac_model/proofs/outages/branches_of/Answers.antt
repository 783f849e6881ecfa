use Rattle.crac_model.proofs.NameLaws.{outage_step}
use Rattle.crac_model.proofs.outages.branches_of.Goals as goal

pub loop-outage-preserved : goal.loop-outage-preserved
loop-outage-preserved c =
    outage_step c.loop-outage.branches c.add_branches.new.branches _ c.args.outages.now c.loop-outage.outage-index _ c.loop-outage-test.true c.in_ok-add_branches.ensures c.loop-outage.invariant

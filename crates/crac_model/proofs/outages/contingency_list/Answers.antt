use Rattle.std.proofs.Common.{arith}
use Rattle.json_reading.proofs.Entries.{measured}
use Rattle.crac_model.proofs.outages.contingency_list.Goals as goal

pub returns-clause-few : goal.returns-clause-few
returns-clause-few c =
    let count = measured _ _ c.in_ok-count.ensures in
    omega (arith, count, c.in_ok-contingencies.ensures.few)

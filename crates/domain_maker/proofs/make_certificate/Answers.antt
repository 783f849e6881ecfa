use Rattle.domain_maker.proofs.Lists.{few_rows}
use Rattle.domain_maker.proofs.make_certificate.Goals as goal

pub removed-requires-clause-few : goal.removed-requires-clause-few
removed-requires-clause-few g c = few_rows c.args.inputs.now c.in_ok-states.states c.in_ok-rows.rows c.requires.whole c.in_ok-rows.ensures.numbers

pub removed-requires-2-clause-few : goal.removed-requires-2-clause-few
removed-requires-2-clause-few g c = few_rows c.args.inputs.now c.in_ok-states.states c.in_ok-rows.rows c.requires.whole c.in_ok-rows.ensures.numbers

use Rattle.reference_flows.proofs.Products.{product_within}
use Rattle.reference_flows.proofs.reference.product.Goals as goal

pub returns-clause-value : goal.returns-clause-value
returns-clause-value c = (product_within c.args.b c.args.phi c.from.result c.from-2.result c.requires.some c.requires.small c.ranges.b c.ranges.phi c.from.ensures c.from-2.ensures).0

pub returns-clause-within : goal.returns-clause-within
returns-clause-within c = (product_within c.args.b c.args.phi c.from.result c.from-2.result c.requires.some c.requires.small c.ranges.b c.ranges.phi c.from.ensures c.from-2.ensures).1

use Rattle.std.proofs.Common.{◌*◌, ◌^◌, lit<}
use Rattle.row_weighing.proofs.Wide.{greater_product}
use Rattle.row_weighing.proofs.greatest_at.Goals as goal

pub returns-clause-exact : goal.returns-clause-exact
returns-clause-exact c =
    (greater_product (3 * 10 ^ 24) (10 ^ 11) c.args.rest _ _ _ _ _ c.requires.rest_small c.requires.low c.requires.high (lit< tt) (lit< tt) (lit< tt) c.from.ensures c.from-2.ensures c.max.ensures.value).0

pub returns-clause-small : goal.returns-clause-small
returns-clause-small c =
    (greater_product (3 * 10 ^ 24) (10 ^ 11) c.args.rest _ _ _ _ _ c.requires.rest_small c.requires.low c.requires.high (lit< tt) (lit< tt) (lit< tt) c.from.ensures c.from-2.ensures c.max.ensures.value).1

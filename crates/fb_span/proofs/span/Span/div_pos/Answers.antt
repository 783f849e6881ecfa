use Rattle.whole_laws.specs.QuotientLaws.{floor-at_most-ceil}
use Rattle.fb_span.proofs.Least.{quotients_held}
use Rattle.fb_span.proofs.span.Span.div_pos.Goals as goal

pub invariant_of-result : goal.invariant_of-result
invariant_of-result g c = rw (c.floor_div.ensures, c.ceil_div.ensures) (floor-at_most-ceil _ _ _ c.requires c.self.invariant)

pub returns-clause-holds : goal.returns-clause-holds
returns-clause-holds g c = rw (← c.self.view_is) (quotients_held _ _ _ c.floor_div.ensures c.ceil_div.ensures)

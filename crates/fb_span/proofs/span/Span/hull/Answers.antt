use Rattle.fb_span.proofs.Least.{hull_least}
use Rattle.fb_span.proofs.span.Span.hull.Goals as goal

pub returns-clause-least : goal.returns-clause-least
returns-clause-least g c = rw (← c.self.view_is, ← c.other.view_is) (hull_least _ _ _ c.self.invariant c.other.invariant c.lesser.ensures c.greater.ensures)

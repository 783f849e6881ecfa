use Rattle.fb_span.proofs.Least.{sums_least}
use Rattle.fb_span.proofs.span.Span.add.Goals as goal

pub returns-clause-least : goal.returns-clause-least
returns-clause-least g c = rw (← c.self.view_is, ← c.other.view_is) (sums_least _ _ _ c.self.invariant c.other.invariant c.in_ok-low.ensures.0 c.in_ok-high.ensures.0)

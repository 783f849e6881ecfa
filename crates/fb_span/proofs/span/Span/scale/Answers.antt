use Rattle.fb_span.proofs.Least.{multiples_least}
use Rattle.fb_span.proofs.span.Span.scale.Goals as goal

pub returns-clause-least : goal.returns-clause-least
returns-clause-least g c = rw (← c.self.view_is) (multiples_least _ _ _ c.self.invariant (rw (← c.in_ok-of_low.ensures.0, ← c.in_ok-of_high.ensures.0) c.lesser.ensures) (rw (← c.in_ok-of_low.ensures.0, ← c.in_ok-of_high.ensures.0) c.greater.ensures))

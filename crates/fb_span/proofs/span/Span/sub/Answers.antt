use Rattle.fb_span.proofs.Least.{differences_least, difference_ordered}
use Rattle.fb_span.proofs.span.Span.sub.Goals as goal

pub invariant_of-result : goal.invariant_of-result
invariant_of-result g c = difference_ordered _ _ _ _ _ _ c.self.invariant c.other.invariant c.in_ok-low.ensures.0 c.in_ok-high.ensures.0

pub returns-clause-least : goal.returns-clause-least
returns-clause-least g c = rw (← c.self.view_is, ← c.other.view_is) (differences_least _ _ _ c.self.invariant c.other.invariant c.in_ok-low.ensures.0 c.in_ok-high.ensures.0)

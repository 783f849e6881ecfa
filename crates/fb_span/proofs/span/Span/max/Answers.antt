use Rattle.fb_span.proofs.Least.{maxima_held}
use Rattle.fb_span.proofs.span.Span.max.Goals as goal

pub returns-clause-holds : goal.returns-clause-holds
returns-clause-holds g c = rw (← c.self.view_is, ← c.other.view_is) (maxima_held _ _ _ c.greater.ensures c.greater-2.ensures)

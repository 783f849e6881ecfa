use Rattle.fb_span.proofs.Least.{minima_held}
use Rattle.fb_span.proofs.span.Span.min.Goals as goal

pub returns-clause-holds : goal.returns-clause-holds
returns-clause-holds g c = rw (← c.self.view_is, ← c.other.view_is) (minima_held _ _ _ c.lesser.ensures c.lesser-2.ensures)

use Rattle.fb_span.proofs.Answered.{meet_common, meet_apart}
use Rattle.fb_span.proofs.span.Span.meet.Goals as goal

pub returns-clause-common : goal.returns-clause-common
returns-clause-common g c = rw (← c.self.view_is, ← c.other.view_is) (meet_common g.T.Scalar.whole _ _ _ _ c.new.result c.new.ensures c.greater.ensures c.lesser.ensures)

pub returns-clause-apart : goal.returns-clause-apart
returns-clause-apart g c = rw (← c.self.view_is, ← c.other.view_is) (meet_apart g.T.Scalar.whole _ _ _ _ c.new.result c.new.ensures c.greater.ensures c.lesser.ensures)

use Rattle.fb_span.proofs.Answered.{corners_of, none_past, ends_are}
use Rattle.fb_span.proofs.Least.{products_least}
use Rattle.fb_span.proofs.span.Span.mul.Goals as goal

pub returns-in_err-low_low-clause-exact : goal.returns-in_err-low_low-clause-exact
returns-in_err-low_low-clause-exact g c =
    rw (← c.self.view_is, ← c.other.view_is) (none_past g.T.Scalar.whole _ _ _ _ _ c.from_residual.result c.from_residual.ensures (corners_of (g.T.Scalar.whole c.self.inside.low, g.T.Scalar.whole c.self.inside.high) (g.T.Scalar.whole c.other.inside.low, g.T.Scalar.whole c.other.inside.high)).first c.in_err-low_low.ensures)

pub returns-in_err-low_high-clause-exact : goal.returns-in_err-low_high-clause-exact
returns-in_err-low_high-clause-exact g c =
    rw (← c.self.view_is, ← c.other.view_is)
    (none_past g.T.Scalar.whole _ _ _ _ _ c.from_residual-in_err-low_high.result c.from_residual-in_err-low_high.ensures (corners_of (g.T.Scalar.whole c.self.inside.low, g.T.Scalar.whole c.self.inside.high) (g.T.Scalar.whole c.other.inside.low, g.T.Scalar.whole c.other.inside.high)).second c.in_err-low_high.ensures)

pub returns-in_err-high_low-clause-exact : goal.returns-in_err-high_low-clause-exact
returns-in_err-high_low-clause-exact g c =
    rw (← c.self.view_is, ← c.other.view_is)
    (none_past g.T.Scalar.whole _ _ _ _ _ c.from_residual-in_err-high_low.result c.from_residual-in_err-high_low.ensures (corners_of (g.T.Scalar.whole c.self.inside.low, g.T.Scalar.whole c.self.inside.high) (g.T.Scalar.whole c.other.inside.low, g.T.Scalar.whole c.other.inside.high)).third c.in_err-high_low.ensures)

pub returns-in_err-high_high-clause-exact : goal.returns-in_err-high_high-clause-exact
returns-in_err-high_high-clause-exact g c =
    rw (← c.self.view_is, ← c.other.view_is)
    (none_past g.T.Scalar.whole _ _ _ _ _ c.from_residual-in_err-high_high.result c.from_residual-in_err-high_high.ensures (corners_of (g.T.Scalar.whole c.self.inside.low, g.T.Scalar.whole c.self.inside.high) (g.T.Scalar.whole c.other.inside.low, g.T.Scalar.whole c.other.inside.high)).fourth c.in_err-high_high.ensures)

pub invariant_of-result : goal.invariant_of-result
invariant_of-result g c = (ends_are _ _ _ _ _ _ _ _ _ _ _ _ (record {
  first = c.in_ok-low_low.ensures;
  second = c.in_ok-low_high.ensures;
  third = c.in_ok-high_low.ensures;
  fourth = c.in_ok-high_high.ensures;
  least = c.least_of.ensures;
  greatest = c.greatest_of.ensures;
})).ordered

pub returns-clause-exact : goal.returns-clause-exact
returns-clause-exact g c =
    let e = ends_are _ _ _ _ _ _ _ _ _ _ _ _ (record {
      first = c.in_ok-low_low.ensures;
      second = c.in_ok-low_high.ensures;
      third = c.in_ok-high_low.ensures;
      fourth = c.in_ok-high_high.ensures;
      least = c.least_of.ensures;
      greatest = c.greatest_of.ensures;
    }) in
    rw (← c.self.view_is, ← c.other.view_is) (e.least, e.greatest, e.least_in, e.greatest_in)

pub returns-clause-least : goal.returns-clause-least
returns-clause-least g c =
    let e = ends_are _ _ _ _ _ _ _ _ _ _ _ _ (record {
      first = c.in_ok-low_low.ensures;
      second = c.in_ok-low_high.ensures;
      third = c.in_ok-high_low.ensures;
      fourth = c.in_ok-high_high.ensures;
      least = c.least_of.ensures;
      greatest = c.greatest_of.ensures;
    }) in
    rw (← c.self.view_is, ← c.other.view_is) (products_least _ _ _ c.self.invariant c.other.invariant e.least e.greatest)

use Rattle.std.proofs.Common.{rules, lit<, w64}
use Rattle.fb_span.proofs.CeilDiv.{ceil_is_exact, ceil_is_raised}
use Rattle.fb_span.proofs.scalar.I64Scalar.ceil_div.Goals as goal

pub returns-then-rem_euclid-eq0 : goal.returns-then-rem_euclid-eq0
returns-then-rem_euclid-eq0 c =
    ceil_is_exact w64 c.args.self c.args.divisor _ _ (lit< tt) c.ranges.self c.ranges.divisor (search rules) c.requires c.div_euclid-quotient.ensures c.rem_euclid.ensures.value c.if-rem_euclid-eq0.true (search rules)

pub returns-else-rem_euclid-eq0 : goal.returns-else-rem_euclid-eq0
returns-else-rem_euclid-eq0 c =
    ceil_is_raised w64 c.args.self c.args.divisor _ _ (lit< tt) c.ranges.self c.ranges.divisor (search rules) c.requires c.div_euclid-quotient.ensures c.rem_euclid.ensures.value c.if-rem_euclid-eq0.false

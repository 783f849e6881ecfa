use Rattle.std.proofs.Common.{rules}
use Rattle.whole_laws.proofs.CeilDiv.{ceil_is_exact, ceil_is_raised}
use Rattle.whole_laws.proofs.ceil_div.Goals as goal

pub returns-then-rem_euclid-eq0 : goal.returns-then-rem_euclid-eq0
returns-then-rem_euclid-eq0 c =
    ceil_is_exact c.args.value c.args.divisor _ _ c.ranges.value c.ranges.divisor (search rules) c.requires c.div_euclid-quotient.ensures c.rem_euclid.ensures.value c.if-rem_euclid-eq0.true (search rules)

pub returns-else-rem_euclid-eq0 : goal.returns-else-rem_euclid-eq0
returns-else-rem_euclid-eq0 c =
    ceil_is_raised c.args.value c.args.divisor _ _ c.ranges.value c.ranges.divisor (search rules) c.requires c.div_euclid-quotient.ensures c.rem_euclid.ensures.value c.if-rem_euclid-eq0.false

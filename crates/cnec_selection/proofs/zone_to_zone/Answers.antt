use Rattle.std.proofs.Common.{ap, ◌∙◌, arith}
use Rattle.whole_laws.specs.Ring.{linear}
use Rattle.cnec_selection.proofs.SpreadProofs.{spread_fits, spread_held}
use Rattle.cnec_selection.proofs.zone_to_zone.Goals as goal

pub unreachable-requires : goal.unreachable-requires
unreachable-requires c =
    c.in-None.ensures (spread_fits 1_000_000_000_000 _ _ c.args.core_factors.now (omega (arith, linear)) (omega (arith, linear)) c.requires.factors_in)

pub returns-clause-low : goal.returns-clause-low
returns-clause-low c = ap (λ s. s.0) c.wide.ensures ∙ c.in-Some.ensures.0

pub returns-clause-high : goal.returns-clause-high
returns-clause-high c = ap (λ s. s.1) c.wide.ensures ∙ c.in-Some.ensures.1

pub returns-clause-holds : goal.returns-clause-holds
returns-clause-holds c = spread_held c.args.core_factors.now c.wide.result c.requires.some (returns-clause-low c) (returns-clause-high c)

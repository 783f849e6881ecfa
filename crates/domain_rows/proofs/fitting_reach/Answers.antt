use Rattle.std.proofs.Common.{ℤ, ap₂, ◌∙◌}
use Rattle.domain_rows.proofs.fitting_reach.Goals as goal

pub unreachable-requires : goal.unreachable-requires
unreachable-requires g c = c.in-None.ensures c.requires.fits

pub returns : goal.returns
returns g c = c.wide.ensures ∙ ap₂ (λ (u v : ℤ). (u, v)) c.in-Some.ensures.0 c.in-Some.ensures.1

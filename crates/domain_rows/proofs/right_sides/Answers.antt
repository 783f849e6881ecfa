use Rattle.std.proofs.Common.{ap, ◌∙◌}
use Rattle.whole_laws.specs.Quotients.{floor_of, ceil_of}
use Rattle.domain_rows.specs.Brackets.{trillion}
use Rattle.domain_rows.proofs.Sizes.{sides_within}
use Rattle.domain_rows.proofs.right_sides.Goals as goal

pub returns-clause-within : goal.returns-clause-within
returns-clause-within c =
    sides_within c.args.ram c.args.deviation c.div_pos.result
    (c.div_pos.ensures.low ∙ ap (λ s. floor_of s.0 trillion) c.difference.ensures) (c.div_pos.ensures.high ∙ ap (λ s. ceil_of s.1 trillion) c.difference.ensures)
    c.requires.ram_in c.requires.deviation_in

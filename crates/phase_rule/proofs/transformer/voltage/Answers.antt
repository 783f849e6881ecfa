use Rattle.std.proofs.Common.{◌∙◌}
use mir.Syntax.{w32, w64}
use Rattle.std.proofs.lemmas.Int.{to_z-of_z}
use Rattle.phase_rule.proofs.Numbers.{voltage_is, voltage_bits_within}
use Rattle.phase_rule.proofs.transformer.voltage.Goals as goal

pub returns-clause-value : goal.returns-clause-value
returns-clause-value c =
    rw (c.from.ensures ∙ to_z-of_z w32 c.args.tap c.ranges.tap, c.from-2.ensures ∙ to_z-of_z w64 c.args.step c.ranges.step)
    (voltage_is c.args.step c.args.tap c.requires.step c.requires.tap)

pub returns-clause-within : goal.returns-clause-within
returns-clause-within c =
    rw (c.from.ensures ∙ to_z-of_z w32 c.args.tap c.ranges.tap, c.from-2.ensures ∙ to_z-of_z w64 c.args.step c.ranges.step)
    (voltage_bits_within c.args.step c.args.tap c.requires.step c.requires.tap)

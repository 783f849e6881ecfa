use mir.Syntax.{w64, w128}
use mir.Val.{SFits}
use Rattle.std.proofs.lemmas.Int.{to_z-of_z}
use Rattle.phase_rule.proofs.Outcome.{refused, shifted}
use Rattle.phase_rule.proofs.transformer.asymmetrical.Goals as goal

pub returns-then-denominator-le0-clause-value : goal.returns-then-denominator-le0-clause-value
returns-then-denominator-le0-clause-value c =
    let f1 : SFits w128 c.args.added = c.ranges.added in
    let f2 : SFits w64 c.args.angle = c.ranges.angle in
    let f3 : SFits w128 c.along-denominator.result = record { sfits = c.along-denominator.type_inv } in
    refused c.args.added c.args.angle c.along-denominator.result (simp to_z-of_z at c.along-denominator.ensures) (simp to_z-of_z at c.if-denominator-le0.true)

pub returns-clause-value : goal.returns-clause-value
returns-clause-value c =
    let f1 : SFits w128 c.args.added = c.ranges.added in
    let f2 : SFits w64 c.args.angle = c.ranges.angle in
    let f3 : SFits w128 c.along-denominator.result = record { sfits = c.along-denominator.type_inv } in
    let f4 : SFits w128 c.across-numerator.result = record { sfits = c.across-numerator.type_inv } in
    let f5 : SFits w64 c.with_sign.result = record { sfits = c.with_sign.type_inv } in
    simp to_z-of_z (shifted c.args.added c.args.angle c.across-numerator.result c.along-denominator.result c.tangent.result c.arc_tangent.result c.with_sign.result
    (simp to_z-of_z at c.across-numerator.ensures.value) (simp to_z-of_z at c.along-denominator.ensures) (simp to_z-of_z at c.if-denominator-le0.false)
    (simp to_z-of_z at c.tangent.ensures) c.arc_tangent.ensures.value (simp to_z-of_z at c.with_sign.ensures.value))

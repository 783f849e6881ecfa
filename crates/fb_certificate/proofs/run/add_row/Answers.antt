use Rattle.std.proofs.Common.{List, Some, ℤ, ◌++◌, sym, ap, ◌∙◌, rules}
use Rattle.std.specs.Prelude.{Bool, Option, ◌==◌, ◌&&◌}
use Rattle.std.specs.Bool.{beq}
use Rattle.std.specs.List.{find}
use mir.Syntax.{w64}
use Rattle.std.proofs.lemmas.Int.{to_z-of_z}
use Rattle.run_settings.specs.declared.reduction.Reduction.{Reduction}
use Rattle.fb_certificate.specs.declared.types.RunRow.{RunRow}
use Rattle.fb_certificate.proofs.RunLaws.{row_pushed}
use Rattle.fb_certificate.proofs.run.add_row.Goals as goal

pub returns : goal.returns
returns c =
    let inputs = c.args.inputs.now in
    let reduction = c.reduction_of-reduction.ensures ∙ ap (λ (o : Bool). find (λ (r : Reduction). (r.element == c.args.place) && beq r.opposite o) inputs.reductions) c.is_opposite.ensures in
    c.in_ok-push.ensures.items
    ∙ ap (λ (rows : List RunRow). c.args.rows.now.items ++ rows)
    (row_pushed inputs c.args.place c.args.element.now c.args.direction _ _ _ _
    (sym c.in-Some.ensures ∙ ap (λ (z : ℤ). Some z) (sym (to_z-of_z w64 c.in-Some.limit (search rules))))
    c.state_of.ensures (c.terms_of.ensures c.args.place reduction))

use Rattle.std.proofs.Common.{sym, ap, ◌∙◌, arith, pos, List, FitsSigned}
use Rattle.std.proofs.lemmas.Int.{to_z-of_z}
use mir.Syntax.{w128}
use Rattle.grid_state.specs.declared.types.Edge.{Edge}
use Rattle.grid_state.specs.Changes.{row_or}
use Rattle.grid_state.specs.GridState.{row_of, susceptance_over}
use Rattle.grid_state.proofs.Changed.{row_changed, length_changed, none_if_not_some}
use Rattle.grid_state.proofs.changes.Changes.susceptance_at.Goals as goal

pub returns : goal.returns
returns c =
    let whole = c.args.whole.now in
    let changed = c.args.self.now.rows in
    let size = c.requires.sound.same_length in
    let size' = length_changed c.args.self.now whole in
    let fits : FitsSigned w128 c.susceptance_at.result = record { sfits = c.susceptance_at.type_inv } in
    let found = none_if_not_some c.changed_at.result (sym c.is_some.ensures ∙ c.if-is_some.false) in
    to_z-of_z w128 c.susceptance_at.result fits ∙ c.susceptance_at.ensures
    ∙ ap (λ (row : List Edge). pos (susceptance_over row))
    (ap (λ k. row_or changed k (row_of whole c.args.class)) (sym found ∙ rw c.as_slice.ensures.items at c.changed_at.ensures.first)
    ∙ sym (row_changed c.args.self.now whole c.args.class (let h = c.requires.class in omega arith)))

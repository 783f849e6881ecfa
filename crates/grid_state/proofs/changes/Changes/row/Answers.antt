use Rattle.std.proofs.Common.{sym, ap, ◌∙◌, arith}
use Rattle.std.proofs.lemmas.List.{get_or_read}
use Rattle.grid_state.specs.declared.changes.ChangedRow.{ChangedRow}
use Rattle.grid_state.specs.Changes.{row_or, no_change}
use Rattle.grid_state.specs.GridState.{row_of}
use Rattle.grid_state.proofs.Changed.{row_changed}
use Rattle.grid_state.proofs.changes.Changes.row.Goals as goal

pub returns-in-Some : goal.returns-in-Some
returns-in-Some c =
    let whole = c.args.whole.now in
    let changed = c.args.self.now.rows in
    let size = c.sound.ensures.same_length in
    let within = c.in-Some.ensures.within in
    let is = rw c.as_slice-in-Some.ensures.items at c.index-as_slice-at.is in
    let read = get_or_read changed c.in-Some.at _ (rw c.as_slice.ensures.items at within) is no_change in
    rw c.as_slice-in-Some.ensures.items at c.as_slice-in-Some-2.ensures.items ∙ ap (λ (r : ChangedRow). r.row) (sym is ∙ read) ∙ ap (λ k. row_or changed k (row_of whole c.args.class)) (rw c.as_slice.ensures.items at c.in-Some.ensures.first)
    ∙ sym (row_changed c.args.self.now whole c.args.class (let h = c.requires in omega arith))

pub returns-in-None : goal.returns-in-None
returns-in-None c =
    let whole = c.args.whole.now in
    let changed = c.args.self.now.rows in
    let size = c.sound.ensures.same_length in
    c.row.ensures ∙ ap (λ k. row_or changed k (row_of whole c.args.class)) (rw c.as_slice.ensures.items at c.in-None.ensures.first)
    ∙ sym (row_changed c.args.self.now whole c.args.class (let h = c.requires in omega arith))

use Rattle.std.proofs.Common.{◌≡◌, ◌∙◌, length, arith, refl}
use Rattle.grid_state.specs.Changes.{HasClassesOf}
use Rattle.grid_state.proofs.Changed.{same_with_changes}
use Rattle.grid_state.proofs.sharing.changes_of.Goals as goal

pub returns-then-has_carries : goal.returns-then-has_carries
returns-then-has_carries c =
    let parts = c.whole-parts.ensures in
    let same : HasClassesOf c.args.whole.now c.whole-parts.result.now = c.if-not-has_classes_of.ensures refl in
    let branches : length c.args.whole.now.carries ≡ length c.args.state.now.carries = (let e = c.if-branches.false in let one = c.branches.ensures in let other = c.branches-else-not-has_classes_of.ensures in let last = parts.branches in omega arith) in
    same_with_changes _ c.args.whole.now c.args.state.now c.sound.ensures c.sound-2.ensures
    (record { class_of = same.class_of ∙ parts.class_of; slack = same.slack ∙ parts.slack; live = same.live ∙ parts.live })
    branches (c.has_rows.ensures c.if-has_rows.true) (c.has_carries.ensures c.if-has_carries.true)

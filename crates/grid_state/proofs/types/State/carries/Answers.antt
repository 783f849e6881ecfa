use Rattle.std.proofs.Common.{sym, ap, ◌∙◌, length, subst, ◌<◌, ℕ}
use Rattle.std.specs.Arc.{arc_value}
use Rattle.grid_state.specs.GridState.{GridState}
use Rattle.grid_state.proofs.Changed.{length_carried}
use Rattle.grid_state.proofs.types.State.carries.Goals as goal

pub carries-requires : goal.carries-requires
carries-requires c =
    subst (λ (n : ℕ). c.args.branch < n)
    (sym (ap (λ (s : GridState). length s.carries) c.deref.ensures ∙ sym (length_carried c.self.inside.changes (arc_value c.self.inside.whole)) ∙ ap (λ (s : GridState). length s.carries) c.self.view_is))
    c.requires

use Rattle.std.proofs.Common.{sym, ap, ◌∙◌, length}
use Rattle.std.specs.Arc.{arc_value}
use Rattle.grid_state.specs.GridState.{GridState}
use Rattle.grid_state.proofs.Changed.{length_carried}
use Rattle.grid_state.proofs.types.State.whole.Goals as goal

pub returns-clause-branches : goal.returns-clause-branches
returns-clause-branches c =
    ap (λ (s : GridState). length s.carries) c.deref.ensures ∙ sym (length_carried c.self.inside.changes (arc_value c.self.inside.whole)) ∙ ap (λ (s : GridState). length s.carries) c.self.view_is

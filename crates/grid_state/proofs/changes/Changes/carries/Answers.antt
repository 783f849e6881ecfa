use Rattle.std.proofs.Common.{sym, ap, ◌∙◌, not, ◌&&◌}
use Rattle.grid_state.specs.Links.{is_out}
use Rattle.grid_state.proofs.Changed.{carried}
use Rattle.grid_state.proofs.changes.Changes.carries.Goals as goal

pub returns-then-carries : goal.returns-then-carries
returns-then-carries c =
    let branch = c.args.branch in
    let out = c.args.self.now.out in
    ap not (rw c.as_slice.ensures.items at c.contains.ensures.value)
    ∙ ap (λ b. b && not (is_out out branch)) (sym c.if-carries.true ∙ c.carries.ensures)
    ∙ sym (carried c.args.self.now c.args.whole.now branch c.requires)

pub returns-else-carries : goal.returns-else-carries
returns-else-carries c =
    let branch = c.args.branch in
    let out = c.args.self.now.out in
    c.if-carries.false ∙ ap (λ b. b && not (is_out out branch)) (sym c.if-carries.false ∙ c.carries.ensures)
    ∙ sym (carried c.args.self.now c.args.whole.now branch c.requires)

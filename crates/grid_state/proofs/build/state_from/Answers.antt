use Rattle.std.proofs.Common.{sym, ◌∙◌}
use Rattle.grid_state.specs.StateLaws.{not_split}
use Rattle.grid_state.proofs.Stranded.{marked_is_keyed}
use Rattle.grid_state.proofs.build.state_from.Goals as goal

pub returns-in-None-clause-not_split : goal.returns-in-None-clause-not_split
returns-in-None-clause-not_split c = λ columns marks.
    let first = rw (c.marks.ensures, c.as_slice-nodes.ensures.items) at c.in-None.ensures in
    let is = c.in-Ok.ensures in
    not_split c.args.grid.now c.args.slack c.args.outage.now columns c.in-Ok.state is
    (sym (first ∙ marked_is_keyed c.in-Ok.state c.args.keyed.now _ columns c.args.grid.now.nodes marks))

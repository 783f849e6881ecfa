use Rattle.grid_state.proofs.build.state.Goals as goal

pub returns-clause-cause : goal.returns-clause-cause
returns-clause-cause c =
    rw (← c.as_slice-2.ensures.items) (c.state_from.ensures.cause c.args.columns.now (rw c.as_slice.ensures.items at c.in-Ok.ensures))

pub returns-clause-not_split : goal.returns-clause-not_split
returns-clause-not_split c =
    rw (← c.as_slice-2.ensures.items) (c.state_from.ensures.not_split c.args.columns.now (rw c.as_slice.ensures.items at c.in-Ok.ensures))

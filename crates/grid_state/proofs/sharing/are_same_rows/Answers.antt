use Rattle.std.proofs.lemmas.Slice.Eq.{slice_eq-Decides}
use Rattle.grid_state.proofs.Changed.{edges_decide}
use Rattle.grid_state.proofs.sharing.are_same_rows.Goals as goal

pub returns : goal.returns
returns c = λ same. (slice_eq-Decides edges_decide c.args.one.now c.args.other.now c.eq.result c.eq.ensures).0 same

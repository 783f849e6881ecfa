use Rattle.std.proofs.lemmas.Bool.Decides.{Decides-eqb}
use Rattle.std.proofs.lemmas.Slice.Eq.{slice_eq-Decides}
use Rattle.grid_state.proofs.whole.are_same_numbers.Goals as goal

pub returns : goal.returns
returns c = λ same. (slice_eq-Decides Decides-eqb c.args.one.now c.args.other.now c.eq.result c.eq.ensures).0 same

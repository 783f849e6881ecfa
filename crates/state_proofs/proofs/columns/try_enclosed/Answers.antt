use Rattle.std.proofs.Common.{Option, None, Some, IfSome}
use Rattle.std.proofs.lemmas.Result.{IfOk-weaker}
use Rattle.grid_laplacian.specs.Sizes.{size_of}
use Rattle.state_proofs.proofs.Rooms.{in_total, room_for}
use Rattle.state_proofs.proofs.columns.try_enclosed.Goals as goal

pub guess-requires-clause-room : goal.guess-requires-clause-room
guess-requires-clause-room c = room_for c.args.state.now (size_of c.args.p.now) c.requires.room c.requires.size

pub try_enclose_from-requires-clause-room : goal.try_enclose_from-requires-clause-room
try_enclose_from-requires-clause-room c = room_for c.args.state.now (size_of c.args.p.now) c.requires.room c.requires.size

if_some : {V : Type 0} (P Q : V → Type 0) (o : Option V) → ((v : V) → P v → Q v) → IfSome o P → IfSome o Q
if_some P Q (Some v) f h = f v h
if_some P Q None f h = tt

pub returns : goal.returns
returns c =
    IfOk-weaker c.try_enclose_from.result _ _ (λ found h. if_some _ _ found (λ angles g. g (in_total c.args.state.now (size_of c.args.p.now) c.requires.size)) h) c.try_enclose_from.ensures.column

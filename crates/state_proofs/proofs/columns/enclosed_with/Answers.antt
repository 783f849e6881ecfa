use Rattle.std.proofs.lemmas.Result.{IfOk-weaker}
use Rattle.grid_laplacian.specs.Sizes.{size_of}
use Rattle.state_proofs.proofs.Rooms.{in_total, room_for}
use Rattle.state_proofs.proofs.columns.enclosed_with.Goals as goal

pub enclose_with-requires-clause-room : goal.enclose_with-requires-clause-room
enclose_with-requires-clause-room c = room_for c.args.state.now (size_of c.args.p.now) c.requires.room c.requires.size

pub returns : goal.returns
returns c = IfOk-weaker c.enclose_with.result _ _ (λ angles h. h (in_total c.args.state.now (size_of c.args.p.now) c.requires.size)) c.enclose_with.ensures.column

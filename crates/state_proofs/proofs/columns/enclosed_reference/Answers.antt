use Rattle.std.proofs.lemmas.Result.{IfOk-weaker}
use Rattle.state_proofs.proofs.Rooms.{length_reference}
use Rattle.state_proofs.proofs.columns.enclosed_reference.Goals as goal

pub enclosed-requires-clause-each_class : goal.enclosed-requires-clause-each_class
enclosed-requires-clause-each_class c = length_reference c.args.state.now c.args.grid.now c.in_ok-p.p c.in_ok-p.ensures.value

pub returns : goal.returns
returns c = IfOk-weaker c.enclosed.result _ _ (λ angles h. rw c.in_ok-p.ensures.value at h) c.enclosed.ensures

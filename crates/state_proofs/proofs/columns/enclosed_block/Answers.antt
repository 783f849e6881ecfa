use Rattle.std.proofs.Common.{ℕ, ◌*◌, ◌^◌, ◌≤◌, arith}
use Rattle.std.proofs.lemmas.Result.{IfOk-weaker}
use Rattle.state_proofs.proofs.Rooms.{length_block}
use Rattle.state_proofs.proofs.columns.enclosed_block.Goals as goal

pub enclosed-requires-clause-each_class : goal.enclosed-requires-clause-each_class
enclosed-requires-clause-each_class c = length_block c.args.state.now c.args.block.now c.in_ok-p.p c.in_ok-p.ensures.value

within : {n : ℕ} → n ≤ 10 ^ 25 → n ≤ 2 * 10 ^ 25
within h = omega arith

pub enclosed-requires-clause-size : goal.enclosed-requires-clause-size
enclosed-requires-clause-size c = within c.in_ok-p.ensures.size

pub returns : goal.returns
returns c = IfOk-weaker c.enclosed.result _ _ (λ angles h. rw c.in_ok-p.ensures.value at h) c.enclosed.ensures

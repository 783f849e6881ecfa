use Rattle.std.proofs.Common.{ℕ, ◌+◌, ap}
use Rattle.crac_model.proofs.NameLaws.{branch_step}
use Rattle.crac_model.proofs.names.branch_places.Goals as goal

pub loop-branch-preserved : goal.loop-branch-preserved
loop-branch-preserved c =
    let noted = rw c.as_text.ensures.bytes at c.in_ok-note.ensures in
    record {
      place = ap (λ (n : ℕ). n + 1) c.loop-branch.invariant.place;
      left = branch_step c.loop-branch.places c.note.new.values _ c.args.branches.now c.loop-branch.branch-index c.loop-branch.place c.branch-item.result c.loop-branch-test.true c.branch-item.is noted c.loop-branch.invariant.left;
    }

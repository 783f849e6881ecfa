use Rattle.std.proofs.Common.{List, All, subst, refl}
use Rattle.std.proofs.lemmas.List.{take_all}
use Rattle.std.proofs.lemmas.List.Elements.{All-more}
use Rattle.fb_types.specs.declared.grid.Branch.{Branch}
use Rattle.fb_types.specs.GridRanges.{IsBranch}
use Rattle.fb_types.proofs.grid.are_branches.Goals as goal

pub loop-branch-preserved : goal.loop-branch-preserved
loop-branch-preserved c =
    All-more (IsBranch c.args.nodes) c.args.branches.now c.loop-branch.branch-index c.branch-item.result c.loop-branch-test.true c.loop-branch.invariant
    (subst (λ (b : Branch). IsBranch c.args.nodes b) c.branch-item.is (c.if-not-is_branch.ensures.0 refl))

pub returns : goal.returns
returns c = (
  λ _. record { each = subst (λ (bs : List Branch). All (IsBranch c.args.nodes) bs) (take_all c.loop-branch.branch-index c.args.branches.now c.loop-branch-test.false) c.loop-branch.invariant },
  λ _. refl,
)

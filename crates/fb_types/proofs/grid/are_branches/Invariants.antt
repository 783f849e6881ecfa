use Rattle.std.proofs.Common.{All, take}
use Rattle.fb_types.specs.GridRanges.{IsBranch}
use Rattle.fb_types.proofs.grid.are_branches.Given as goal

abbrev pub invariant-loop-branch : goal.invariant-loop-branch
invariant-loop-branch l = All (IsBranch l.nodes) (take l.branch-index l.branches)

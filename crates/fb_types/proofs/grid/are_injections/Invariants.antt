use Rattle.std.proofs.Common.{◌≡◌, ◌+◌, ◌^◌, sum_by, take}
use Rattle.fb_types.specs.GridRanges.{exchange_of}
use Rattle.fb_types.proofs.grid.are_injections.Given as goal

abbrev pub invariant-loop-node : goal.invariant-loop-node
invariant-loop-node l = sum_by exchange_of (take l.node-index l.nodes) + l.left ≡ 10 ^ 12

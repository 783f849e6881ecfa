use Rattle.std.proofs.Common.{◌≡◌, ◌≤◌, ◌*◌, ◌^◌, ◌+ℤ◌, sum_by, take, unsigned_abs}
use Rattle.grid_laplacian.proofs.range.exchanges.Given as goal

abbrev pub invariant-loop-node : goal.invariant-loop-node
invariant-loop-node l = record {
  so_far : l.sum ≡ sum_by (λ node. unsigned_abs (node.load +ℤ node.generation)) (take l.node-index l.nodes);
  small : l.sum ≤ l.node-index * 2 ^ 64;
}

use Rattle.std.proofs.Common.{◌≡◌, map, take}
use Rattle.fb_certificate.specs.RowIndices.{reduction_key}
use Rattle.fb_certificate.proofs.indices.reduction_keys.Given as goal

abbrev pub invariant-loop-reduction : goal.invariant-loop-reduction
invariant-loop-reduction l = l.keys.items ≡ map reduction_key (take l.reduction-index l.reductions)

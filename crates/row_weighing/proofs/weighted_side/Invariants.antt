use Rattle.std.proofs.Common.{◌≡◌, take}
use Rattle.fb_types.specs.Domain.{combined_side}
use Rattle.row_weighing.proofs.weighted_side.Given as goal

abbrev pub invariant-loop-m : goal.invariant-loop-m
invariant-loop-m l = l.sum ≡ combined_side l.rows (take l.m-index l.mults)

use Rattle.std.proofs.Common.{◌≡◌, take}
use Rattle.fb_types.specs.Domain.{combined_coefficient}
use Rattle.row_weighing.proofs.weighted_coefficient.Given as goal

abbrev pub invariant-loop-m : goal.invariant-loop-m
invariant-loop-m l = l.sum ≡ combined_coefficient l.rows (take l.m-index l.mults) l.zone

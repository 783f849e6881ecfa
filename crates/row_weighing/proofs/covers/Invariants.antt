use Rattle.std.proofs.Common.{◌≡◌, ◌+◌, ◌*◌, ◌^◌, pos, ◌+ℤ◌, ◌*ℤ◌}
use Rattle.whole_laws.specs.Sums.{IsWithin}
use Rattle.fb_types.specs.Domain.{combined_side, greatest_rest}
use Rattle.row_weighing.proofs.covers.Given as goal

abbrev pub invariant-loop-zone : goal.invariant-loop-zone
invariant-loop-zone l =
    (l.most ≡ (combined_side l.rows l.by.mults *ℤ pos (10 ^ 12)) +ℤ greatest_rest l.target l.rows l.by l.bounds l.zone) × IsWithin (2 * 10 ^ 37 + 3 * 10 ^ 35 * l.zone) l.most

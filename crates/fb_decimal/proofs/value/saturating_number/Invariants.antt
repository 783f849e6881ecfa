use Rattle.std.proofs.Common.{◌≡◌, ◌-◌, ◌^◌, min, take}
use Rattle.fb_decimal.specs.Pieces.{number}
use Rattle.fb_decimal.proofs.value.saturating_number.Given as goal

abbrev pub invariant-loop-byte : goal.invariant-loop-byte
invariant-loop-byte l = l.total ≡ min (number (take l.byte-index l.bytes)) (2 ^ 64 - 1)

use Rattle.std.proofs.Common.{◌≡◌, ◌+◌, ◌++◌, map, length}
use Rattle.std.specs.Fmt.{signed_decimal}
use Rattle.whole_laws.specs.Sums.{IsWithin}
use Rattle.std.specs.List.{All}
use Rattle.std.specs.Option.{option_map_or}
use Rattle.number_lists.specs.Words.{parts_of, parts_left}
use Rattle.number_lists.proofs.numbers_within.Given as goal

abbrev pub invariant-loop-left : goal.invariant-loop-left
invariant-loop-left l = (parts_of 32 l.text ≡ map signed_decimal l.read ++ parts_left 32 l.left) × All (IsWithin l.most) l.read

abbrev pub decreases-loop-left : goal.decreases-loop-left
decreases-loop-left l = option_map_or (λ rest. length rest.now + 1) l.left 0

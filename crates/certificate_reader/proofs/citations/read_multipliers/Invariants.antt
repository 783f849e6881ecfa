use Rattle.std.proofs.Common.{◌≡◌, ◌+◌, ◌++◌, map, length}
use Rattle.std.specs.Option.{option_map_or}
use Rattle.number_lists.specs.Words.{parts_left}
use Rattle.certificate_reader.specs.Spellings.{AreGoodMults, mult_word}
use Rattle.certificate_reader.proofs.citations.read_multipliers.Given as goal

abbrev pub invariant-loop-left : goal.invariant-loop-left
invariant-loop-left l = (parts_left 32 l.text ≡ map mult_word l.read ++ parts_left 32 l.left) × AreGoodMults l.read

abbrev pub decreases-loop-left : goal.decreases-loop-left
decreases-loop-left l = option_map_or (λ rest. length rest.now + 1) l.left 0

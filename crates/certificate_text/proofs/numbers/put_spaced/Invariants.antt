use Rattle.std.proofs.Common.{◌≡◌, ◌++◌, take, string_bytes}
use Rattle.certificate_text.specs.Pieces.{spaced_text}
use Rattle.certificate_text.proofs.numbers.put_spaced.Given as goal

abbrev pub invariant-loop-number : goal.invariant-loop-number
invariant-loop-number l = string_bytes l.text ≡ string_bytes l.initial.text ++ spaced_text (take l.number-index l.numbers)

use Rattle.std.proofs.Common.{All, take}
use Rattle.std.specs.Str.{IsUtf8}
use Rattle.certificate_files.proofs.ids_are_texts.Given as goal

abbrev pub invariant-loop-contingency : goal.invariant-loop-contingency
invariant-loop-contingency l = All (λ c. IsUtf8 c.id) (take l.contingency-index l.contingency-items)

use Rattle.std.proofs.Common.{take}
use Rattle.glsk_keys.specs.Homes.{AreNoted}
use Rattle.glsk_keys.proofs.homes.note_codes.Given as goal

abbrev pub invariant-loop-code : goal.invariant-loop-code
invariant-loop-code l = AreNoted l.initial.table l.table (take l.code-index l.codes) l.zone

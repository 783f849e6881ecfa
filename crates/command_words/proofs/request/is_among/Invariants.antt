use Rattle.std.proofs.Common.{◌≡◌, drop}
use Rattle.clap.specs.Walk.{texts}
use Rattle.command_words.specs.Words.{is_among}
use Rattle.command_words.proofs.request.is_among.Given as goal

-- the name is among those that are left, or among none
abbrev pub invariant-loop-other : goal.invariant-loop-other
invariant-loop-other l = is_among (texts l.names) l.name ≡ is_among (texts (drop l.other-index l.names)) l.name

use Rattle.std.proofs.Common.{◌≡◌, drop}
use Rattle.std.specs.List.{list_all}
use Rattle.clap.specs.Walk.{texts}
use Rattle.clap.specs.Words.{found_of, rows_of}
use Rattle.command_words.specs.Words.{has_only, is_own}
use Rattle.command_words.proofs.request.has_only.Given as goal

-- those that are left decide
abbrev pub invariant-loop-name : goal.invariant-loop-name
invariant-loop-name l =
    has_only (rows_of (found_of l.matches)) (texts l.needed) (texts l.optional)
    ≡ list_all (is_own (rows_of (found_of l.matches)) (texts l.needed) (texts l.optional))
    (texts (drop l.name-index l.name-items))

use Rattle.std.proofs.Common.{◌≡◌, drop}
use Rattle.std.specs.List.{list_all}
use Rattle.clap.specs.Walk.{texts}
use Rattle.clap.specs.Words.{found_of, rows_of}
use Rattle.command_words.specs.Words.{is_given}
use Rattle.command_words.proofs.request.are_given.Given as goal

-- those that are left decide
abbrev pub invariant-loop-name : goal.invariant-loop-name
invariant-loop-name l =
    list_all (is_given (rows_of (found_of l.matches))) (texts l.names)
    ≡ list_all (is_given (rows_of (found_of l.matches))) (texts (drop l.name-index l.names))

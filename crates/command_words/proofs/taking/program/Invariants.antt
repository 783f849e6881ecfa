use Rattle.std.proofs.Common.{◌≡◌, drop}
use Rattle.clap.specs.Walk.{texts}
use Rattle.clap.specs.Words.{app_of}
use Rattle.command_words.specs.Words.{fbcc_app, with_options}
use Rattle.command_words.proofs.taking.program.Given as goal

-- the options that are left make it the one command
abbrev pub invariant-loop-name : goal.invariant-loop-name
invariant-loop-name l = with_options (app_of l.program) (texts (drop l.name-index l.name-items)) ≡ fbcc_app

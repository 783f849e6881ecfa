use Rattle.std.proofs.Common.{◌∙◌, map, string_bytes}
use Rattle.clap.specs.Words.{app_of}
use Rattle.command_words.proofs.Taken.{all_found, no_fault, some_fault}
use Rattle.command_words.proofs.taking.take.Goals as goal

pub returns-in-Ok-try_get_matches_from-clause-taken :
    goal.returns-in-Ok-try_get_matches_from-clause-taken
returns-in-Ok-try_get_matches_from-clause-taken c =
    no_fault (app_of c.in-Ok.command) (map string_bytes c.args.words.now) c.in-Ok.ensures
    c.in-Ok-try_get_matches_from.ensures.kinds

pub returns-in-Ok-try_get_matches_from-clause-rows :
    goal.returns-in-Ok-try_get_matches_from-clause-rows
returns-in-Ok-try_get_matches_from-clause-rows c =
    all_found (app_of c.in-Ok.command) (map string_bytes c.args.words.now) c.in-Ok-try_get_matches_from.matches
    c.in-Ok.ensures c.in-Ok-try_get_matches_from.ensures.matches

pub returns : goal.returns
returns c = record {
  taken = tt;
  rows = tt;
  usage = λ is none. some_fault (app_of c.in-Ok.command) (map string_bytes c.args.words.now) c.in-Err.e c.in-Ok.ensures
      c.in-Err.ensures.kinds (λ memory. c.in_default-kind.not-OutOfMemory (c.kind.ensures ∙ memory)) none;
}

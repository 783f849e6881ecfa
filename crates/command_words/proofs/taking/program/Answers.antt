use Rattle.std.proofs.Common.{◌∙◌, ap, ap₂}
use Rattle.clap.specs.Words.{app_of, with_rule}
use Rattle.command_words.proofs.Program.{first_options, next_option}
use Rattle.command_words.proofs.taking.program.Goals as goal

pub loop-name-init : goal.loop-name-init
loop-name-init c =
    first_options (app_of c.in_ok-program.program) c.option_names-name-items.result.now
    (c.in_ok-program.ensures.shape c.command.ensures.local ∙ ap₂ with_rule c.bare.ensures c.command.ensures.rule)
    c.option_names-name-items.ensures

pub loop-name-preserved : goal.loop-name-preserved
loop-name-preserved c =
    next_option (app_of c.loop-name.program) (app_of c.in_ok-program-2.program)
    c.option_names-name-items.result.now c.loop-name.name-index _ c.loop-name-test.true c.loop-name.invariant
    (c.in_ok-program-2.ensures.shape c.option.ensures.local
    ∙ ap (with_rule (app_of c.loop-name.program)) c.option.ensures.rule)

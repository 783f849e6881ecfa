use Rattle.std.proofs.Common.{◌∷◌, ap, ◌∙◌}
use Rattle.number_lists.specs.Words.{parts_left}
use Rattle.number_lists.specs.WordLaws.{is_head, no_head}
use Rattle.number_lists.proofs.first_word.Goals as goal

pub returns-in-Some-clause-some : goal.returns-in-Some-clause-some
returns-in-Some-clause-some c = is_head c.args.mark c.args.text.now c.cut.result.0.now c.in-Some.rest.now (c.cut.ensures.split ∙ ap (λ l. c.cut.result.0.now ∷ parts_left c.args.mark l) c.in-Some.is)

pub returns-in-None-clause-none : goal.returns-in-None-clause-none
returns-in-None-clause-none c = no_head c.args.mark c.args.text.now c.cut.result.0.now (c.cut.ensures.split ∙ ap (λ l. c.cut.result.0.now ∷ parts_left c.args.mark l) c.in-None.is)

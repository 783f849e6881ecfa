use Rattle.std.proofs.Common.{◌++◌, map, sym, ap, ◌∙◌, append-nil}
use Rattle.number_lists.specs.ListLaws.{unlisted}
use Rattle.number_lists.specs.Words.{parts_left}
use Rattle.certificate_reader.specs.Spellings.{IsGoodMult, mult_word}
use Rattle.certificate_reader.proofs.citations.read_multipliers.Goals as goal

pub returns-in_default-read_multiplier : goal.returns-in_default-read_multiplier
returns-in_default-read_multiplier c = record {
  spelled = λ xs are e.
      let parts = sym e ∙ c.loop-left.invariant.0 ∙ ap (λ t. map mult_word c.loop-left.read ++ t) (ap (parts_left 32) c.in-Some.is ∙ c.cut.ensures.split) in
      unlisted mult_word IsGoodMult c.loop-left.read xs _ _ parts are (rw c.in_default-read_multiplier.is at c.read_multiplier.ensures.spelled);
}

pub returns : goal.returns
returns c = record {
  spelled = (c.loop-left.invariant.1, c.loop-left.invariant.0 ∙ ap (λ t. map mult_word c.loop-left.read ++ parts_left 32 t) c.in_default.is ∙ append-nil _);
}

use Rattle.std.proofs.Common.{◌++◌, map, sym, ap, ◌∙◌, append-nil, FitsSigned}
use Rattle.std.specs.Fmt.{signed_decimal}
use Rattle.std.specs.Int.{w128}
use Rattle.number_lists.specs.Words.{parts_of, parts_left}
use Rattle.number_lists.specs.ListLaws.{unlisted, numbers_parts, read_numbers}
use Rattle.number_lists.proofs.numbers.Goals as goal

pub returns-in_default-whole_number : goal.returns-in_default-whole_number
returns-in_default-whole_number c = record {
  spelled = λ xs are e.
      let parts =
      sym (numbers_parts xs are) ∙ ap (parts_of 32) (sym e) ∙ c.loop-left.invariant.0
      ∙ ap (λ t. map signed_decimal c.loop-left.read ++ t) (ap (parts_left 32) c.in-Some.is ∙ c.cut.ensures.split) in
      unlisted signed_decimal (FitsSigned w128) c.loop-left.read xs _ _ parts are.fit (rw c.in_default-whole_number.is at c.whole_number.ensures.spelled);
}

pub returns : goal.returns
returns c = record {
  spelled = read_numbers c.args.text.now c.loop-left.read
      (c.loop-left.invariant.0 ∙ ap (λ t. map signed_decimal c.loop-left.read ++ parts_left 32 t) c.in_default.is ∙ append-nil _) c.loop-left.invariant.1;
}

use Rattle.std.proofs.Common.{◌++◌, map, sym, ap, ◌∙◌, append-nil}
use Rattle.std.specs.Fmt.{signed_decimal}
use Rattle.whole_laws.specs.Sums.{IsWithin}
use Rattle.number_lists.specs.Words.{parts_of, parts_left}
use Rattle.number_lists.specs.ListLaws.{unlisted, numbers_parts, read_within, within_numbers}
use Rattle.number_lists.proofs.numbers_within.Goals as goal

pub returns-in_default-number_within : goal.returns-in_default-number_within
returns-in_default-number_within c = record {
  spelled = λ xs are e.
      let parts =
      sym (numbers_parts xs (within_numbers c.args.most xs c.requires are)) ∙ ap (parts_of 32) (sym e) ∙ c.loop-left.invariant.0
      ∙ ap (λ t. map signed_decimal c.loop-left.read ++ t) (ap (parts_left 32) c.in-Some.is ∙ c.cut.ensures.split) in
      unlisted signed_decimal (IsWithin c.args.most) c.loop-left.read xs _ _ parts are.small (rw c.in_default-number_within.is at c.number_within.ensures.spelled);
}

pub returns : goal.returns
returns c = record {
  spelled = read_within c.args.most c.args.text.now c.loop-left.read
      (c.loop-left.invariant.0 ∙ ap (λ t. map signed_decimal c.loop-left.read ++ parts_left 32 t) c.in_default.is ∙ append-nil _) c.loop-left.invariant.1;
}

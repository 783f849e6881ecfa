use Rattle.std.proofs.Common.{◌≡◌, sym, ◌∙◌, arith}
use Rattle.std.proofs.lemmas.Int.{ints}
use Rattle.whole_numbers.specs.SpelledLaws.{signed_same, fits_within}
use Rattle.whole_numbers.proofs.number_within.Goals as goal
use Rattle.whole_numbers.proofs.number_within.Goals.{else-most-value-via-then-most-value+else-value-most, else-most-value-via-else-most-value}

pub returns-in_default : goal.returns-in_default
returns-in_default c = record { spelled = λ x h e. (rw c.in_default.is at c.whole_number.ensures.spelled) x (fits_within c.args.most x h c.requires) e }

pub returns-else-most-value : goal.returns-else-most-value
returns-else-most-value c = record {
  spelled = λ x h e.
      let read = rw c.in-Some.is at c.whole_number.ensures.spelled in
      let same : c.in-Some.value ≡ x = signed_same c.in-Some.value x read.0 (fits_within c.args.most x h c.requires) (sym read.1 ∙ e) in
      elim c.else-most-value.branch [
        | else-most-value-via-then-most-value+else-value-most w ↦ omega (arith, ints)
        | else-most-value-via-else-most-value w ↦ omega (arith, ints)
      ];
}

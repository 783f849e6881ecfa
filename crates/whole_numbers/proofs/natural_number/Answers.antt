use Rattle.std.proofs.Common.{◌≡◌, pos, sym, ◌∙◌, arith}
use Rattle.std.proofs.lemmas.Int.{ints}
use Rattle.whole_numbers.specs.SpelledLaws.{signed_same, fits_natural}
use Rattle.whole_numbers.proofs.natural_number.Goals as goal
use Rattle.whole_numbers.proofs.natural_number.Goals.{else-value-ge0-via-then-value-ge0+else-value-from, else-value-ge0-via-else-value-ge0}

pub returns-in_default : goal.returns-in_default
returns-in_default c = record { spelled = λ x h e. (rw c.in_default.is at c.whole_number.ensures.spelled) (pos x) (fits_natural x h) e }

pub returns-else-value-ge0 : goal.returns-else-value-ge0
returns-else-value-ge0 c = record {
  spelled = λ x h e.
      let read = rw c.in-Some.is at c.whole_number.ensures.spelled in
      let same : c.in-Some.value ≡ pos x = signed_same c.in-Some.value (pos x) read.0 (fits_natural x h) (sym read.1 ∙ e) in
      elim c.else-value-ge0.branch [
        | else-value-ge0-via-then-value-ge0+else-value-from w ↦ omega (arith, ints)
        | else-value-ge0-via-else-value-ge0 w ↦ omega (arith, ints)
      ];
}

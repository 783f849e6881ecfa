use Rattle.std.proofs.Common.{sym, ◌∙◌, arith}
use Rattle.whole_numbers.specs.SpelledLaws.{decimal_same}
use Rattle.certificate_reader.proofs.values.read_kappa.Goals as goal

pub returns-else-value-le1 : goal.returns-else-value-le1
returns-else-value-le1 c = record {
  spelled = λ x g e.
      let read = c.in-Some.ensures.spelled in
      let same = decimal_same x c.in-Some.value (omega (arith, g)) (omega (arith, read.0)) (sym e ∙ read.1) in
      absurd (omega (arith, same, g, c.if-value-le1.false));
}

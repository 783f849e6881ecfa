use Rattle.std.proofs.Common.{◌≡◌, ◌^◌, sym, ◌∙◌, arith, lit<}
use Rattle.std.proofs.lemmas.Int.{ints}
use Rattle.std.specs.Fmt.{signed_decimal}
use Rattle.whole_numbers.specs.SpelledLaws.{signed_same, fits_within}
use Rattle.rows_document.proofs.record.zone.Goals as goal

pub returns-then-b : goal.returns-then-b
returns-then-b c = record {
  spelled = λ x h e.
      let read = rw c.in-Some.is at c.bounds.ensures.spelled in
      let both = sym read.1 ∙ e in
      let low_text : signed_decimal c.in-Some.b.low ≡ signed_decimal x.low = cc in
      let high_text : signed_decimal c.in-Some.b.high ≡ signed_decimal x.high = cc in
      let low = signed_same c.in-Some.b.low x.low (fits_within (10 ^ 11) c.in-Some.b.low read.0.low (lit< tt)) (fits_within (10 ^ 11) x.low h.small.low (lit< tt)) low_text in
      let high = signed_same c.in-Some.b.high x.high (fits_within (10 ^ 11) c.in-Some.b.high read.0.high (lit< tt)) (fits_within (10 ^ 11) x.high h.small.high (lit< tt)) high_text in
      let above = c.if-b.true in
      let ordered = h.ordered in
      omega (arith, ints);
}

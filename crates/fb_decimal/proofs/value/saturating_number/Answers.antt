use Rattle.std.proofs.Common.{arith, ap, sym, ◌∙◌}
use Rattle.std.specs.Str.Parse.{digits_value}
use Rattle.fb_decimal.proofs.Digits.{number_more_yes, digits_more_no}
use Rattle.fb_decimal.proofs.value.saturating_number.Goals as goal
use Rattle.fb_decimal.proofs.value.saturating_number.Goals.{then-is_ascii_digit, else-is_ascii_digit}

pub loop-byte-preserved : goal.loop-byte-preserved
loop-byte-preserved c = elim c.if-is_ascii_digit.branch [
  | then-is_ascii_digit w ↦ let e = number_more_yes c.args.bytes.now c.loop-byte.byte-index (omega arith) (sym c.is_ascii_digit.ensures.value ∙ w.if-is_ascii_digit.true) in omega (arith, e, w.total-is)
  | else-is_ascii_digit w ↦ let e = ap (digits_value 10) (digits_more_no c.args.bytes.now c.loop-byte.byte-index (omega arith) (sym c.is_ascii_digit.ensures.value ∙ w.if-is_ascii_digit.false)) in omega (arith, e, w.total-is)
]

use Rattle.std.proofs.Common.{◌≡◌, ◌-◌, ◌^◌, ◌<◌, min, length, arith, subst}
use Rattle.fb_decimal.specs.Pieces.{digits, places, number, begins_with_minus, kept_digits, from_front, IsCapped}
use Rattle.fb_decimal.proofs.Digits.{magnitude_is}
use Rattle.fb_decimal.proofs.value.magnitude.Goals as goal

pub returns : goal.returns
returns c =
    let front = c.split_at_mark.result.0.now in
    let back = c.split_at_mark.result.1.now in
    let kept : c.kept-kept.result ≡ kept_digits (length (digits front)) (places front) (begins_with_minus back) (min (number back) (2 ^ 64 - 1)) = cc in
    let short : length front < 2 ^ 63 = omega arith in
    magnitude_is c.args.bytes.now front back c.front_number.result c.split_at_mark.ensures.front c.split_at_mark.ensures.back short
    (subst (λ k. IsCapped (10 ^ 30) (from_front (digits front) k) c.front_number.result) kept c.front_number.ensures)

-- The spread is not negative, and a threshold in thousandths is a whole number of 10^-12.
use Rattle.std.proofs.Common.{ℤ, pos, ◌*ℤ◌, List, ◌∷◌, arith}
use Rattle.std.proofs.lemmas.Int.{ints}
use Rattle.std.proofs.lemmas.List.Elements.{All-head}
use Rattle.fractions.specs.Fractions.{Fraction, AtMost, Same, whole, times, over}
use Rattle.fractions.specs.FractionLaws.{AtMost_trans, AtMost-Same, plus-zero, to_minus}
use Rattle.fractions.specs.Greatest.{greatest_of, least_of}
use Rattle.fractions.specs.GreatestLaws.{greatest_is, least_is}
use Rattle.security.specs.Spreads.{spread_of}

pub spread_not_negative : (p : Fraction) (ps : List Fraction) → AtMost (whole (pos 0)) (spread_of (p ∷ ps))
spread_not_negative p ps =
    to_minus (least_of (p ∷ ps)) (whole (pos 0)) (greatest_of (p ∷ ps))
    (AtMost_trans (AtMost-Same (plus-zero (least_of (p ∷ ps))))
    (AtMost_trans (All-head (λ q. AtMost (least_of (p ∷ ps)) q) p ps (least_is p ps).bound) (All-head (λ q. AtMost q (greatest_of (p ∷ ps))) p ps (greatest_is p ps).bound)))

pub times-threshold : (t : ℤ) → Same (times (pos 1_000_000_000_000) (over (whole t) (pos 1000) (record { lt = tt }))) (whole (t *ℤ pos 1_000_000_000))
times-threshold t = record { same = omega (arith, ints) }

-- The laws by which fractions are ordered.
use Rattle.std.specs.Prelude.{List, ◌∷◌, ◌⊎◌}
use Rattle.fractions.specs.Fractions.{Fraction, Same, AtMost}
use Rattle.fractions.specs.Greatest.{greatest_of, least_of, IsGreatest, IsLeast}

-- equality is an equivalence, and "at most" is a total order up to equality
pub record FractionsAreOrdered : Type 0 where
  pub same_itself : (p : Fraction) → Same p p
  pub same_both_ways : (p q : Fraction) → Same p q → Same q p
  pub same_along : (p q r : Fraction) → Same p q → Same q r → Same p r
  pub at_most_same : (p q : Fraction) → Same p q → AtMost p q
  pub at_most_along : (p q r : Fraction) → AtMost p q → AtMost q r → AtMost p r
  pub at_most_both_ways : (p q : Fraction) → AtMost p q → AtMost q p → Same p q
  pub at_most_either_way : (p q : Fraction) → AtMost p q ⊎ AtMost q p

-- `greatest_of` and `least_of` are what they are called
pub record ListsHaveEnds : Type 0 where
  pub greatest : (p : Fraction) (ps : List Fraction) → IsGreatest (p ∷ ps) (greatest_of (p ∷ ps))
  pub least : (p : Fraction) (ps : List Fraction) → IsLeast (p ∷ ps) (least_of (p ∷ ps))

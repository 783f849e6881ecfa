-- The greatest and the least of a list of fractions.
use Rattle.std.specs.Prelude.{pos, List, [], ◌∷◌}
use Rattle.std.specs.List.{All, Contains, fold}
use Rattle.fractions.specs.Fractions.{Fraction, AtMost, whole, maximum, minimum}

-- the greatest of a list, and 0 of the empty one
abbrev pub greatest_of : List Fraction → Fraction
greatest_of [] = whole (pos 0)
greatest_of (p ∷ ps) = fold maximum p ps

-- the least of a list, and 0 of the empty one
abbrev pub least_of : List Fraction → Fraction
least_of [] = whole (pos 0)
least_of (p ∷ ps) = fold minimum p ps

-- g is in the list, and all others are at most g
pub record IsGreatest (ps : List Fraction) (g : Fraction) : Type 0 where
  pub member : Contains ps g
  pub bound : All (λ p. AtMost p g) ps

-- l is in the list, and all others are at least l
pub record IsLeast (ps : List Fraction) (l : Fraction) : Type 0 where
  pub member : Contains ps l
  pub bound : All (λ p. AtMost l p) ps

-- The lines of a rows document, as fields. Bounds and right sides are in watts, coefficients in 10^-12, multipliers in 10^-9.
use Rattle.std.specs.Prelude.{ℕ, ◌*◌, ◌^◌, ◌<◌, ◌≤◌, ℤ, ◌≤ℤ◌, List, [], ◌∷◌, length, map, FitsSigned}
use Rattle.std.specs.Int.{w128}
use Rattle.std.specs.List.{All}
use Rattle.std.specs.Fmt.{decimal, signed_decimal}
use Rattle.std.specs.Prelude.{codes}
use Rattle.whole_laws.specs.Sums.{IsWithin}
use Rattle.fb_types.specs.declared.rows.Bounds.{Bounds}
use Rattle.fb_types.specs.declared.rows.Half.{Half}
use Rattle.fb_types.specs.declared.rows.Mult.{Mult}
use Rattle.rows_document.specs.declared.record.Record.{Record}
use Rattle.rows_document.specs.declared.record.Record.TheVariants.{Zone, Row, Target, Cite, Balance}

-- a right side and coefficients
abbrev pub numbers_of : Half → List (List ℕ)
numbers_of h = signed_decimal h.r ∷ map signed_decimal h.a

abbrev pub bounds_of : Bounds → List (List ℕ)
bounds_of b = signed_decimal b.low ∷ signed_decimal b.high ∷ []

abbrev pub citation_of : Mult → List (List ℕ)
citation_of m = decimal m.row ∷ signed_decimal m.value ∷ []

-- the fields of a line
abbrev pub line_of : Record → List (List ℕ)
line_of (Zone b) = codes "bounds" ∷ bounds_of b
line_of (Row h) = codes "row" ∷ numbers_of h
line_of (Target h) = codes "target" ∷ numbers_of h
line_of (Cite m) = codes "mult" ∷ citation_of m
line_of (Balance mu) = codes "mu" ∷ signed_decimal mu ∷ []

-- bounds within 10^11 W
pub record AreSmall (b : Bounds) : Type 0 where
  pub low : IsWithin (10 ^ 11) b.low
  pub high : IsWithin (10 ^ 11) b.high

pub record IsGoodZone (b : Bounds) : Type 0 where
  pub small : AreSmall b
  pub ordered : b.low ≤ℤ b.high

-- at most 64 coefficients, each within 10^12
pub record AreCoefficients (a : List ℤ) : Type 0 where
  pub few : length a ≤ 64
  pub small : All (λ k. IsWithin (10 ^ 12) k) a

-- the right side is within 2·10^13 W
pub record IsGoodHalf (h : Half) : Type 0 where
  pub side : IsWithin (2 * 10 ^ 13) h.r
  pub coefficients : AreCoefficients h.a

pub record IsGoodCite (m : Mult) : Type 0 where
  pub row : m.row < 2 ^ 32
  pub value : FitsSigned w128 m.value

-- the numbers of a line are in their ranges
abbrev pub IsGood : Record → Type 0
IsGood (Zone b) = IsGoodZone b
IsGood (Row h) = IsGoodHalf h
IsGood (Target h) = IsGoodHalf h
IsGood (Cite m) = IsGoodCite m
IsGood (Balance mu) = FitsSigned w128 mu

-- Lists of whole numbers, each with its one text.
use Rattle.std.specs.Prelude.{ℕ, ◌<◌, ℤ, List, length, map, FitsSigned}
use Rattle.std.specs.Fmt.{signed_decimal}
use Rattle.std.specs.Int.{w128}
use Rattle.std.specs.List.{All, join_with_byte}
use Rattle.whole_laws.specs.Sums.{IsWithin}

-- the numbers in decimal, with one blank between two of them
abbrev pub numbers_text : List ℤ → List ℕ
numbers_text xs = join_with_byte 32 (map signed_decimal xs)

-- at least one number, each of 128 bits
pub record AreNumbers (xs : List ℤ) : Type 0 where
  pub some : 0 < length xs
  pub fit : All (FitsSigned w128) xs

-- at least one number, the size of each at most `most`
pub record AreWithin (most : ℕ) (xs : List ℤ) : Type 0 where
  pub some : 0 < length xs
  pub small : All (IsWithin most) xs

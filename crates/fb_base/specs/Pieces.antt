-- Bytes that are put piece by piece.
use Rattle.std.specs.Prelude.{◌≡◌, ℕ, List, ◌++◌, take}

-- the new bytes are the old ones and then some first bytes of the piece, which may be none or all
pub record AppendsPrefix (old new piece : List ℕ) : Type 0 where
  pub count : ℕ
  pub is : new ≡ old ++ take count piece

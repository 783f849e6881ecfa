-- Columns, each at the place of its zone. Nobody need believe these words: they are of private contracts.
use Rattle.std.specs.Prelude.{◌≡◌, ℕ, ◌<◌, List, ◌++◌, length, map, slice_index_or}
use Rattle.fb_types.specs.declared.keys.Column.{Column}
use Rattle.glsk_keys.specs.Columns.{column_or}

pub record ArePlaced (columns : List Column) : Type 0 where
  pub each : (k : ℕ) (d : Column) → k < length columns → (slice_index_or columns k d).zone ≡ k

-- of these series the last ones were placed
pub record WerePlaced (left now series defaults : List Column) : Type 0 where
  pub gone : List Column
  pub all : left ++ gone ≡ series
  pub columns : now ≡ map (column_or gone) defaults

-- A later step may remove more: what no kept row does, none of fewer kept rows does.
use Rattle.std.specs.Prelude.{◌≡◌, ℕ, ◌-◌, List, length, Some, slice_get}
use Rattle.std.specs.List.{All}
use Rattle.fb_types.specs.Domain.{Follows}
use Rattle.fb_types.specs.declared.rows.Bounds.{Bounds}
use Rattle.fb_types.specs.declared.rows.Half.{Half}
use Rattle.fb_types.specs.declared.rows.Multipliers.{Multipliers}
use Rattle.fb_types.specs.declared.rows.Fate.{Fate}
use Rattle.fb_types.specs.declared.rows.Fate.TheVariants.{Removed}
use Rattle.redundancy.specs.Thinned.{row_of, IsKeptRow, IsThinned}

pub thinner : (rows : List Half) (bounds : List Bounds) (old new : List Fate) → IsThinned rows bounds old → length new ≡ length rows → ((k : ℕ) → IsKeptRow new k → IsKeptRow old k) → ((k : ℕ) (by : Multipliers) → slice_get new k ≡ Some (Removed by) → Follows (row_of rows k) rows by bounds × All (λ m. IsKeptRow new (m.row - 1)) by.mults) → IsThinned rows bounds new
thinner rows bounds old new t n fewer removed = record {
  each = n;
  removed = removed;
  box = λ k mu h f. t.box k mu (fewer k h) f;
  one = λ j k mu d g h f. t.one j k mu d (fewer j g) (fewer k h) f;
}

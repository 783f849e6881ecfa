-- Nobody need believe this file: private contracts cite it, and what removed_rows promises says the same without it.
-- The rows that stand in a list, by their numbers in the table, and how multipliers over a list are cited by those numbers. Rows are
-- numbered from 1, in a list as in the table.
use Rattle.std.specs.Prelude.{⊤, ℕ, zero, suc, ◌-◌, ◌≤◌, pos, List, [], ◌∷◌, ◌++◌, map, if◌then◌else◌, Option, Some, None, All, slice_get, slice_index}
use Rattle.std.specs.Option.{option_map_or}
use Rattle.fb_types.specs.declared.rows.Half.{Half}
use Rattle.fb_types.specs.declared.rows.Mult.{Mult}
use Rattle.fb_types.specs.declared.rows.Multipliers.{Multipliers}
use Rattle.fb_types.specs.declared.rows.Fate.{Fate}
use Rattle.fb_types.specs.declared.rows.Fate.TheVariants.{Kept, Removed}
use Rattle.cnec_rows.specs.declared.types.RowProof.{RowProof}
use Rattle.fb_certificate.specs.Lists.{ListKind, numbered, is_listed}
use Rattle.fb_certificate.specs.declared.types.Cite.{Cite}

-- the numbers up to n of the rows that stand in the list, rising
abbrev pub listed_numbers : ListKind → List RowProof → ℕ → List ℕ
listed_numbers kind rows zero = []
listed_numbers kind rows (suc n) = listed_numbers kind rows n ++ (if is_listed kind rows (suc n) then suc n ∷ [] else [])

-- the row with this number, as the list has it
abbrev pub numbered_half : ListKind → List RowProof → ℕ → Half
numbered_half kind rows number = option_map_or kind.half (numbered rows number) (record { a = []; r = pos 0 })

-- the number in the table of the row with this number in the list
abbrev pub table_number : List ℕ → ℕ → ℕ
table_number numbers number = slice_index numbers (number - 1)

abbrev pub renumbered_mult : List ℕ → Mult → Mult
renumbered_mult numbers m = record { row = table_number numbers m.row; value = m.value }

abbrev pub renumbered : List ℕ → Multipliers → Multipliers
renumbered numbers by = record { mu = by.mu; mults = map (renumbered_mult numbers) by.mults }

-- the number is that of one of so many rows
pub record IsNumber (count : ℕ) (number : ℕ) : Type 0 where
  pub above : 1 ≤ number
  pub within : number ≤ count

abbrev pub CitesNumbers : ℕ → List Mult → Type 0
CitesNumbers count mults = All (λ m. IsNumber count m.row) mults

abbrev pub FateCites : ℕ → Fate → Type 0
FateCites count Kept = ⊤
FateCites count (Removed by) = CitesNumbers count by.mults

-- what is cited of the row at a place of the list
abbrev pub cites_at : List ℕ → ℕ → Option Fate → List Cite
cites_at numbers k None = []
cites_at numbers k (Some Kept) = []
cites_at numbers k (Some (Removed by)) = record { row = slice_index numbers k; by = renumbered numbers by } ∷ []

-- what is cited of the first n rows of the list
abbrev pub cites_below : List ℕ → List Fate → ℕ → List Cite
cites_below numbers fates zero = []
cites_below numbers fates (suc n) = cites_below numbers fates n ++ cites_at numbers n (slice_get fates n)

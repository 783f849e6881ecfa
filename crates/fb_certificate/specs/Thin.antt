-- What is not kept in the two lists of a domain: no kept row follows from the box alone or from one other kept row, and in a short list
-- none that is not cited follows from two.
use Rattle.std.specs.Prelude.{◌≡◌, ◌≢◌, ℕ, ◌<◌, ◌≤◌, ℤ, true, List, length, map, filter, All, IfSome}
use Rattle.fb_types.specs.Domain.{Follows}
use Rattle.fb_types.specs.declared.rows.Bounds.{Bounds}
use Rattle.fb_types.specs.declared.rows.Multipliers.{Multipliers}
use Rattle.multiplier_search.specs.Found.{none_of, one_of, pair_of, with_balance}
use Rattle.run_settings.specs.Laws.{core_bounds}
use Rattle.cnec_rows.specs.declared.types.RowProof.{RowProof}
use Rattle.fb_certificate.specs.Lists.{ListKind, inner_list, outer_list, numbered, is_kept}
use Rattle.fb_certificate.specs.declared.types.Cite.{Cite}
use Rattle.fb_certificate.specs.declared.types.Inputs.{Inputs}
use Rattle.fb_certificate.specs.declared.types.Certificate.{Certificate}

-- the multipliers prove the row with this number from the rows that they cite and the box
abbrev pub IsProvedBy : ListKind → List Bounds → List RowProof → ℕ → Multipliers → Type 0
IsProvedBy kind bounds rows number by = IfSome (numbered rows number) (λ row. Follows (kind.half row) (map kind.half rows) by bounds)

abbrev pub IsKept : ListKind → List RowProof → List Cite → ℕ → Type 0
IsKept kind rows cites number = is_kept kind rows cites number ≡ true

-- no removed row cites the row with this number
abbrev pub IsUncited : List Cite → ℕ → Type 0
IsUncited cites number = All (λ cite. All (λ m. m.row ≢ number) cite.by.mults) cites

-- how many rows stand in the list
abbrev pub listed_count : ListKind → List RowProof → ℕ
listed_count kind rows = length (filter (λ row. kind.holds row.class) rows)

-- No kept row follows, with any multiplier of the balance, from the box alone, nor from one other kept row at 10^9; nor, in a list of at
-- most 64 rows and where no removed row cites it, from two other kept rows at tenths of 10^9 that add up to it.
pub record IsThinList (kind : ListKind) (bounds : List Bounds) (rows : List RowProof) (cites : List Cite) : Type 0 where
  pub box : (number : ℕ) (mu : ℤ) → IsKept kind rows cites number → IsProvedBy kind bounds rows number (with_balance none_of mu) → ⊥
  pub one : (other number : ℕ) (mu : ℤ) → other ≢ number → IsKept kind rows cites other → IsKept kind rows cites number → IsProvedBy kind bounds rows number (with_balance (one_of other) mu) → ⊥
  pub pair : listed_count kind rows ≤ 64 → (number i j s : ℕ) (mu : ℤ) → IsKept kind rows cites number → IsUncited cites number → IsKept kind rows cites i → IsKept kind rows cites j → i ≢ number → j ≢ number → 1 ≤ s → s < 10 → IsProvedBy kind bounds rows number (with_balance (pair_of i j s) mu) → ⊥

-- both lists of a domain
pub record IsThinDomain (inputs : Inputs) (c : Certificate) : Type 0 where
  pub inner : IsThinList inner_list (core_bounds inputs.settings.zones) c.rows c.inner
  pub outer : IsThinList outer_list (core_bounds inputs.settings.zones) c.rows c.outer

-- The two lists of a domain: which rows stand in each, which are removed from it, and its rows over net positions. Rows are
-- numbered from 1.
use Rattle.std.specs.Prelude.{◌≡◌, ℕ, zero, suc, ◌<◌, ◌==◌, ◌&&◌, Bool, true, false, not, List, length, map, Option, None, All, slice_get, IfSome}
use Rattle.std.specs.List.{list_any, AllAdjacentBelow}
use Rattle.std.specs.Option.{option_map_or}
use Rattle.fb_types.specs.Domain.{Follows}
use Rattle.fb_types.specs.declared.rows.Bounds.{Bounds}
use Rattle.fb_types.specs.declared.rows.Half.{Half}
use Rattle.cnec_selection.specs.declared.Class.{Class}
use Rattle.cnec_selection.specs.declared.Class.TheVariants.{Below, Doubtful, Certain}
use Rattle.cnec_rows.specs.declared.types.RowProof.{RowProof}
use Rattle.fb_certificate.specs.declared.types.Cite.{Cite}

-- one of the two lists: the classes of its rows, and their right sides
pub record ListKind : Type 0 where
  pub holds : Class → Bool
  pub half : RowProof → Half

-- the inner list has the rows that are certain or doubtful, and the outer list those that are certain
abbrev pub is_inner : Class → Bool
is_inner Below = false
is_inner Doubtful = true
is_inner Certain = true

abbrev pub is_outer : Class → Bool
is_outer Below = false
is_outer Doubtful = false
is_outer Certain = true

abbrev pub inner_half : RowProof → Half
inner_half row = record { a = row.a; r = row.r_in }

abbrev pub outer_half : RowProof → Half
outer_half row = record { a = row.a; r = row.r_out }

abbrev pub inner_list : ListKind
inner_list = record { holds = is_inner; half = inner_half }

abbrev pub outer_list : ListKind
outer_list = record { holds = is_outer; half = outer_half }

-- the row with this number
abbrev pub numbered : {A : Type 0} → List A → ℕ → Option A
numbered rows zero = None
numbered rows (suc n) = slice_get rows n

-- whether the row with this number stands in the list
abbrev pub is_listed : ListKind → List RowProof → ℕ → Bool
is_listed kind rows number = option_map_or (λ row. kind.holds row.class) (numbered rows number) false

-- whether it is removed from it, and whether it is kept in it
abbrev pub is_removed : List Cite → ℕ → Bool
is_removed cites number = list_any (λ cite. cite.row == number) cites

abbrev pub is_kept : ListKind → List RowProof → List Cite → ℕ → Bool
is_kept kind rows cites number = is_listed kind rows number && not (is_removed cites number)

-- a row that is removed stands in the list, cites kept rows alone, and follows from them
pub record IsCite (kind : ListKind) (bounds : List Bounds) (rows : List RowProof) (cites : List Cite) (cite : Cite) : Type 0 where
  pub listed : is_listed kind rows cite.row ≡ true
  pub cites_kept : All (λ m. is_kept kind rows cites m.row ≡ true) cite.by.mults
  pub follows : IfSome (numbered rows cite.row) (λ row. Follows (kind.half row) (map kind.half rows) cite.by bounds)

-- the rows that are removed, by rising number
pub record AreCites (kind : ListKind) (bounds : List Bounds) (rows : List RowProof) (cites : List Cite) : Type 0 where
  pub rising : AllAdjacentBelow (λ c d. c.row < d.row) cites (length cites)
  pub each : All (IsCite kind bounds rows cites) cites

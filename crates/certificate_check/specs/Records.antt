-- The records of a certificate, each beside the one that is due at its place, and what each is to meet, by the reason
-- for which it fails otherwise.
use Rattle.std.specs.Prelude.{⊤, ◌≡◌, ℕ, ◌+◌, ◌*◌, ◌<◌, ◌≤◌, true, false, List, [], ◌∷◌, ◌++◌, length, map, All, ℤ, pos, unsigned_abs}
use Rattle.whole_laws.specs.Sums.{at}
use Rattle.fb_types.specs.declared.rows.Angles.{Angles}
use Rattle.grid_state.specs.GridState.{GridState, classes_of, is_free, live_count}
use Rattle.grid_laplacian.specs.Enclosures.{IsBarrier, IsNear}
use Rattle.grid_laplacian.specs.Ranges.{greatest_total_of}
use Rattle.grid_laplacian.specs.Sizes.{least_susceptance_of}
use Rattle.security.specs.Balances.{reference_side, block_side}
use Rattle.state_proofs.specs.StateProofs.{all_blocks}
use Rattle.state_proofs.specs.declared.StateProof.{StateProof}
use Rattle.cnec_rows.specs.declared.types.RowProof.{RowProof}
use Rattle.run_settings.specs.Laws.{core_bounds}
use Rattle.fb_certificate.specs.CracRows.{CracRow, crac_rows}
use Rattle.fb_certificate.specs.Lists.{ListKind, inner_list, outer_list, is_listed, is_kept}
use Rattle.fb_certificate.specs.Thin.{IsProvedBy}
use Rattle.fb_certificate.specs.Valid.{IsRowOf}
use Rattle.fb_certificate.specs.declared.types.Certificate.{Certificate}
use Rattle.fb_certificate.specs.declared.types.Cite.{Cite}
use Rattle.fb_certificate.specs.declared.types.Inputs.{Inputs}
use Rattle.certificate_check.specs.declared.verdict.Reason.{Reason}
use Rattle.certificate_check.specs.declared.verdict.Reason.TheVariants as why

-- ---- Records

pub data Record : Type 0 where
  -- the version
  version : ℕ → Record
  -- the mark of a state, and the end
  mark : Record
  -- a record that stands where another is due
  misplaced : Record
  -- the barrier of a state, and a column of it for a right side
  barrier : GridState → List ℤ → Record
  column : GridState → List ℤ → Angles → Record
  -- the numbers of a row
  row : CracRow → RowProof → Record
  -- one of the cites of a list, beside the least row that it may remove
  cite : ListKind → List Cite → ℕ → Cite → Record

-- The records of parts, each part beside the one that is due. Where one list ends before the other, the record that
-- stands there is not the one that is due: where parts are missing it is whatever comes next, and else it is the first
-- part too many.
abbrev pub beside : {X Y : Type 0} → (X → Y → List Record) → List X → List Y → List Record
beside records [] [] = []
beside records [] (y ∷ ys) = misplaced ∷ []
beside records (x ∷ xs) [] = misplaced ∷ []
beside records (x ∷ xs) (y ∷ ys) = records x y ++ beside records xs ys

-- the right sides of a state: the reference, and each block of the zones' shift keys
abbrev pub sides_of : Inputs → GridState → List (List ℤ)
sides_of inputs s = reference_side s inputs.grid ∷ map (block_side s) (all_blocks inputs.keys.columns)

abbrev pub column_records : GridState → List ℤ → Angles → List Record
column_records s p angles = column s p angles ∷ []

-- a state: its mark, its barrier and its columns
abbrev pub state_records : Inputs → GridState → StateProof → List Record
state_records inputs s proof =
    mark ∷ barrier s proof.barrier ∷ beside (column_records s) (sides_of inputs s) (proof.reference ∷ proof.blocks)

abbrev pub row_records : CracRow → RowProof → List Record
row_records due numbers = row due numbers ∷ []

-- cites of a list, by rising row: the first one is to remove at least this row
abbrev pub cite_records : ListKind → List Cite → ℕ → List Cite → List Record
cite_records kind cites least [] = []
cite_records kind cites least (c ∷ cs) = cite kind cites least c ∷ cite_records kind cites (c.row + 1) cs

-- all records of a certificate: the version, the states, the rows, the cites of the two lists, and the end
abbrev pub records_of : Inputs → Certificate → List Record
records_of inputs c =
    version c.version
    ∷ (beside (state_records inputs) inputs.states c.states
    ++ (beside row_records (crac_rows inputs.crac.elements) c.rows
    ++ (cite_records inner_list c.inner 0 c.inner
    ++ (cite_records outer_list c.outer 0 c.outer
    ++ mark ∷ []))))

-- ---- What a record is to meet

-- w is in its bounds, 0 at the slack's class and at classes that are not live, and leaves at most kappa times the
-- susceptance of p at every other class
pub record IsColumn (s : GridState) (p : List ℤ) (angles : Angles) : Type 0 where
  pub each_class : length angles.w ≡ classes_of s
  pub small : All (λ z. least_susceptance_of s * unsigned_abs z ≤ 2 * live_count s * greatest_total_of s) angles.w
  pub fixed : (i : ℕ) → i < classes_of s → is_free s i ≡ false → at angles.w i ≡ pos 0
  pub near : IsNear s p angles.w angles.kappa
  pub at_most_one : angles.kappa ≤ 1

-- something holds of the numbers that the proofs of the states give a row
pub record OfDue (inputs : Inputs) (proofs : List StateProof) (crac_row : CracRow)
    (Agrees : RowProof → Type 0) : Type 0 where
  pub due : RowProof
  pub is_due : IsRowOf inputs proofs crac_row due
  pub agrees : Agrees due

-- a cite removes a row of its list, and cites rows that are kept in it
pub record IsCited (kind : ListKind) (rows : List RowProof) (cites : List Cite) (c : Cite) : Type 0 where
  pub listed : is_listed kind rows c.row ≡ true
  pub cites_kept : All (λ m. is_kept kind rows cites m.row ≡ true) c.by.mults

-- what the record is to meet, so as not to fail for this reason
abbrev pub Meets : Inputs → Certificate → Record → Reason → Type 0
Meets inputs c (version n) reason = reason ≡ why.Order → n ≡ 1
Meets inputs c mark reason = ⊤
Meets inputs c misplaced reason = reason ≡ why.Order → ⊥
Meets inputs c (barrier s v) reason = reason ≡ why.Barrier → IsBarrier s v
Meets inputs c (column s p angles) reason =
    (reason ≡ why.Angle → IsColumn s p angles)
    × (reason ≡ why.Kappa → IsNear s p angles.w 0 → angles.kappa ≡ 0)
Meets inputs c (row crac_row numbers) reason =
    (reason ≡ why.Class → OfDue inputs c.states crac_row (λ due. numbers.class ≡ due.class))
    × (reason ≡ why.Coefficient → OfDue inputs c.states crac_row (λ due. numbers.a ≡ due.a))
    × (reason ≡ why.RightSide → OfDue inputs c.states crac_row
    (λ due. (numbers.r_in ≡ due.r_in) × (numbers.r_out ≡ due.r_out)))
Meets inputs c (cite kind cites least removed) reason =
    (reason ≡ why.Order → least ≤ removed.row)
    × (reason ≡ why.Cited → IsCited kind c.rows cites removed)
    × (reason ≡ why.Follows → IsProvedBy kind (core_bounds inputs.settings.zones) c.rows removed.row removed.by)

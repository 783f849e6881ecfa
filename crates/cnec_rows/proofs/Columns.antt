-- The factors of the zones, zone by zone, and where the angles of a zone's blocks stand.
use Rattle.std.proofs.Common.{◌≡◌, ℕ, zero, suc, ◌+◌, ◌<◌, ◌≤◌, ℤ, List, [], ◌∷◌, ◌++◌, length, take, drop, get_or, All, refl, sym, ap, ap₂, subst, ◌∙◌, arith, add-one, take_all}
use Rattle.std.specs.List.{AllZip}
use Rattle.std.proofs.lemmas.List.{drop-drop}
use Rattle.std.proofs.lemmas.List.Elements.{All-get_or, All-same}
use Rattle.fb_types.specs.declared.keys.Block.{Block}
use Rattle.fb_types.specs.declared.keys.Column.{Column}
use Rattle.fb_types.specs.declared.rows.Angles.{Angles}
use Rattle.grid_state.specs.GridState.{GridState}
use Rattle.security.specs.Flows.{NumberedBranch}
use Rattle.zonal_factors.specs.FactorSpans.{factor_span_of, angles_from}
use Rattle.state_proofs.specs.StateProofs.{all_blocks}
use Rattle.state_proofs.specs.declared.StateProof.{StateProof}
use Rattle.cnec_rows.specs.RowNumbers.{factors_from}

-- how many blocks the keys have together
abbrev pub block_count : List Column → ℕ
block_count [] = 0
block_count (column ∷ columns) = length column.blocks + block_count columns

count_suc : (columns : List Column) (i : ℕ) (d : Column) → i < length columns → block_count (take (suc i) columns) ≡ block_count (take i columns) + length (get_or columns i d).blocks
count_suc [] i d h = absurd (omega arith)
count_suc (x ∷ columns) zero d h = omega arith
count_suc (x ∷ columns) (suc i) d h = let e = count_suc columns i d (omega arith) in omega (arith, e)

pub count_more : (columns : List Column) (i first next : ℕ) (column : Column) → i < length columns → column ≡ get_or columns i column → first ≡ block_count (take i columns) → next ≡ first + length column.blocks
    → next ≡ block_count (take (i + 1) columns)
count_more columns i first next column h at e f =
    let more : block_count (take (i + 1) columns) ≡ block_count (take i columns) + length (get_or columns i column).blocks = rw add-one (count_suc columns i column h) in
    let same : length column.blocks ≡ length (get_or columns i column).blocks = ap (λ (x : Column). length x.blocks) at in
    omega (arith, more, same, e, f)

-- ---- the spans of the factors

pub from_length : (s : GridState) (c : NumberedBranch) (proof : StateProof) (first : ℕ) (columns : List Column) → length (factors_from s c proof first columns) ≡ length columns
from_length s c proof first [] = refl
from_length s c proof first (x ∷ columns) = ap suc (from_length s c proof (first + length x.blocks) columns)

from_suc : (s : GridState) (c : NumberedBranch) (proof : StateProof) (first : ℕ) (columns : List Column) (i : ℕ) (d : Column) → i < length columns
    → take (suc i) (factors_from s c proof first columns) ≡ take i (factors_from s c proof first columns) ++ factor_span_of s c proof.barrier (get_or columns i d) proof.blocks (first + block_count (take i columns)) ∷ []
from_suc s c proof first [] i d h = absurd (omega arith)
from_suc s c proof first (x ∷ columns) zero d h = ap (λ k. factor_span_of s c proof.barrier x proof.blocks k ∷ []) (omega arith)
from_suc s c proof first (x ∷ columns) (suc i) d h =
    ap (λ v. factor_span_of s c proof.barrier x proof.blocks first ∷ v)
    (from_suc s c proof (first + length x.blocks) columns i d (omega arith)
    ∙ ap (λ k. take i (factors_from s c proof (first + length x.blocks) columns) ++ factor_span_of s c proof.barrier (get_or columns i d) proof.blocks k ∷ []) (omega arith))

pub factors_more : (s : GridState) (c : NumberedBranch) (proof : StateProof) (columns : List Column) (i first : ℕ) (column : Column) (factor : ℤ × ℤ) (factors more : List (ℤ × ℤ))
    → i < length columns → column ≡ get_or columns i column → first ≡ block_count (take i columns)
    → factor ≡ factor_span_of s c proof.barrier column proof.blocks first
    → factors ≡ take i (factors_from s c proof 0 columns) → more ≡ factors ++ factor ∷ []
    → more ≡ take (i + 1) (factors_from s c proof 0 columns)
factors_more s c proof columns i first column factor factors more h at e is so_far pushed =
    let place : first ≡ 0 + block_count (take i columns) = omega (arith, e) in
    let here : factor ≡ factor_span_of s c proof.barrier (get_or columns i column) proof.blocks (0 + block_count (take i columns)) =
    is ∙ ap₂ (λ (x : Column) (k : ℕ). factor_span_of s c proof.barrier x proof.blocks k) at place in
    pushed ∙ ap₂ (λ u v. u ++ v ∷ []) so_far here ∙ sym (rw add-one (from_suc s c proof 0 columns i column h))

pub factors_all : (s : GridState) (c : NumberedBranch) (proof : StateProof) (columns : List Column) (i : ℕ) (factors : List (ℤ × ℤ)) → length columns ≤ i
    → factors ≡ take i (factors_from s c proof 0 columns) → factors ≡ factors_from s c proof 0 columns
factors_all s c proof columns i factors h e =
    let long = from_length s c proof 0 columns in
    e ∙ take_all i (factors_from s c proof 0 columns) (omega (arith, long))

-- ---- the angles of a zone's blocks

-- lists side by side, of which the first is two lists, one after the other
front : {A B : Type 0} (R : A → B → Type 0) (xs ys : List A) (zs : List B) → AllZip R (xs ++ ys) zs → AllZip R xs (take (length xs) zs)
front R [] ys zs h = tt
front R (x ∷ xs) ys [] h = absurd h
front R (x ∷ xs) ys (z ∷ zs) h = (h.0, front R xs ys zs h.1)

back : {A B : Type 0} (R : A → B → Type 0) (xs ys : List A) (zs : List B) → AllZip R (xs ++ ys) zs → AllZip R ys (drop (length xs) zs)
back R [] ys zs h = h
back R (x ∷ xs) ys [] h = absurd h
back R (x ∷ xs) ys (z ∷ zs) h = back R xs ys zs h.1

own : (R : Block → Angles → Type 0) (columns : List Column) (angles : List Angles) (i : ℕ) (d : Column) → i < length columns → AllZip R (all_blocks columns) angles
    → AllZip R (get_or columns i d).blocks (angles_from angles (block_count (take i columns)) (length (get_or columns i d).blocks))
own R [] angles i d h zip = absurd (omega arith)
own R (x ∷ columns) angles zero d h zip = front R x.blocks (all_blocks columns) angles zip
own R (x ∷ columns) angles (suc i) d h zip =
    subst (λ (own : List Angles). AllZip R (get_or columns i d).blocks (take (length (get_or columns i d).blocks) own)) (drop-drop (block_count (take i columns)) (length x.blocks) angles)
    (own R columns (drop (length x.blocks) angles) i d (omega arith) (back R x.blocks (all_blocks columns) angles zip))

pub own_angles : (R : Block → Angles → Type 0) (columns : List Column) (angles : List Angles) (i first : ℕ) (column : Column) → i < length columns → column ≡ get_or columns i column → first ≡ block_count (take i columns)
    → AllZip R (all_blocks columns) angles → AllZip R column.blocks (angles_from angles first (length column.blocks))
own_angles R columns angles i first column h at e zip =
    subst (λ (x : Column). AllZip R x.blocks (angles_from angles first (length x.blocks))) (sym at)
    (subst (λ (k : ℕ). AllZip R (get_or columns i column).blocks (angles_from angles k (length (get_or columns i column).blocks))) (sym e) (own R columns angles i column h zip))

-- ---- one column

-- what holds of each column holds of one
pub column_at : (P : Column → Type 0) (items columns : List Column) (i : ℕ) (column : Column) → i < length items → column ≡ get_or items i column → items ≡ columns → All P columns → P column
column_at P items columns i column h at same all = subst P (sym at) (All-get_or P items i column h (All-same P items columns same all))

-- From the flags to the fates.
use Rattle.std.proofs.Common.{◌≡◌, ◌≢◌, ℕ, zero, suc, ◌+◌, ◌^◌, ◌<◌, ℤ, Bool, true, false, List, [], ◌∷◌, ◌++◌, length, get_or, refl, sym, ap, ◌∙◌, subst, arith, inl, inr}
use Rattle.std.specs.Prelude.{◌⊎◌, Some, slice_get}
use Rattle.std.proofs.lemmas.Bool.{false≢true}
use Rattle.std.proofs.lemmas.Option.{slice_get-get_or}
use Rattle.whole_laws.specs.Sums.{IsWithin}
use Rattle.multiplier_search.specs.Corners.{IsCovered}
use Rattle.fb_types.specs.declared.rows.Bounds.{Bounds}
use Rattle.fb_types.specs.declared.rows.Half.{Half}
use Rattle.fb_types.specs.declared.rows.Multipliers.{Multipliers}
use Rattle.multiplier_search.specs.declared.tries.OneRow.{OneRow}
use Rattle.multiplier_search.specs.Found.{none_of, one_of, with_balance}
use Rattle.multiplier_search.specs.Tries.{is_kept, IsProof}
use Rattle.multiplier_search.proofs.Trying.{proven-none, proven-one, not_found}
use Rattle.fb_types.specs.declared.rows.Fate.{Fate}
use Rattle.fb_types.specs.declared.rows.Fate.TheVariants.{Kept, Removed}
use Rattle.redundancy.specs.Thinned.{row_of, IsKeptRow, IsThinned}
use Rattle.redundancy.specs.Kept.{IsBackward}
use Rattle.redundancy.specs.Sources.{IsSource}
use Rattle.redundancy.specs.Fates.{IsRemoval, IsFate, IsState}

pub removal-none : (rows : List Half) (bounds : List Bounds) (kept : List Bool) (k : ℕ) (mu : ℤ) (by : Multipliers) → by ≡ with_balance none_of mu → is_kept kept k ≡ false → IsWithin (10 ^ 24) mu → IsCovered (row_of rows k) rows none_of bounds mu → IsRemoval rows bounds kept k by
removal-none rows bounds kept k mu by e g w c =
    let p = proven-none (row_of rows k) rows kept bounds mu by e w c in
    record { gone = g; follows = p.follows; cites_kept = p.cites }

pub removal-one : (rows : List Half) (bounds : List Bounds) (kept : List Bool) (k : ℕ) (one : OneRow) (by : Multipliers) → by ≡ with_balance (one_of one.row) one.mu → is_kept kept k ≡ false → IsSource rows bounds kept k 0 (length rows) one → IsRemoval rows bounds kept k by
removal-one rows bounds kept k one by e g s =
    let p = proven-one (row_of rows k) rows kept bounds one by e (record { is_row = record { above = let a = s.above in omega arith; within = s.within }; is_kept = s.is_kept; balance = s.balance; covers = s.covers }) in
    record { gone = g; follows = p.follows; cites_kept = p.cites }

pub removal-found : (rows : List Half) (bounds : List Bounds) (kept : List Bool) (k : ℕ) (by : Multipliers) → is_kept kept k ≡ false → IsProof (row_of rows k) rows kept bounds by → IsRemoval rows bounds kept k by
removal-found rows bounds kept k by g p = record { gone = g; follows = p.follows; cites_kept = p.cites }

-- what stands in a list with one more item
pub pushed_get : {X : Type 0} (xs : List X) (x y : X) (m : ℕ) → slice_get (xs ++ x ∷ []) m ≡ Some y → (slice_get xs m ≡ Some y) ⊎ ((m ≡ length xs) × (y ≡ x))
pushed_get [] x y zero h = inr (refl, cc)
pushed_get [] x y (suc m) h = absurd cc
pushed_get (z ∷ zs) x y zero h = inl h
pushed_get (z ∷ zs) x y (suc m) h = elim (pushed_get zs x y m h) [ inl e ↦ inl e | inr p ↦ inr (ap suc p.0, p.1) ]

kept_inside : (kept : List Bool) (k : ℕ) → is_kept kept k ≡ true → k < length kept
kept_inside [] k h = absurd (false≢true h)
kept_inside (b ∷ bs) zero h = omega arith
kept_inside (b ∷ bs) (suc k) h = let l = kept_inside bs k h in omega arith

sides : (j k : ℕ) → j ≢ k → (j < k) ⊎ (k < j)
sides zero zero h = absurd (h refl)
sides zero (suc k) h = inl (omega arith)
sides (suc j) zero h = inr (omega arith)
sides (suc j) (suc k) h = elim (sides j k (λ e. h (ap suc e))) [ inl l ↦ inl (omega arith) | inr l ↦ inr (omega arith) ]

kept_fate : (rows : List Half) (bounds : List Bounds) (kept : List Bool) (k : ℕ) (fate : Fate) → IsFate rows bounds kept k fate → is_kept kept k ≡ true → fate ≡ Kept
kept_fate rows bounds kept k Kept h t = refl
kept_fate rows bounds kept k (Removed by) h t = absurd (false≢true (sym h.gone ∙ t))

pub step : (rows : List Half) (bounds : List Bounds) (kept : List Bool) (fates : List Fate) (fate : Fate) (k : ℕ) → length fates ≡ k → ((m : ℕ) (f : Fate) → slice_get fates m ≡ Some f → IsFate rows bounds kept m f) → IsFate rows bounds kept k fate → (m : ℕ) (f : Fate) → slice_get (fates ++ fate ∷ []) m ≡ Some f → IsFate rows bounds kept m f
step rows bounds kept fates fate k n all here m f h =
    elim (pushed_get fates fate f m h) [
      | inl e ↦ all m f e
      | inr p ↦ subst (λ (x : ℕ). IsFate rows bounds kept x f) (sym (p.0 ∙ n)) (subst (λ (x : Fate). IsFate rows bounds kept k x) (sym p.1) here)
    ]

pub thinned : (rows : List Half) (bounds : List Bounds) (kept : List Bool) (fates : List Fate) → length fates ≡ length rows → length kept ≡ length rows → IsBackward rows bounds kept 0 → ((m : ℕ) (f : Fate) → slice_get fates m ≡ Some f → IsFate rows bounds kept m f) → IsThinned rows bounds fates
thinned rows bounds kept fates n same b all =
    let inside : (k : ℕ) → is_kept kept k ≡ true → k < length rows = λ k h. (let l = kept_inside kept k h in omega arith) in
    let is_fate : (j : ℕ) → is_kept kept j ≡ true → IsKeptRow fates j =
    λ j h. (let l = inside j h in let e = slice_get-get_or fates j Kept (omega arith) in e ∙ ap (λ (f : Fate). Some f) (kept_fate rows bounds kept j (get_or fates j Kept) (all j (get_or fates j Kept) e) h)) in
    record {
      each = n;
      removed = λ k by h. let r = all k (Removed by) h in (r.follows, λ i d l. is_fate _ (r.cites_kept i d l));
      box = λ k mu h f. let t = all k Kept h in not_found (row_of rows k) rows none_of bounds mu (b.forward.box k (inside k t) t) f;
      one = λ j k mu d h g f. let s = all j Kept h in let t = all k Kept g in
          elim (sides j k d) [
            | inl l ↦ not_found (row_of rows k) rows (one_of (j + 1)) bounds mu (b.forward.earlier j k l (inside k t) s t) f
            | inr l ↦ not_found (row_of rows k) rows (one_of (j + 1)) bounds mu (b.later k j (omega arith) l (inside j s) t s) f
          ];
    }

flag_of : (rows : List Half) (bounds : List Bounds) (kept : List Bool) (k : ℕ) → IsFate rows bounds kept k Kept → is_kept kept k ≡ true
flag_of rows bounds kept k h = h

pub begins : (rows : List Half) (bounds : List Bounds) (kept : List Bool) (fates : List Fate) → length fates ≡ length rows → length kept ≡ length rows → IsBackward rows bounds kept 0 → ((m : ℕ) (f : Fate) → slice_get fates m ≡ Some f → IsFate rows bounds kept m f) → IsState rows bounds fates kept
begins rows bounds kept fates n same b all = record {
  thinned = thinned rows bounds kept fates n same b all;
  mask = record {
    long = same ∙ sym n;
    flagged = λ j h. (let l = kept_inside kept j h in let e = slice_get-get_or fates j Kept (omega arith) in e ∙ ap (λ (f : Fate). Some f) (kept_fate rows bounds kept j (get_or fates j Kept) (all j (get_or fates j Kept) e) h));
    all = λ j h. flag_of rows bounds kept j (all j Kept h);
  };
}

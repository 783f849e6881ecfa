-- What stays when the fate of one row changes.
use Rattle.std.proofs.Common.{◌≡◌, ◌≢◌, ℕ, zero, suc, ◌+◌, ◌-◌, ◌<◌, ◌≤◌, Bool, true, false, List, [], ◌∷◌, length, set, get_or, refl, sym, ap, ◌∙◌, subst, arith, inl, inr, get_or-set_same, get_or-set_other}
use Rattle.std.specs.Prelude.{Option, Some, None, slice_get, Result, Ok, Err, IfOk, IfSome}
use Rattle.std.specs.List.{All}
use Rattle.std.proofs.lemmas.Bool.{false≢true, cases_eq}
use Rattle.std.proofs.lemmas.List.{length-set, set-set, set-get_or}
use Rattle.std.proofs.lemmas.Option.{slice_get_within, slice_get-get_or, get_or_from_slice_get}
use Rattle.fb_types.specs.Domain.{Follows}
use Rattle.fb_types.specs.declared.rows.Bounds.{Bounds}
use Rattle.fb_types.specs.declared.rows.Half.{Half}
use Rattle.fb_types.specs.declared.rows.Multipliers.{Multipliers}
use Rattle.fb_types.specs.declared.rows.Fate.{Fate}
use Rattle.fb_types.specs.declared.rows.Fate.TheVariants.{Kept, Removed}
use Rattle.multiplier_search.specs.Tries.{is_kept, CitesKept, IsProof, IsUnpaired}
use Rattle.redundancy.specs.Thinned.{row_of, IsKeptRow, IsThinned, CitesOthers, IsClear, IsUncited, IsSettled}
use Rattle.redundancy.proofs.Thinner.{thinner}
use Rattle.redundancy.specs.Fates.{IsMask, IsState, IsProofWithout, IsUnpairedRow, count}

-- ---- lists
pub get-set_same : {X : Type 0} (xs : List X) (i : ℕ) (x : X) → i < length xs → slice_get (set xs i x) i ≡ Some x
get-set_same [] i x l = absurd (omega arith)
get-set_same (y ∷ ys) zero x l = refl
get-set_same (y ∷ ys) (suc i) x l = get-set_same ys i x (omega arith)

pub get-set_other : {X : Type 0} (xs : List X) (i j : ℕ) (x : X) → j ≢ i → slice_get (set xs i x) j ≡ slice_get xs j
get-set_other [] i j x h = refl
get-set_other (y ∷ ys) zero zero x h = absurd (h refl)
get-set_other (y ∷ ys) zero (suc j) x h = refl
get-set_other (y ∷ ys) (suc i) zero x h = refl
get-set_other (y ∷ ys) (suc i) (suc j) x h = get-set_other ys i j x (λ e. h (ap suc e))

pub count-set : (kept : List Bool) (k : ℕ) → is_kept kept k ≡ true → suc (count (set kept k false)) ≡ count kept
count-set [] k h = absurd (false≢true h)
count-set (true ∷ bs) zero h = refl
count-set (false ∷ bs) zero h = absurd (false≢true h)
count-set (true ∷ bs) (suc k) h = ap suc (count-set bs k h)
count-set (false ∷ bs) (suc k) h = count-set bs k h

-- ---- fates
-- a row whose fate is set to Removed is no kept row, and no other row changes
kept_after : (fates : List Fate) (i k : ℕ) (by : Multipliers) → i < length fates → IsKeptRow (set fates i (Removed by)) k → (k ≢ i) × IsKeptRow fates k
kept_after fates i k by l h =
    elim (cases_eq k i) [
      | inl e ↦ let s : Some (Removed by) ≡ Some Kept = sym (get-set_same fates i (Removed by) l) ∙ subst (λ (n : ℕ). slice_get (set fates i (Removed by)) n ≡ Some Kept) e h in absurd cc
      | inr d ↦ (d, sym (get-set_other fates i k (Removed by) d) ∙ h)
    ]

kept_still : (fates : List Fate) (i k : ℕ) (fate : Fate) → k ≢ i → IsKeptRow fates k → IsKeptRow (set fates i fate) k
kept_still fates i k fate d h = get-set_other fates i k fate d ∙ h

removed_is : (a b : Multipliers) → Some (Removed a) ≡ Some (Removed b) → a ≡ b
removed_is a b h = cc

-- the fate of the row at i becomes Removed by multipliers of rows that stay kept
changed : (rows : List Half) (bounds : List Bounds) (fates : List Fate) (i : ℕ) (by : Multipliers) → IsThinned rows bounds fates → i < length fates → Follows (row_of rows i) rows by bounds → All (λ m. IsKeptRow (set fates i (Removed by)) (m.row - 1)) by.mults → ((k : ℕ) (b : Multipliers) → slice_get fates k ≡ Some (Removed b) → k ≢ i → All (λ m. IsKeptRow (set fates i (Removed by)) (m.row - 1)) b.mults) → IsThinned rows bounds (set fates i (Removed by))
changed rows bounds fates i by t l f c rest =
    thinner rows bounds fates (set fates i (Removed by)) t (length-set fates i (Removed by) ∙ t.each)
    (λ k h. (kept_after fates i k by l h).1)
    (λ k b h. elim (cases_eq k i) [
      | inl e ↦
          let same : by ≡ b = removed_is by b (sym (get-set_same fates i (Removed by) l) ∙ subst (λ (n : ℕ). slice_get (set fates i (Removed by)) n ≡ Some (Removed b)) e h) in
          (subst (λ (n : ℕ). Follows (row_of rows n) rows b bounds) (sym e) (subst (λ (x : Multipliers). Follows (row_of rows i) rows x bounds) same f), subst (λ (x : Multipliers). All (λ m. IsKeptRow (set fates i (Removed by)) (m.row - 1)) x.mults) same c)
      | inr d ↦
          let old : slice_get fates k ≡ Some (Removed b) = sym (get-set_other fates i k (Removed by) d) ∙ h in
          ((t.removed k b old).0, rest k b old d)
    ])

-- a removed row takes other multipliers
pub rewritten : (rows : List Half) (bounds : List Bounds) (fates : List Fate) (kept : List Bool) (i : ℕ) (old by : Multipliers) → IsState rows bounds fates kept → slice_get fates i ≡ Some (Removed old) → Follows (row_of rows i) rows by bounds → CitesKept kept by.mults → IsState rows bounds (set fates i (Removed by)) kept
rewritten rows bounds fates kept i old by s o f c =
    let l : i < length fates = slice_get_within fates i (Removed old) o in
    let m = s.mask in
    let t = s.thinned in
    let apart : (k : ℕ) → IsKeptRow fates k → k ≢ i = λ k h e. (let x : Some Kept ≡ Some (Removed old) = sym h ∙ ap (slice_get fates) e ∙ o in absurd cc) in
    let still : (k : ℕ) → IsKeptRow fates k → IsKeptRow (set fates i (Removed by)) k = λ k h. kept_still fates i k (Removed by) (apart k h) h in
    record {
      thinned = changed rows bounds fates i by t l f (λ n d h. still _ (m.flagged _ (c n d h))) (λ k b e d. λ n x h. still _ ((t.removed k b e).1 n x h));
      mask = record {
        long = m.long ∙ sym (length-set fates i (Removed by));
        flagged = λ k h. still k (m.flagged k h);
        all = λ k h. m.all k (kept_after fates i k by l h).1;
      };
    }

-- a number above 0 that is not k + 1 is not k after 1 is taken
other_place : (n k : ℕ) → 1 ≤ n → n ≢ k + 1 → n - 1 ≢ k
other_place n k a h e = h (omega arith)

kept_flag : (kept : List Bool) (k j : ℕ) → k < length kept → is_kept (set kept k false) j ≡ true → (j ≢ k) × (is_kept kept j ≡ true)
kept_flag kept k j l h =
    elim (cases_eq j k) [
      | inl e ↦ absurd (false≢true (sym (get_or-set_same kept k false false l) ∙ subst (λ (x : ℕ). is_kept (set kept k false) x ≡ true) e h))
      | inr d ↦ (d, sym (get_or-set_other kept k j false false d) ∙ h)
    ]

uncited_at : (fates : List Fate) (k j : ℕ) (b : Multipliers) → IsUncited fates k → slice_get fates j ≡ Some (Removed b) → CitesOthers (k + 1) b.mults
uncited_at fates k j b u e =
    let l : j < length fates = slice_get_within fates j (Removed b) e in
    subst (IsClear (k + 1)) (get_or_from_slice_get fates j (Removed b) Kept e) (u j Kept l)

-- a kept row that no removed row cites is removed
pub dropped : (rows : List Half) (bounds : List Bounds) (fates : List Fate) (kept : List Bool) (k : ℕ) (by : Multipliers) → IsState rows bounds fates kept → is_kept kept k ≡ true → IsUncited fates k → IsProofWithout rows bounds kept k k by → IsState rows bounds (set fates k (Removed by)) (set kept k false)
dropped rows bounds fates kept k by s h u p =
    let m = s.mask in
    let t = s.thinned in
    let here : IsKeptRow fates k = m.flagged k h in
    let l : k < length fates = slice_get_within fates k Kept here in
    let lk : k < length kept = let e = m.long in omega arith in
    let f = p.follows in
    record {
      thinned = changed rows bounds fates k by t l f
          (λ n d i. kept_still fates k _ (Removed by) (other_place _ k (f.cited n d i).above (p.others n d i)) (m.flagged _ (p.cites n d i)))
          (λ j b e d n x i. let g = t.removed j b e in kept_still fates k _ (Removed by) (other_place _ k (g.0.cited n x i).above (uncited_at fates k j b u e n x i)) (g.1 n x i));
      mask = record {
        long = length-set kept k false ∙ m.long ∙ sym (length-set fates k (Removed by));
        flagged = λ j x. let v = kept_flag kept k j lk x in kept_still fates k j (Removed by) v.0 (m.flagged j v.1);
        all = λ j x. let v = kept_after fates k j by l x in get_or-set_other kept k j false false v.0 ∙ m.all j v.1;
      };
    }

-- ---- the mask without the row at k
pub proof-without : (rows : List Half) (bounds : List Bounds) (kept : List Bool) (i k : ℕ) (by : Multipliers) → k < length kept → IsProof (row_of rows i) rows (set kept k false) bounds by → IsProofWithout rows bounds kept i k by
proof-without rows bounds kept i k by l p = record {
  follows = p.follows;
  cites = λ n d h. (kept_flag kept k _ l (p.cites n d h)).1;
  others = λ n d h e. (kept_flag kept k _ l (p.cites n d h)).0 (omega arith);
}

one_less : (i : ℕ) → (i + 1) - 1 ≡ i
one_less i = omega arith

flag_without : (kept : List Bool) (k i : ℕ) → is_kept kept i ≡ true → i ≢ k → is_kept (set kept k false) ((i + 1) - 1) ≡ true
flag_without kept k i h d = ap (is_kept (set kept k false)) (one_less i) ∙ get_or-set_other kept k i false false d ∙ h

pub unpaired-without : (rows : List Half) (bounds : List Bounds) (kept : List Bool) (k : ℕ) → IsUnpaired (row_of rows k) rows (set kept k false) bounds → IsUnpairedRow rows bounds kept k
unpaired-without rows bounds kept k u = record { pair = λ i j s mu x y d e p q f. u.pair (i + 1) (j + 1) s mu (flag_without kept k i x d) (flag_without kept k j y e) p q f }

-- ---- rows that do not cite the row with a number
-- the fates up to i are clear
abbrev pub AreClear : ℕ → List Fate → ℕ → Type 0
AreClear number fates i = (j : ℕ) → j < i → IsClear number (get_or fates j Kept)

pub clear-next : (number : ℕ) (fates : List Fate) (i : ℕ) → IsClear number (get_or fates i Kept) → AreClear number fates i → AreClear number fates (i + 1)
clear-next number fates i c a j l =
    elim (cases_eq j i) [
      | inl d ↦ subst (λ (n : ℕ). IsClear number (get_or fates n Kept)) (sym d) c
      | inr d ↦ a j (omega arith)
    ]

pub clear-written : (number : ℕ) (fates : List Fate) (i : ℕ) (by : Multipliers) → i < length fates → CitesOthers number by.mults → AreClear number fates i → AreClear number (set fates i (Removed by)) (i + 1)
clear-written number fates i by l c a =
    clear-next number (set fates i (Removed by)) i (subst (IsClear number) (sym (get_or-set_same fates i (Removed by) Kept l)) c)
    (λ j m. let d : j ≢ i = omega arith in subst (IsClear number) (sym (get_or-set_other fates i j (Removed by) Kept d)) (a j m))

pub same_item : (fates : List Fate) (j : ℕ) (d : Fate) → j < length fates → get_or fates j Kept ≡ get_or fates j d
same_item fates j d l =
    let p : Some (get_or fates j Kept) ≡ Some (get_or fates j d) = sym (slice_get-get_or fates j Kept l) ∙ slice_get-get_or fates j d l in
    cc

pub all-clear : (number : ℕ) (fates : List Fate) (i : ℕ) → length fates ≤ i → AreClear number fates i → All (IsClear number) fates
all-clear number fates i n a j d l = subst (IsClear number) (same_item fates j d l) (a j (omega arith))

pub settled : (rows : List Half) (bounds : List Bounds) (fates : List Fate) (kept : List Bool) → IsMask fates kept → ((k : ℕ) → k < length fates → is_kept kept k ≡ true → IsUncited fates k → IsUnpairedRow rows bounds kept k) → IsSettled rows bounds fates
settled rows bounds fates kept m h = record {
  pair = λ k i j s mu a u b c d e p q f. (h k (slice_get_within fates k Kept a) (m.all k a) u).pair i j s mu (m.all i b) (m.all j c) d e p q f;
}

-- a flag that is taken away and given back
pub back : (kept : List Bool) (k : ℕ) → is_kept kept k ≡ true → set (set kept k false) k true ≡ kept
back kept k h = set-set kept k false true ∙ ap (set kept k) (sym h) ∙ set-get_or kept k false

pub if_some : {A E : Type 0} (r : Result (Option A) E) (P Q : A → Type 0) → ((x : A) → P x → Q x) → IfOk r (λ o. IfSome o P) → IfOk r (λ o. IfSome o Q)
if_some (Ok None) P Q f h = tt
if_some (Ok (Some x)) P Q f h = f x h
if_some (Err e) P Q f h = tt

pub not-clear : (number : ℕ) (fates : List Fate) (i : ℕ) → i < length fates → (IsClear number (get_or fates i Kept) → ⊥) → All (IsClear number) fates → ⊥
not-clear number fates i l n h = n (h i Kept l)

-- One turn of the loop that gives other multipliers to rows that cite the row at k.
pub turned : (rows : List Half) (bounds : List Bounds) (fates : List Fate) (kept : List Bool) (i k number : ℕ) (by : Multipliers) → number ≡ k + 1 → i < length rows → (IsClear number (get_or fates i Kept) → ⊥) → IsState rows bounds fates kept → IsProofWithout rows bounds kept i k by → AreClear number fates i → IsState rows bounds (set fates i (Removed by)) kept × AreClear number (set fates i (Removed by)) (i + 1)
turned rows bounds fates kept i k number by e l n s p a =
    let t = s.thinned in
    let m : i < length fates = let y = t.each in omega arith in
    let o : Some (get_or fates i Kept) ≡ slice_get fates i = sym (slice_get-get_or fates i Kept m) in
    let c : CitesOthers number by.mults = subst (λ (x : ℕ). CitesOthers x by.mults) (sym e) p.others in
    (was (get_or fates i Kept) n (sym o), clear-written number fates i by m c a)
  where
    was : (fate : Fate) → (IsClear number fate → ⊥) → slice_get fates i ≡ Some fate → IsState rows bounds (set fates i (Removed by)) kept
    was Kept n h = absurd (n tt)
    was (Removed old) n h = rewritten rows bounds fates kept i old by s h p.follows p.cites

pub flag_inside : (kept : List Bool) (k : ℕ) → is_kept kept k ≡ true → k < length kept
flag_inside [] k h = absurd (false≢true h)
flag_inside (b ∷ bs) zero h = omega arith
flag_inside (b ∷ bs) (suc k) h = let l = flag_inside bs k h in omega arith

-- within the list what stands past the end does not count
pub same_row : (rows : List Half) (k : ℕ) (d : Half) → k < length rows → get_or rows k d ≡ row_of rows k
same_row [] k d l = absurd (omega arith)
same_row (row ∷ rows) zero d l = refl
same_row (row ∷ rows) (suc k) d l = same_row rows k d (omega arith)

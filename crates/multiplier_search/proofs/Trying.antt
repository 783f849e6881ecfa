-- From the best corner to what the search says.
use Rattle.std.proofs.Common.{◌≡◌, ℕ, zero, suc, ◌*◌, ◌^◌, ◌<◌, ◌≤◌, ◌-◌, ℤ, pos, Bool, true, List, [], ◌∷◌, length, get_or, refl, sym, subst, arith}
use Rattle.std.specs.Prelude.{◌≤ℤ◌, Option, Some, None, MatchOption, IfSome, IfNone, IfOk, Result, Ok, Err}
use Rattle.std.specs.List.{All}
use Rattle.std.proofs.lemmas.Int.{ints}
use Rattle.whole_laws.specs.Sums.{at, IsWithin}
use Rattle.whole_laws.specs.SumLaws.{sum_below-same}
use Rattle.fb_types.specs.Domain.{IsRow, Follows}
use Rattle.multiplier_search.specs.Corners.{most, corner, room, IsCovered}
use Rattle.multiplier_search.proofs.CornerLaws.{AreMultipliers, covered-follows, follows-covered}
use Rattle.fb_types.specs.declared.rows.Multipliers.{Multipliers}
use Rattle.multiplier_search.specs.Found.{none_of, one_of, pair_of, with_balance}
use Rattle.multiplier_search.specs.Tries.{is_kept, CitesKept, IsProof, IsAlone, IsUnpaired, AreLight, IsUncovered}
use Rattle.multiplier_search.specs.Pairs.{IsOne, IsPair}
use Rattle.multiplier_search.specs.declared.tries.OneRow.{OneRow}
use Rattle.multiplier_search.specs.declared.tries.TwoRows.{TwoRows}
use Rattle.row_weighing.specs.Weights.{AreWeights}
use Rattle.fb_types.specs.declared.rows.Bounds.{Bounds}
use Rattle.fb_types.specs.declared.rows.Half.{Half}
use Rattle.fb_types.specs.declared.rows.Mult.{Mult}

-- within the list what stands past the end does not count
same_default : (xs : List ℤ) (k : ℕ) (d e : ℤ) → k < length xs → get_or xs k d ≡ get_or xs k e
same_default [] k d e l = absurd (omega arith)
same_default (x ∷ xs) zero d e l = refl
same_default (x ∷ xs) (suc k) d e l = same_default xs k d e (omega arith)

pub all_within : (n : ℕ) (xs : List ℤ) → ((z : ℕ) → z < length xs → IsWithin n (at xs z)) → All (IsWithin n) xs
all_within n xs h k d l = subst (IsWithin n) (same_default xs k (pos 0) d l) (h k l)

-- equal coefficients give equally much
most-same : (bounds : List Bounds) (c e : ℕ → ℤ) (mu : ℤ) → ((z : ℕ) → z < length bounds → c z ≡ e z) → most bounds c mu ≡ most bounds e mu
most-same bounds c e mu h = sum_below-same (length bounds) _ _ (λ z l. rw (h z l))

pub tried : (target : Half) (rows : List Half) (mults : List Mult) (bounds : List Bounds) (corners : List ℤ) (r : ℤ) (o : Option ℤ) → ((z : ℕ) → z < length bounds → at corners z ≡ corner target rows mults z) → r ≡ room target rows mults → MatchOption o ((mu : ℤ) → most bounds (at corners) mu ≤ℤ r → ⊥) (λ mu. IsWithin (10 ^ 24) mu × (most bounds (at corners) mu ≤ℤ r)) → MatchOption o (IsUncovered target rows mults bounds) (λ mu. IsWithin (10 ^ 24) mu × IsCovered target rows mults bounds mu)
tried target rows mults bounds corners r None c e h =
    record { never = λ mu k. h mu (rw (most-same bounds (at corners) (corner target rows mults) mu c, e) k.fits) }
tried target rows mults bounds corners r (Some mu) c e h =
    (h.0, record { fits = rw (sym (most-same bounds (at corners) (corner target rows mults) mu c), sym e) h.1 })

-- the tries are weights
pub weights-none : (rows : List Half) → AreWeights rows []
weights-none rows = record { cited = λ k d l. absurd (omega arith); nonnegative = λ k d l. absurd (omega arith); total = omega (arith, ints) }

pub weights-one : (rows : List Half) (number : ℕ) → IsRow rows number → AreWeights rows (one_of number)
weights-one rows number i = record {
  cited = λ k d l. let e : k ≡ 0 = omega arith in rw e i;
  nonnegative = λ k d l. let e : k ≡ 0 = omega arith in rw e (omega (arith, ints));
  total = omega (arith, ints);
}

-- and in order
pub order-none : (rows : List Half) → AreMultipliers rows []
order-none rows = record { cited = λ k d l. absurd (omega arith); rising = λ k d l. absurd (omega arith); nonnegative = λ k d l. absurd (omega arith); total = omega (arith, ints) }

pub order-one : (rows : List Half) (number : ℕ) → IsRow rows number → AreMultipliers rows (one_of number)
order-one rows number i = record {
  cited = λ k d l. let e : k ≡ 0 = omega arith in rw e i;
  rising = λ k d l. absurd (omega arith);
  nonnegative = λ k d l. let e : k ≡ 0 = omega arith in rw e (omega (arith, ints));
  total = omega (arith, ints);
}

pub two : (P : Mult → Type 0) (x y : Mult) → P x → P y → All P (x ∷ y ∷ [])
two P x y p q zero d l = p
two P x y p q (suc zero) d l = q
two P x y p q (suc (suc k)) d l = absurd (omega arith)

pub order-pair : (rows : List Half) (i j k : ℕ) → IsRow rows i → IsRow rows j → i < j → k < 10 → AreMultipliers rows (pair_of i j k)
order-pair rows i j k r s l m = record {
  cited = two (λ m. IsRow rows m.row) _ _ r s;
  rising = λ n d h. let e : n ≡ 0 = omega arith in rw e l;
  nonnegative = two (λ m. pos 0 ≤ℤ m.value) _ _ (omega (arith, ints)) (omega (arith, ints));
  total = omega (arith, ints);
}

-- what the search answers
proven : (target : Half) (rows : List Half) (kept : List Bool) (mults : List Mult) (bounds : List Bounds) (mu : ℤ) (by : Multipliers) → by ≡ with_balance mults mu → AreMultipliers rows mults → CitesKept kept mults → IsWithin (10 ^ 24) mu → IsCovered target rows mults bounds mu → IsProof target rows kept bounds by
proven target rows kept mults bounds mu by e m k w c =
    subst (IsProof target rows kept bounds) (sym e) (record { follows = covered-follows target rows mults bounds mu m w c; cites = k })

pub proven-none : (target : Half) (rows : List Half) (kept : List Bool) (bounds : List Bounds) (mu : ℤ) (by : Multipliers) → by ≡ with_balance none_of mu → IsWithin (10 ^ 24) mu → IsCovered target rows none_of bounds mu → IsProof target rows kept bounds by
proven-none target rows kept bounds mu by e w c =
    proven target rows kept none_of bounds mu by e (order-none rows) (λ k d l. absurd (omega arith)) w c

pub proven-one : (target : Half) (rows : List Half) (kept : List Bool) (bounds : List Bounds) (one : OneRow) (by : Multipliers) → by ≡ with_balance (one_of one.row) one.mu → IsOne target rows kept bounds one → IsProof target rows kept bounds by
proven-one target rows kept bounds one by e o =
    proven target rows kept (one_of one.row) bounds one.mu by e (order-one rows one.row o.is_row) (λ k d l. let z : k ≡ 0 = omega arith in rw z o.is_kept) o.balance o.covers

pub proven-pair : (target : Half) (rows : List Half) (kept : List Bool) (bounds : List Bounds) (pair : TwoRows) (by : Multipliers) → by ≡ with_balance (pair_of pair.first pair.second pair.tenths) pair.mu → IsPair target rows kept bounds pair → IsProof target rows kept bounds by
proven-pair target rows kept bounds pair by e p =
    proven target rows kept (pair_of pair.first pair.second pair.tenths) bounds pair.mu by e (order-pair rows pair.first pair.second pair.tenths p.first_is_row p.second_is_row p.rising p.share) (two (λ m. is_kept kept (m.row - 1) ≡ true) _ _ p.first_is_kept p.second_is_kept) p.balance p.covers

pub not_found : (target : Half) (rows : List Half) (mults : List Mult) (bounds : List Bounds) (mu : ℤ) → IsUncovered target rows mults bounds → Follows target rows (with_balance mults mu) bounds → ⊥
not_found target rows mults bounds mu u f = u.never mu (follows-covered target rows mults bounds mu f)

pub alone : (target : Half) (rows : List Half) (kept : List Bool) (bounds : List Bounds) → IsUncovered target rows none_of bounds → ((number : ℕ) → IsRow rows number → is_kept kept (number - 1) ≡ true → IsUncovered target rows (one_of number) bounds) → IsAlone target rows kept bounds
alone target rows kept bounds n h = record {
  none = λ mu f. not_found target rows none_of bounds mu n f;
  one = λ number mu k f. not_found target rows (one_of number) bounds mu (h number (f.cited 0 (record { row = 0; value = pos 0 }) (omega arith)) k) f;
}

pub unpaired : (target : Half) (rows : List Half) (kept : List Bool) (bounds : List Bounds) → ((first second k : ℕ) → IsRow rows first → IsRow rows second → is_kept kept (first - 1) ≡ true → is_kept kept (second - 1) ≡ true → first < second → 1 ≤ k → k < 10 → IsUncovered target rows (pair_of first second k) bounds) → IsUnpaired target rows kept bounds
unpaired target rows kept bounds h =
    let d : Mult = record { row = 0; value = pos 0 } in
    record { pair = λ first second k mu i j p q f. not_found target rows (pair_of first second k) bounds mu (h first second k (f.cited 0 d (omega arith)) (f.cited 1 d (omega arith)) i j (f.rising 0 d (omega arith)) p q) f }

-- with all rows kept
pub any_one : (target : Half) (rows : List Half) (kept : List Bool) (bounds : List Bounds) → ((k : ℕ) → k < length rows → is_kept kept k ≡ true) → IsAlone target rows kept bounds → (number : ℕ) (mu : ℤ) → Follows target rows (with_balance (one_of number) mu) bounds → ⊥
any_one target rows kept bounds all a number mu f =
    let r = f.cited 0 (record { row = 0; value = pos 0 }) (omega arith) in
    a.one number mu (all (number - 1) (omega (arith, r.above, r.within))) f

pub any_pair : (target : Half) (rows : List Half) (kept : List Bool) (bounds : List Bounds) → ((k : ℕ) → k < length rows → is_kept kept k ≡ true) → IsUnpaired target rows kept bounds → (first second k : ℕ) (mu : ℤ) → 1 ≤ k → k < 10 → Follows target rows (with_balance (pair_of first second k) mu) bounds → ⊥
any_pair target rows kept bounds all u first second k mu p q f =
    let d : Mult = record { row = 0; value = pos 0 } in
    let r = f.cited 0 d (omega arith) in
    let s = f.cited 1 d (omega arith) in
    u.pair first second k mu (all (first - 1) (omega (arith, r.above, r.within))) (all (second - 1) (omega (arith, s.above, s.within))) p q f

pub any_found : (target : Half) (rows : List Half) (kept : List Bool) (mults : List Mult) (bounds : List Bounds) (o : Option ℤ) → AreMultipliers rows mults → CitesKept kept mults → MatchOption o (IsUncovered target rows mults bounds) (λ mu. IsWithin (10 ^ 24) mu × IsCovered target rows mults bounds mu) → IfSome o (λ mu. IsProof target rows kept bounds (with_balance mults mu))
any_found target rows kept mults bounds None m k h = tt
any_found target rows kept mults bounds (Some mu) m k h =
    record { follows = covered-follows target rows mults bounds mu m h.0 h.1; cites = k }

pub larger : (s : ℤ) → s ≤ℤ pos (9 * 10 ^ 11) → s ≤ℤ pos (10 ^ 12)
larger s h = omega (arith, ints)

pub light-none : AreLight []
light-none = record { total = omega (arith, ints) }

pub light-one : (number : ℕ) → AreLight (one_of number)
light-one number = record { total = omega (arith, ints) }

pub if_none : {A E : Type 0} (r : Result (Option A) E) (P Q : Type 0) → (P → Q) → IfOk r (λ o. IfNone o P) → IfOk r (λ o. IfNone o Q)
if_none (Ok None) P Q f h = f h
if_none (Ok (Some x)) P Q f h = tt
if_none (Err e) P Q f h = tt

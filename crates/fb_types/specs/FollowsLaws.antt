-- Laws, which are proved: nobody need believe them.
-- What Follows is for: a row that follows from rows holds wherever they do.
use Rattle.std.proofs.Common.{◌≡◌, ℕ, suc, ◌^◌, ℤ, pos, negsuc, ◌+ℤ◌, ◌-ℤ◌, ◌*ℤ◌, List, length, get_or, sym, ap, ◌∙◌, subst, arith}
use Rattle.std.specs.Prelude.{◌≤ℤ◌, Option, Some, None, IfSome, slice_get}
use Rattle.std.specs.Int.{int_max}
use Rattle.std.specs.List.{All}
use Rattle.std.proofs.lemmas.Int.{ints, clamps}
use Rattle.whole_laws.specs.Sums.{sum_below, sum_over, at}
use Rattle.whole_laws.specs.Ring.{neg-*ℤ, sub-*ℤ, *ℤ_assoc, scale-≤}
use Rattle.whole_laws.specs.SumLaws.{sum_below-minus, sum_below-times, sum_below-same, sum_below-mono, sum_over-times, sum_over-same, sum_over-mono, sum_below-sum_over}
use Rattle.fb_types.specs.Domain.{IsPoint, Meets, MeetsCited, Follows, side_of, coefficient_of, row_at, combined_side, combined_coefficient, remainder, greatest, greatest_rest}
use Rattle.fb_types.specs.declared.rows.Bounds.{Bounds}
use Rattle.fb_types.specs.declared.rows.Half.{Half}
use Rattle.fb_types.specs.declared.rows.Mult.{Mult}
use Rattle.fb_types.specs.declared.rows.Multipliers.{Multipliers}

-- a coefficient times a position within the bounds is at most the greatest
greatest-bounds : (q x l h : ℤ) → l ≤ℤ x → x ≤ℤ h → (q *ℤ x) ≤ℤ int_max (q *ℤ l) (q *ℤ h)
greatest-bounds (pos n) x l h p r = omega (arith, ints, clamps, scale-≤ (pos n) x h (omega (arith, ints)) r)
greatest-bounds (negsuc n) x l h p r =
    omega (arith, ints, clamps, scale-≤ (pos (suc n)) l x (omega (arith, ints)) p, neg-*ℤ (pos (suc n)) x, neg-*ℤ (pos (suc n)) l)

-- where a row holds, its sum is at most its side
meets_side : (o : Option Half) (x : List ℤ) → IfSome o (λ row. Meets row x) → sum_below (length x) (λ z. coefficient_of o z *ℤ at x z) ≤ℤ (side_of o *ℤ pos (10 ^ 12))
meets_side None x h = omega (arith, ints, sum_below-times (length x) (pos 0) (at x))
meets_side (Some row) x h = h.within

-- the combined coefficients at x are the rows at x, combined
combined-swap : (rows : List Half) (mults : List Mult) (x : List ℤ) (n : ℕ) → sum_below n (λ z. combined_coefficient rows mults z *ℤ at x z) ≡ sum_over (λ m. m.value *ℤ sum_below n (λ z. coefficient_of (row_at rows m.row) z *ℤ at x z)) mults
combined-swap rows mults x n =
    sum_below-same n _ (λ z. sum_over (λ (m : Mult). (m.value *ℤ coefficient_of (row_at rows m.row) z) *ℤ at x z) mults) (λ z l. sym (sum_over-times (λ (m : Mult). m.value *ℤ coefficient_of (row_at rows m.row) z) (at x z) mults))
    ∙ sum_below-sum_over n (λ (m : Mult) z. (m.value *ℤ coefficient_of (row_at rows m.row) z) *ℤ at x z) mults
    ∙ sum_over-same _ _ mults (λ m. sum_below-same n _ _ (λ z l. *ℤ_assoc m.value (coefficient_of (row_at rows m.row) z) (at x z)) ∙ sum_below-times n m.value (λ z. coefficient_of (row_at rows m.row) z *ℤ at x z))

-- a row that holds, times its multiplier
bounded_term : (v s r : ℤ) → pos 0 ≤ℤ v → s ≤ℤ (r *ℤ pos (10 ^ 12)) → (v *ℤ s) ≤ℤ ((v *ℤ r) *ℤ pos (10 ^ 12))
bounded_term v s r p h = omega (arith, ints, scale-≤ v s (r *ℤ pos (10 ^ 12)) p h, *ℤ_assoc v r (pos (10 ^ 12)))

-- the cited rows at x, combined, are at most their combined side
combined-bounded : (rows : List Half) (mults : List Mult) (x : List ℤ) → All (λ m. pos 0 ≤ℤ m.value) mults → All (λ m. IfSome (row_at rows m.row) (λ row. Meets row x)) mults → sum_over (λ m. m.value *ℤ sum_below (length x) (λ z. coefficient_of (row_at rows m.row) z *ℤ at x z)) mults ≤ℤ (combined_side rows mults *ℤ pos (10 ^ 12))
combined-bounded rows mults x p c =
    let side = λ (m : Mult). (m.value *ℤ side_of (row_at rows m.row)) *ℤ pos (10 ^ 12) in
    let each : sum_over (λ m. m.value *ℤ sum_below (length x) (λ z. coefficient_of (row_at rows m.row) z *ℤ at x z)) mults ≤ℤ sum_over side mults =
    sum_over-mono _ side mults (λ k d l. bounded_term (get_or mults k d).value _ (side_of (row_at rows (get_or mults k d).row)) (p k d l) (meets_side (row_at rows (get_or mults k d).row) x (c k d l))) in
    omega (arith, ints, each, sum_over-times (λ (m : Mult). m.value *ℤ side_of (row_at rows m.row)) (pos (10 ^ 12)) mults)

-- what is left of the target at x, in parts
remainder-parts : (target : Half) (rows : List Half) (by : Multipliers) (x : List ℤ) (n : ℕ) → sum_below n (λ z. remainder target rows by z *ℤ at x z) ≡ (pos (10 ^ 9) *ℤ sum_below n (λ z. at target.a z *ℤ at x z)) -ℤ sum_below n (λ z. combined_coefficient rows by.mults z *ℤ at x z) -ℤ (by.mu *ℤ sum_below n (λ z. at x z))
remainder-parts target rows by x n =
    let a = λ (z : ℕ). (pos (10 ^ 9) *ℤ at target.a z) *ℤ at x z in
    let c = λ (z : ℕ). combined_coefficient rows by.mults z *ℤ at x z in
    let m = λ (z : ℕ). by.mu *ℤ at x z in
    let parts : sum_below n (λ z. remainder target rows by z *ℤ at x z) ≡ sum_below n (λ z. (a z -ℤ c z) -ℤ m z) =
    sum_below-same n _ _ (λ z l. sub-*ℤ (pos (10 ^ 9) *ℤ at target.a z -ℤ combined_coefficient rows by.mults z) by.mu (at x z) ∙ ap (λ (t : ℤ). t -ℤ m z) (sub-*ℤ (pos (10 ^ 9) *ℤ at target.a z) (combined_coefficient rows by.mults z) (at x z))) in
    let scaled : sum_below n a ≡ pos (10 ^ 9) *ℤ sum_below n (λ z. at target.a z *ℤ at x z) =
    sum_below-same n a _ (λ z l. *ℤ_assoc (pos (10 ^ 9)) (at target.a z) (at x z)) ∙ sum_below-times n (pos (10 ^ 9)) (λ z. at target.a z *ℤ at x z) in
    omega (arith, ints, parts, sum_below-minus n (λ z. a z -ℤ c z) m, sum_below-minus n a c, scaled, sum_below-times n by.mu (at x))

-- 10^9 on both sides cancels
cancel : (s r c g q : ℤ) → q ≡ (pos (10 ^ 9) *ℤ s) -ℤ c → q ≤ℤ g → c ≤ℤ (r *ℤ pos (10 ^ 12)) → (t : ℤ) → ((r *ℤ pos (10 ^ 12)) +ℤ g) ≤ℤ ((pos (10 ^ 9) *ℤ t) *ℤ pos (10 ^ 12)) → s ≤ℤ (t *ℤ pos (10 ^ 12))
cancel s r c g q e h k t l = omega (arith, ints, *ℤ_assoc (pos (10 ^ 9)) t (pos (10 ^ 12)))

-- a row that follows from rows and the bounds holds at every point where the cited rows hold
pub Follows-implies : (target : Half) (rows : List Half) (by : Multipliers) (bounds : List Bounds) (x : List ℤ) → Follows target rows by bounds → IsPoint bounds x → MeetsCited rows by x → Meets target x
Follows-implies target rows by bounds x f p c =
    let n = length x in
    let s = sum_below n (λ z. at target.a z *ℤ at x z) in
    let combined = sum_below n (λ z. combined_coefficient rows by.mults z *ℤ at x z) in
    let rest = sum_below n (λ z. remainder target rows by z *ℤ at x z) in
    let split : rest ≡ (pos (10 ^ 9) *ℤ s) -ℤ combined -ℤ (by.mu *ℤ sum_below n (λ z. at x z)) = remainder-parts target rows by x n in
    let balanced : by.mu *ℤ sum_below n (λ z. at x z) ≡ pos 0 = ap (λ (t : ℤ). by.mu *ℤ t) p.balanced ∙ omega (arith, ints) in
    let small : rest ≤ℤ sum_below n (λ z. greatest (slice_get bounds z) (remainder target rows by z)) =
    sum_below-mono n _ _ (λ z l. let i = p.inside z (omega (arith, p.zones)) in greatest-bounds (remainder target rows by z) (at x z) _ _ i.0 i.1) in
    let same : sum_below n (λ z. greatest (slice_get bounds z) (remainder target rows by z)) ≡ greatest_rest target rows by bounds (length bounds) =
    ap (λ (k : ℕ). sum_below k (λ z. greatest (slice_get bounds z) (remainder target rows by z))) p.zones in
    let held : combined ≤ℤ (combined_side rows by.mults *ℤ pos (10 ^ 12)) =
    subst (λ (t : ℤ). t ≤ℤ (combined_side rows by.mults *ℤ pos (10 ^ 12))) (sym (combined-swap rows by.mults x n)) (combined-bounded rows by.mults x f.nonnegative c.each) in
    record { within = cancel s (combined_side rows by.mults) combined (greatest_rest target rows by bounds (length bounds)) rest (omega (arith, ints)) (omega (arith, ints)) held target.r f.covers }

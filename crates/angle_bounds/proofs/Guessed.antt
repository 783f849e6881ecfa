-- Guesses, what they leave, and what becomes of them.
use Rattle.std.proofs.Common.{◌≡◌, ℕ, ◌+◌, ◌-◌, ◌*◌, ◌^◌, ◌<◌, ◌≤◌, ◌⊎◌, inl, inr, min, max, Bool, true, false, cond, List, [], ◌∷◌, ◌++◌, length, length-append, below_more, All, ℤ, pos, ◌+ℤ◌, ◌-ℤ◌, ◌*ℤ◌, nat_abs, ◌≤ℤ◌, arith, mul-le-mul_left, mul-le-mul_right, ap, sym, subst, ◌∙◌, refl}
use Rattle.std.proofs.lemmas.Int.{ints}
use Rattle.std.proofs.lemmas.Bool.{cases_Bool}
use Rattle.std.proofs.lemmas.List.{get_or_append_left, get_or_at}
use Rattle.std.proofs.lemmas.List.Elements.{All-get_or, All-from_get_or}
use Rattle.std.proofs.lemmas.List.Sums.{get_or-le-sum_by}
use Rattle.whole_laws.specs.Sums.{total_below, at, IsWithin}
use Rattle.whole_laws.specs.TotalLaws.{total_below-le, total_below-combine}
use Rattle.grid_state.specs.GridState.{GridState, row_of, is_free, classes_of, live_count, susceptance_of, weight, IsSound}
use Rattle.grid_laplacian.specs.Tables.{laplacian, SolvesTable}
use Rattle.grid_laplacian.specs.Sizes.{free_susceptance_of, least_susceptance_of, total_susceptance_of, greatest_susceptance_of, size_of}
use Rattle.grid_laplacian.specs.Ranges.{HasRoomFor, greater_total_of, greatest_total_of, reach_of}
use Rattle.grid_laplacian.specs.Enclosures.{IsBarrier, IsNear, EnclosesWithin, EnclosesColumn}
use Rattle.grid_laplacian.proofs.Angle.{angle}
use Rattle.grid_laplacian.proofs.Cut.{supply}
use Rattle.grid_laplacian.proofs.Bridge.{grounded, laplacian_is}
use Rattle.grid_laplacian.proofs.LawProofs.{fewer_free, least_weight}
use Rattle.grid_laplacian.proofs.Crossings.{free_crosses, crossing_positive}
use Rattle.grid_laplacian.proofs.SizeCondition.{least_is, supply-le-size, room_for_less, within_scaled, within_size, enclosed_small}
use Rattle.fb_types.specs.declared.rows.Angles.{Angles}
use Rattle.sparse_factor.specs.Guesses.{IsGuess}
use Rattle.sparse_factor.specs.Bounds.{IsLimit}
use Rattle.angle_bounds.specs.RightSides.{doubled, remainder_of, IsMade, IsAtMostOne, IsMoved, AreMoved, IsDifference, IsSum, IsBarrierAt, IsProposed}
use Rattle.angle_bounds.specs.declared.corrections.Approach.{Approach}
use Rattle.angle_bounds.specs.Approaches.{Approaches, HasLeastKappa}
use Rattle.angle_bounds.proofs.Made.{made_free, sizes}
use Rattle.angle_bounds.proofs.Proposed.{laplacian-difference, encloses_more}

-- ---- sizes
bounded_at : (s : GridState) (total : ℕ) (w : List ℤ) → IsGuess s total w → (i : ℕ) → i < classes_of s
    → least_susceptance_of s * nat_abs (at w i) ≤ 2 * live_count s * greater_total_of s total
bounded_at s total w guess i h =
    All-get_or (λ z. least_susceptance_of s * nat_abs z ≤ 2 * live_count s * greater_total_of s total) w i (pos 0) (omega (arith, guess.each_class)) guess.small

pub guess_small : (s : GridState) → IsSound s → (total : ℕ) (w : List ℤ) → HasRoomFor s total → IsGuess s total w → (i : ℕ) → i < classes_of s → is_free s i ≡ true
    → All (λ z. IsWithin (2 ^ 121) (pos (greatest_susceptance_of s) *ℤ z)) w
guess_small s sound total w room guess i h free_i =
    All-from_get_or (λ z. IsWithin (2 ^ 121) (pos (greatest_susceptance_of s) *ℤ z)) w (pos 0) (λ j hj.
    within_scaled (greatest_susceptance_of s) (2 ^ 121) (at w j) (enclosed_small s sound total room (free_crosses s sound i h free_i) (at w j) (bounded_at s total w guess j (omega (arith, guess.each_class)))))

-- angles stay within 121 bits
pub within_room : (s : GridState) → IsSound s → (total : ℕ) → HasRoomFor s total → (i : ℕ) → i < classes_of s → (z : ℤ) → (is_free s i ≡ false → z ≡ pos 0)
    → least_susceptance_of s * nat_abs z ≤ 2 * live_count s * greater_total_of s total → IsWithin (2 ^ 121) z
within_room s sound total room i h z held small =
    elim (cases_Bool (is_free s i)) [
      | inr u ↦ let e = held u in record { low = omega (arith, ints); high = omega (arith, ints) }
      | inl on ↦
          let cross = free_crosses s sound i h on in
          let some = crossing_positive s sound cross in
          let scaled = enclosed_small s sound total room cross z small in
          let one = mul-le-mul_right (nat_abs z) some in
          within_size (2 ^ 121) z (omega arith)
    ]

pub guess_within : (s : GridState) → IsSound s → (total : ℕ) (w : List ℤ) → HasRoomFor s total → IsGuess s total w → All (λ z. IsWithin (2 ^ 121) z) w
guess_within s sound total w room guess =
    All-from_get_or (λ z. IsWithin (2 ^ 121) z) w (pos 0) (λ j hj.
    let h : j < classes_of s = omega (arith, guess.each_class) in
    within_room s sound total room j h (at w j) (guess.fixed j h) (bounded_at s total w guess j h))

pub proposed_within : (s : GridState) → IsSound s → (p w : List ℤ) → HasRoomFor s (size_of p) → IsProposed s p w → All (λ z. IsWithin (2 ^ 121) z) w
proposed_within s sound p w room is =
    guess_within s sound (size_of p) w room (record { each_class = is.each_class; small = is.small; fixed = is.fixed })

-- ---- a list whose remainder is small is small
pub near_small : (s : GridState) → IsSound s → (p w : List ℤ) → length p ≡ classes_of s → length w ≡ classes_of s → ((i : ℕ) → i < classes_of s → is_free s i ≡ false → at w i ≡ pos 0) → IsNear s p w 1
    → (i : ℕ) → i < classes_of s → least_susceptance_of s * nat_abs (at w i) ≤ 2 * live_count s * greater_total_of s (size_of p)
near_small s sound p w p_length w_length fixed near i h =
    let n = classes_of s in
    let f = laplacian n (weight s) (at w) in
    let solves : SolvesTable n (weight s) (is_free s) f (at w) 1 = record {
      positive = omega arith;
      fixed = fixed;
      balanced = λ j hj on. one_times (f j);
    } in
    let bound = angle n (weight s) (is_free s) sound.symmetric (grounded s sound) f (at w) 1 solves (least_susceptance_of s)
    (λ x y hx hy some. least_weight (least_susceptance_of s) (row_of s x) ((least_is s).each x hx) y some) i h in
    let fed : supply n (is_free s) f ≤ total_below n (λ j. 1 * cond (is_free s j) (nat_abs (at p j)) 0 + 1 * free_susceptance_of s j) =
    total_below-le n (λ j. cond (is_free s j) (nat_abs (f j)) 0) (λ j. 1 * cond (is_free s j) (nat_abs (at p j)) 0 + 1 * free_susceptance_of s j)
    (λ j hj. at_class (is_free s j) (susceptance_of s j) (at p j) (f j) (λ on. let e = laplacian_is s sound w j hj in let le = near j hj on in rw e (omega (arith, ints)))) in
    let parts = total_below-combine n 1 1 (λ j. cond (is_free s j) (nat_abs (at p j)) 0) (free_susceptance_of s) (λ j. 1 * cond (is_free s j) (nat_abs (at p j)) 0 + 1 * free_susceptance_of s j) (λ j hj. refl) in
    let whole = supply-le-size s p p_length in
    let twice = twice_most (size_of p) (total_susceptance_of s) in
    let fewer = fewer_free s in
    let times = mul-le-mul_right (supply n (is_free s) f) fewer in
    let times' = mul-le-mul_left (live_count s) (let le : supply n (is_free s) f ≤ 2 * greater_total_of s (size_of p) = omega arith in le) in
    omega arith
  where
    one_times : (z : ℤ) → z ≡ pos 1 *ℤ z
    one_times z = omega (arith, ints)

    twice_most : (x y : ℕ) → x + y ≤ 2 * max x (2 * y)
    twice_most x y = omega arith

    at_class : (b : Bool) (k : ℕ) (x y : ℤ) → (b ≡ true → nat_abs (x -ℤ y) ≤ k) → cond b (nat_abs y) 0 ≤ 1 * cond b (nat_abs x) 0 + 1 * cond b k 0
    at_class true k x y near = let le = near refl in omega (arith, ints)
    at_class false k x y near = omega arith

-- ---- corrections
-- what is left has room where it adds up to no more than the right side
pub room_for_left : (s : GridState) (size total most left : ℕ) → total ≡ min size (2 ^ 128 - 1) → most ≡ greater_total_of s total → left ≤ most → HasRoomFor s size → HasRoomFor s left
room_for_left s size total most left e e' le room = room_for_less s left size (least size total (2 * total_susceptance_of s) (2 ^ 128 - 1) most left e e' le) room
  where
    least : (size total x k most left : ℕ) → total ≡ min size k → most ≡ max total x → left ≤ most → left ≤ max size x
    least size total x k most left e e' le = omega arith

pub moved_more : (limit : ℕ) (w by moved : List ℤ) (n : ℕ) (z : ℤ) → AreMoved limit w by moved n → IsMoved limit (at w n) (at by n) z → AreMoved limit w by (moved ++ z ∷ []) (n + 1)
moved_more limit w by moved n z is one = record {
  each_class = omega (arith, length-append moved (z ∷ []), is.each_class);
  values = below_more (λ i. IsMoved limit (at w i) (at by i) (at (moved ++ z ∷ []) i)) n
      (λ i h. subst (λ (x : ℤ). IsMoved limit (at w i) (at by i) x) (sym (get_or_append_left moved (z ∷ []) (pos 0) i (omega (arith, is.each_class)))) (is.values i h))
      (subst (λ (x : ℤ). IsMoved limit (at w n) (at by n) x) (sym (get_or_at moved z [] (pos 0) n is.each_class)) one);
}

pub moved_guess : (s : GridState) (size total more limit : ℕ) (w by next : List ℤ) → total ≤ size → IsGuess s size w → IsGuess s more by → IsLimit s total limit → AreMoved limit w by next (classes_of s) → IsGuess s size next
moved_guess s size total more limit w by next le guess step is moved = record {
  each_class = moved.each_class;
  small = All-from_get_or (λ z. least_susceptance_of s * nat_abs z ≤ 2 * live_count s * greater_total_of s size) next (pos 0) (λ j hj.
      let h : j < classes_of s = omega (arith, moved.each_class) in
      elim (moved.values j h).choice [
        | inl same ↦ let old = bounded_at s size w guess j h in rw same old
        | inr within ↦
            let less : greater_total_of s total ≤ greater_total_of s size = both total size (2 * total_susceptance_of s) le in
            let times = mul-le-mul_left (2 * live_count s) less in
            let scaled = mul-le-mul_left (least_susceptance_of s) within in
            let limited = is.small in
            omega arith
      ]);
  fixed = λ i h u. (moved.values i h).still (step.fixed i h u) ∙ guess.fixed i h u;
}
  where
    both : (x y z : ℕ) → x ≤ y → max x z ≤ max y z
    both x y z h = omega arith

-- ---- what is proposed
guess_proposed : (s : GridState) (p w left : List ℤ) → IsGuess s (size_of p) w → IsMade s (remainder_of s p w) left (classes_of s) → IsAtMostOne s left (classes_of s) → IsProposed s p w
guess_proposed s p w left guess made least = record {
  each_class = guess.each_class;
  small = guess.small;
  fixed = guess.fixed;
  near = λ i h on. let e = made_free s (remainder_of s p w) left (classes_of s) made i h on in let le = least.each i h on in rw (← e) (omega arith);
}

pub sum_more : (a b w : List ℤ) (n : ℕ) (x : ℤ) → IsSum a b w n → x ≡ at a n +ℤ at b n → IsSum a b (w ++ x ∷ []) (n + 1)
sum_more a b w n x is e = record {
  each_class = omega (arith, length-append w (x ∷ []), is.each_class);
  values = below_more (λ i. at (w ++ x ∷ []) i ≡ at a i +ℤ at b i) n
      (λ i h. get_or_append_left w (x ∷ []) (pos 0) i (omega (arith, is.each_class)) ∙ is.values i h)
      (get_or_at w x [] (pos 0) n is.each_class ∙ e);
}

pub sum_proposed : (s : GridState) → IsSound s → (p w left more next : List ℤ) → length p ≡ classes_of s → IsGuess s (size_of p) w → IsMade s (remainder_of s p w) left (classes_of s) → IsProposed s left more → IsSum w more next (classes_of s) → IsProposed s p next
sum_proposed s sound p w left more next p_length guess made rest is =
    let apart : IsDifference next more w (classes_of s) = record {
      each_class = guess.each_class;
      values = λ i h. let e = is.values i h in omega (arith, ints);
    } in
    let fixed : (i : ℕ) → i < classes_of s → is_free s i ≡ false → at next i ≡ pos 0 =
    λ i h u. let e = is.values i h in let a = guess.fixed i h u in let b = rest.fixed i h u in omega (arith, ints) in
    let near : IsNear s p next 1 = λ i h on.
    let l = laplacian-difference s sound next more w apart i h in
    let e = made_free s (remainder_of s p w) left (classes_of s) made i h on in
    let le = rest.near i h on in
    omega (arith, ints) in
    record {
      each_class = is.each_class;
      small = All-from_get_or (λ z. least_susceptance_of s * nat_abs z ≤ 2 * live_count s * greater_total_of s (size_of p)) next (pos 0)
          (λ i h. near_small s sound p next p_length is.each_class fixed near i (omega (arith, is.each_class)));
      fixed = fixed;
      near = near;
    }

-- ---- barriers
pub barrier_at_all : (s : GridState) (p v left : List ℤ) (total : ℕ) → IsGuess s total v → IsMade s (doubled s) p (classes_of s) → IsMade s (remainder_of s p v) left (classes_of s)
    → ((i : ℕ) → i < classes_of s → IsBarrierAt s v left i) → IsBarrier s v
barrier_at_all s p v left total guess made rest each = record {
  each_class = guess.each_class;
  nonnegative = All-from_get_or (λ z. pos 0 ≤ℤ z) v (pos 0) (λ i h. (each i (omega (arith, guess.each_class))).high);
  in_reach = All-from_get_or (λ z. z ≤ℤ pos (2 * reach_of s)) v (pos 0) (λ i h. (each i (omega (arith, guess.each_class))).in_reach);
  fixed = guess.fixed;
  over = λ i h on.
      let doubled_here = made_free s (doubled s) p (classes_of s) made i h on in
      let left_here = made_free s (remainder_of s p v) left (classes_of s) rest i h on in
      let little = (each i h).little on in
      omega (arith, ints);
}

-- ---- kappa
nothing_near : (s : GridState) (p w left : List ℤ) → IsMade s (remainder_of s p w) left (classes_of s) → size_of left ≡ 0 → IsNear s p w 0
nothing_near s p w left made nothing i h on =
    let e = ap nat_abs (made_free s (remainder_of s p w) left (classes_of s) made i h on) in
    let h' : i < length left = omega (arith, made.each_class) in
    let le = get_or-le-sum_by nat_abs left i (pos 0) h' in
    omega arith

near_nothing : (s : GridState) (p w left : List ℤ) → IsMade s (remainder_of s p w) left (classes_of s) → IsNear s p w 0 → size_of left ≡ 0
near_nothing s p w left made near =
    let whole = sizes s left made.each_class in
    let none = total_below-combine (classes_of s) 0 0 (λ i. 0) (λ i. 0) (λ i. nat_abs (at left i))
    (λ i h. ap nat_abs (made.values i h) ∙ here (is_free s i) (remainder_of s p w i) (susceptance_of s i) (λ on. near i h on)) in
    omega arith
  where
    here : (b : Bool) (z : ℤ) (k : ℕ) → (b ≡ true → nat_abs z ≤ 0 * k) → nat_abs (cond b z (pos 0)) ≡ 0 * 0 + 0 * 0
    here true z k f = let le = f refl in omega arith
    here false z k f = omega arith

pub angles_enclose : (s : GridState) (p : List ℤ) (a : Approach) (angles : Angles) → Approaches s p a → IsProposed s p a.w → angles.w ≡ a.w → HasLeastKappa a.left angles.kappa → EnclosesWithin s (size_of p) p angles
angles_enclose s p a angles approaches is same kappa = record {
  each_class = ap length same ∙ is.each_class;
  small = subst (λ (w : List ℤ). All (λ z. least_susceptance_of s * nat_abs z ≤ 2 * live_count s * greater_total_of s (size_of p)) w) (sym same) is.small;
  fixed = λ i h u. ap (λ (w : List ℤ). at w i) same ∙ is.fixed i h u;
  near = subst (λ (w : List ℤ). IsNear s p w angles.kappa) (sym same)
      (elim (zero_or_one angles.kappa kappa.at_most_one) [
        | inl e ↦ subst (λ (k : ℕ). IsNear s p a.w k) (sym e) (nothing_near s p a.w a.left approaches.left (kappa.exact e))
        | inr e ↦ subst (λ (k : ℕ). IsNear s p a.w k) (sym e) is.near
      ]);
  at_most_one = kappa.at_most_one;
  least = λ near. kappa.least (near_nothing s p a.w a.left approaches.left (subst (λ (w : List ℤ). IsNear s p w 0) same near));
}
  where
    zero_or_one : (k : ℕ) → k ≤ 1 → (k ≡ 0) ⊎ (k ≡ 1)
    zero_or_one k h = grind arith

-- angles that were proposed are a guess
pub proposed_guess : (s : GridState) (p w : List ℤ) → IsProposed s p w → IsGuess s (size_of p) w
proposed_guess s p w is = record { each_class = is.each_class; small = is.small; fixed = is.fixed }

-- a guess that leaves at most the susceptance everywhere may stand as angles
pub settled_proposed : (s : GridState) (p : List ℤ) (a : Approach) → Approaches s p a → IsAtMostOne s a.left (classes_of s) → IsProposed s p a.w
settled_proposed s p a approaches least = guess_proposed s p a.w a.left approaches.guess approaches.left least

pub settled_enclose : (s : GridState) (p : List ℤ) (a : Approach) (angles : Angles) → Approaches s p a → IsAtMostOne s a.left (classes_of s) → angles.w ≡ a.w → HasLeastKappa a.left angles.kappa
    → EnclosesWithin s (size_of p) p angles
settled_enclose s p a angles approaches little same kappa = angles_enclose s p a angles approaches (settled_proposed s p a approaches little) same kappa

pub column_of : (s : GridState) (p : List ℤ) (angles : Angles) → EnclosesWithin s (size_of p) p angles → size_of p ≤ greatest_total_of s → EnclosesColumn s p angles
column_of s p angles within le = encloses_more s (size_of p) (2 * 10 ^ 25) p angles le within

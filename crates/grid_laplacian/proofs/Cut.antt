-- What flows between two classes is at most the sum of what comes in.
use Rattle.std.proofs.Common.{◌≡◌, ℕ, ◌*◌, ◌<◌, ◌≤◌, inl, inr, Bool, true, false, cond, ℤ, pos, negsuc, ◌+ℤ◌, ◌-ℤ◌, ◌*ℤ◌, neg_ℤ, nat_abs, ◌≤ℤ◌, ◌<ℤ◌, arith, mul-le-mul_left, refl, sym, ap, ◌∙◌}
use Rattle.std.proofs.lemmas.Int.{ints, by_lt_z}
use Rattle.std.proofs.lemmas.Bool.{cases_Bool, cond-true, cond-false}
use lib.Signed.{le_z}
use borrow.Author.Differences.{up, down}
use Rattle.whole_laws.specs.Sums.{sum_below, total_below}
use Rattle.grid_laplacian.specs.Tables.{laplacian, SolvesTable}
use Rattle.whole_laws.specs.SumLaws.{sum_below-same, sum_below-mono, sum_below-add_each, sum_below-zero_each, sum_below-high, term-le-sum_below, sum_below-pos, sum_below-cancel, sum_below-neg_each}
use Rattle.whole_laws.specs.TotalLaws.{total_below-combine, total_below-same}
use Rattle.whole_laws.specs.Ring.{*ℤ-sub, neg-*ℤ, *ℤ_comm}

-- the flow from a to b
abbrev flow : (ℕ → ℕ → ℕ) → (ℕ → ℤ) → ℕ → ℕ → ℤ
flow w f a b = pos (w a b) *ℤ (f a -ℤ f b)

-- the flow where a is in the set, where b is too, and where b is not
abbrev from_set : (ℕ → ℕ → ℕ) → (ℕ → ℤ) → (ℕ → Bool) → ℕ → ℕ → ℤ
from_set w f set a b = cond (set a) (flow w f a b) (pos 0)

abbrev within : (ℕ → ℕ → ℕ) → (ℕ → ℤ) → (ℕ → Bool) → ℕ → ℕ → ℤ
within w f set a b = cond (set a) (cond (set b) (flow w f a b) (pos 0)) (pos 0)

abbrev across : (ℕ → ℕ → ℕ) → (ℕ → ℤ) → (ℕ → Bool) → ℕ → ℕ → ℤ
across w f set a b = cond (set a) (cond (set b) (pos 0) (flow w f a b)) (pos 0)

parts : (s u : Bool) (z : ℤ) → cond s z (pos 0) ≡ cond s (cond u (pos 0) z) (pos 0) +ℤ cond s (cond u z (pos 0)) (pos 0)
parts true true z = omega (arith, ints)
parts true false z = omega (arith, ints)
parts false u z = refl

flow_turned : (w : ℕ → ℕ → ℕ) (f : ℕ → ℤ) → ((i j : ℕ) → w i j ≡ w j i) → (a b : ℕ) → flow w f a b ≡ neg_ℤ (flow w f b a)
flow_turned w f symmetric a b =
    let e = *ℤ-sub (pos (w a b)) (f a) (f b) in
    let e' = *ℤ-sub (pos (w a b)) (f b) (f a) in
    ap (λ (k : ℤ). k) (turn (pos (w a b)) (f a) (f b)) ∙ ap (λ (k : ℕ). neg_ℤ (pos k *ℤ (f b -ℤ f a))) (symmetric a b)
  where
    turn : (v x y : ℤ) → v *ℤ (x -ℤ y) ≡ neg_ℤ (v *ℤ (y -ℤ x))
    turn v x y = rw (*ℤ-sub v x y, *ℤ-sub v y x) (omega (arith, ints))

within_turned : (s u : Bool) (x y : ℤ) → x ≡ neg_ℤ y → cond s (cond u x (pos 0)) (pos 0) ≡ neg_ℤ (cond u (cond s y (pos 0)) (pos 0))
within_turned true true x y e = e
within_turned true false x y e = refl
within_turned false true x y e = refl
within_turned false false x y e = refl

sum_of_cond : (n : ℕ) (s : Bool) (f : ℕ → ℤ) → cond s (sum_below n f) (pos 0) ≡ sum_below n (λ b. cond s (f b) (pos 0))
sum_of_cond n true f = refl
sum_of_cond n false f = sym (sum_below-zero_each n (λ b. pos 0) (λ j b. refl))

-- the Laplacian over a set is what flows out of it
pub out_of_set : (n : ℕ) (w : ℕ → ℕ → ℕ) (f : ℕ → ℤ) (set : ℕ → Bool) → ((i j : ℕ) → w i j ≡ w j i)
    → sum_below n (λ a. cond (set a) (laplacian n w f a) (pos 0)) ≡ sum_below n (λ a. sum_below n (across w f set a))
out_of_set n w f set symmetric =
    let rows = sum_below-same n (λ a. cond (set a) (laplacian n w f a) (pos 0)) (λ a. sum_below n (from_set w f set a)) (λ a h. sum_of_cond n (set a) (flow w f a)) in
    let two = sum_below-add_each n (λ a. sum_below n (across w f set a)) (λ a. sum_below n (within w f set a)) (λ a. sum_below n (from_set w f set a))
    (λ a h. sum_below-add_each n (across w f set a) (within w f set a) (from_set w f set a) (λ b h'. parts (set a) (set b) (flow w f a b))) in
    let none = sum_below-cancel n (within w f set) (λ a b. within_turned (set a) (set b) (flow w f a b) (flow w f b a) (flow_turned w f symmetric a b)) in
    omega (arith, ints)

-- ---- a set above a value
abbrev above : (ℕ → ℤ) → ℕ → ℕ → Bool
above t i a = le_z (t i) (t a)

flow_high : (w : ℕ) (x y : ℤ) → y ≤ℤ x → pos 0 ≤ℤ (pos w *ℤ (x -ℤ y))
flow_high w x y h =
    let le : down (x -ℤ y) ≤ up (x -ℤ y) = omega (arith, ints) in
    let times = mul-le-mul_left w le in
    omega (arith, ints)

across_at : (s u : Bool) (z : ℤ) → (s ≡ true → u ≡ false → pos 0 ≤ℤ z) → pos 0 ≤ℤ cond s (cond u (pos 0) z) (pos 0)
across_at true true z h = omega (arith, ints)
across_at true false z h = h refl refl
across_at false u z h = omega (arith, ints)

across_high : (n : ℕ) (w : ℕ → ℕ → ℕ) (t : ℕ → ℤ) (i a b : ℕ) → pos 0 ≤ℤ across w t (above t i) a b
across_high n w t i a b =
    across_at (above t i a) (above t i b) (flow w t a b)
    (λ v u. let v' = sym v in let u' = sym u in flow_high (w a b) (t a) (t b) (omega (arith, ints)))

-- the sum of the sizes of p over the free classes
abbrev pub supply : ℕ → (ℕ → Bool) → (ℕ → ℤ) → ℕ
supply n free p = total_below n (λ c. cond (free c) (nat_abs (p c)) 0)

size : (d : ℕ) (p : ℤ) → (pos d *ℤ p) ≤ℤ pos (d * nat_abs p)
size d (pos k) = omega (arith, ints)
size d (negsuc k) = omega (arith, ints)

taken_at : (s : Bool) (x : ℤ) (k : ℕ) → (s ≡ true → x ≤ℤ pos k) → cond s x (pos 0) ≤ℤ pos k
taken_at true x k h = h refl
taken_at false x k h = omega (arith, ints)

taken : (n : ℕ) (w : ℕ → ℕ → ℕ) (free : ℕ → Bool) (p t : ℕ → ℤ) (d : ℕ) → SolvesTable n w free p t d → (i : ℕ) → pos 0 <ℤ t i
    → sum_below n (λ a. cond (above t i a) (laplacian n w t a) (pos 0)) ≤ℤ pos (d * supply n free p)
taken n w free p t d s i up_there =
    let each : (a : ℕ) → a < n → cond (above t i a) (laplacian n w t a) (pos 0) ≤ℤ pos (d * cond (free a) (nat_abs (p a)) 0) =
    λ a h. taken_at (above t i a) (laplacian n w t a) (d * cond (free a) (nat_abs (p a)) 0) (λ v. elim (cases_Bool (free a)) [
      | inl is ↦ rw (cond-true (free a) (nat_abs (p a)) 0 is, s.balanced a h is) (size d (p a))
      | inr u ↦ let zero_there = s.fixed a h u in let v' = sym v in absurd (omega (arith, ints))
    ]) in
    let whole = sum_below-mono n (λ a. cond (above t i a) (laplacian n w t a) (pos 0)) (λ a. pos (d * cond (free a) (nat_abs (p a)) 0)) each in
    let naturals = sum_below-pos n (λ a. d * cond (free a) (nat_abs (p a)) 0) in
    let scaled = total_below-combine n d 0 (λ a. cond (free a) (nat_abs (p a)) 0) (λ a. 0) (λ a. d * cond (free a) (nat_abs (p a)) 0) (λ j b. omega arith) in
    omega (arith, ints)

is_above : (x y : ℤ) → x ≤ℤ y → true ≡ le_z x y
is_above x y h = omega (arith, ints)

not_above : (x y : ℤ) → y <ℤ x → false ≡ le_z x y
not_above x y h = omega (arith, ints)

pub cut_down : (n : ℕ) (w : ℕ → ℕ → ℕ) (free : ℕ → Bool) → ((i j : ℕ) → w i j ≡ w j i) → (p t : ℕ → ℤ) (d : ℕ) → SolvesTable n w free p t d
    → (i j : ℕ) → i < n → j < n → t j <ℤ t i → pos 0 <ℤ t i → (pos (w i j) *ℤ (t i -ℤ t j)) ≤ℤ pos (d * supply n free p)
cut_down n w free symmetric p t d s i j hi hj falls up_there =
    let out = out_of_set n w t (above t i) symmetric in
    let most = taken n w free p t d s i up_there in
    let row = term-le-sum_below n (λ a. sum_below n (across w t (above t i) a)) (λ a h. sum_below-high n (across w t (above t i) a) (λ b h'. across_high n w t i a b)) i hi in
    let cell = term-le-sum_below n (across w t (above t i) i) (λ b h'. across_high n w t i i b) j hj in
    let crosses : across w t (above t i) i j ≡ flow w t i j =
    cond-true (above t i i) (cond (above t i j) (pos 0) (flow w t i j)) (pos 0) (sym (is_above (t i) (t i) (omega (arith, ints))))
    ∙ cond-false (above t i j) (pos 0) (flow w t i j) (sym (not_above (t i) (t j) falls)) in
    omega (arith, ints)

-- ---- the other way round
pub laplacian-neg : (n : ℕ) (w : ℕ → ℕ → ℕ) (t : ℕ → ℤ) (i : ℕ) → laplacian n w (λ j. neg_ℤ (t j)) i ≡ neg_ℤ (laplacian n w t i)
laplacian-neg n w t i = sum_below-neg_each n (flow w t i) (flow w (λ j. neg_ℤ (t j)) i) (λ j b. turned (pos (w i j)) (t i) (t j))
  where
    turned : (v x y : ℤ) → v *ℤ (neg_ℤ x -ℤ neg_ℤ y) ≡ neg_ℤ (v *ℤ (x -ℤ y))
    turned v x y =
        let e : neg_ℤ x -ℤ neg_ℤ y ≡ y -ℤ x = omega (arith, ints) in
        rw (e, *ℤ-sub v y x, *ℤ-sub v x y) (omega (arith, ints))

pub SolvesTable-neg : (n : ℕ) (w : ℕ → ℕ → ℕ) (free : ℕ → Bool) (p t : ℕ → ℤ) (d : ℕ) → SolvesTable n w free p t d → SolvesTable n w free (λ i. neg_ℤ (p i)) (λ i. neg_ℤ (t i)) d
SolvesTable-neg n w free p t d s = record {
  positive = s.positive;
  fixed = λ i h u. let e = s.fixed i h u in omega (arith, ints);
  balanced = λ i h is. laplacian-neg n w t i ∙ ap neg_ℤ (s.balanced i h is) ∙ sign (pos d) (p i);
}
  where
    sign : (a b : ℤ) → neg_ℤ (a *ℤ b) ≡ a *ℤ neg_ℤ b
    sign a b = ap neg_ℤ (*ℤ_comm a b) ∙ sym (neg-*ℤ b a) ∙ *ℤ_comm (neg_ℤ b) a

pub same_supply : (n : ℕ) (free : ℕ → Bool) (p : ℕ → ℤ) → supply n free (λ i. neg_ℤ (p i)) ≡ supply n free p
same_supply n free p = total_below-same n (λ c. cond (free c) (nat_abs (neg_ℤ (p c))) 0) (λ c. cond (free c) (nat_abs (p c)) 0) (λ c b. ap (λ k. cond (free c) k 0) (same_size (p c)))
  where
    same_size : (z : ℤ) → nat_abs (neg_ℤ z) ≡ nat_abs z
    same_size z = omega (arith, ints)

-- where t does not rise from i to j
falling : (n : ℕ) (w : ℕ → ℕ → ℕ) (free : ℕ → Bool) → ((i j : ℕ) → w i j ≡ w j i) → (p t : ℕ → ℤ) (d : ℕ) → SolvesTable n w free p t d
    → (i j : ℕ) → i < n → j < n → t j <ℤ t i → (pos (w i j) *ℤ (t i -ℤ t j)) ≤ℤ pos (d * supply n free p)
falling n w free symmetric p t d s i j hi hj falls =
    by_lt_z (pos 0) (t i)
    (λ high. cut_down n w free symmetric p t d s i j hi hj falls high)
    (λ low.
    let other = cut_down n w free symmetric (λ c. neg_ℤ (p c)) (λ c. neg_ℤ (t c)) d (SolvesTable-neg n w free p t d s) j i hj hi (omega (arith, ints)) (omega (arith, ints)) in
    let e : neg_ℤ (t j) -ℤ neg_ℤ (t i) ≡ t i -ℤ t j = omega (arith, ints) in
    rw (symmetric i j, ← same_supply n free p) (rw e at other))

flat : (w : ℕ) (x y : ℤ) (k : ℕ) → x ≡ y → nat_abs (pos w *ℤ (x -ℤ y)) ≤ k
flat w x y k e =
    let z : x -ℤ y ≡ pos 0 = omega (arith, ints) in
    rw z (omega (arith, ints))

size_of : (w : ℕ) (x y : ℤ) (k : ℕ) → y <ℤ x → (pos w *ℤ (x -ℤ y)) ≤ℤ pos k → nat_abs (pos w *ℤ (x -ℤ y)) ≤ k
size_of w x y k falls h = let high = flow_high w x y (omega (arith, ints)) in omega (arith, ints)

size_turned : (w : ℕ) (x y : ℤ) → nat_abs (pos w *ℤ (x -ℤ y)) ≡ nat_abs (pos w *ℤ (y -ℤ x))
size_turned w x y = rw (*ℤ-sub (pos w) x y, *ℤ-sub (pos w) y x) (omega (arith, ints))

-- the cut law
pub cut : (n : ℕ) (w : ℕ → ℕ → ℕ) (free : ℕ → Bool) → ((i j : ℕ) → w i j ≡ w j i) → (p t : ℕ → ℤ) (d : ℕ) → SolvesTable n w free p t d
    → (i j : ℕ) → i < n → j < n → nat_abs (pos (w i j) *ℤ (t i -ℤ t j)) ≤ d * supply n free p
cut n w free symmetric p t d s i j hi hj =
    by_lt_z (t j) (t i)
    (λ falls. size_of (w i j) (t i) (t j) (d * supply n free p) falls (falling n w free symmetric p t d s i j hi hj falls))
    (λ rises. by_lt_z (t i) (t j)
    (λ falls. rw (size_turned (w i j) (t i) (t j), symmetric i j) (size_of (w j i) (t j) (t i) (d * supply n free p) falls (falling n w free symmetric p t d s j i hj hi falls)))
    (λ sinks. flat (w i j) (t i) (t j) (d * supply n free p) (omega (arith, ints))))

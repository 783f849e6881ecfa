-- The laws of the ring of whole numbers, and of its order.
use Rattle.std.proofs.Common.{◌≡◌, ℕ, ◌+◌, ◌*◌, ◌<◌, ◌≤◌, ℤ, pos, negsuc, ◌+ℤ◌, ◌-ℤ◌, ◌*ℤ◌, neg_ℤ, ◌≤ℤ◌, ◌<ℤ◌, refl, ap, mul-le-mul_left, mul-pos, arith, inl, inr, ◌⊎◌, Bool, true, false, leb, leb-true, leb-false}
use borrow.Author.Differences.{up, down, ints, product_is, sum_is_lem, neg_is, same_in, same_out, at_most_in, below_in, le_out, lt_out}

-- for `omega`: signed numbers with a product of two unknowns as one unknown
pub ruleset linear = (same_in, same_out, at_most_in, below_in, le_out, lt_out, sum_is_lem, neg_is)

up-mul : (a b : ℤ) → up (a *ℤ b) ≡ up a * up b + down a * down b
up-mul a b = (product_is a b).0

down-mul : (a b : ℤ) → down (a *ℤ b) ≡ up a * down b + down a * up b
down-mul a b = (product_is a b).1

pub *ℤ_assoc : (a b c : ℤ) → (a *ℤ b) *ℤ c ≡ a *ℤ (b *ℤ c)
*ℤ_assoc a b c = same_in ((a *ℤ b) *ℤ c) (a *ℤ (b *ℤ c)) (simp (up-mul, down-mul) (omega arith))

pub *ℤ_comm : (a b : ℤ) → a *ℤ b ≡ b *ℤ a
*ℤ_comm a b = omega (arith, ints)

pub *ℤ_left_comm : (a b c : ℤ) → a *ℤ (b *ℤ c) ≡ b *ℤ (a *ℤ c)
*ℤ_left_comm a b c = same_in _ _ (simp (up-mul, down-mul) (omega arith))

pub *ℤ-add : (a b c : ℤ) → a *ℤ (b +ℤ c) ≡ a *ℤ b +ℤ a *ℤ c
*ℤ-add a b c =
    let s : up (b +ℤ c) + down b + down c ≡ down (b +ℤ c) + up b + up c = sum_is_lem b c in
    let s1 : up a * (up (b +ℤ c) + down b + down c) ≡ up a * (down (b +ℤ c) + up b + up c) = ap (λ v. up a * v) s in
    let s2 : down a * (up (b +ℤ c) + down b + down c) ≡ down a * (down (b +ℤ c) + up b + up c) = ap (λ v. down a * v) s in
    same_in _ _ (omega (arith, up-mul a (b +ℤ c), down-mul a (b +ℤ c), up-mul a b, down-mul a b, up-mul a c, down-mul a c, sum_is_lem (a *ℤ b) (a *ℤ c)))

pub add-*ℤ : (a b c : ℤ) → (a +ℤ b) *ℤ c ≡ a *ℤ c +ℤ b *ℤ c
add-*ℤ a b c = rw (*ℤ_comm (a +ℤ b) c) (rw (*ℤ-add c a b) (rw (*ℤ_comm c a, *ℤ_comm c b)))

pub +ℤ_comm : (a b : ℤ) → a +ℤ b ≡ b +ℤ a
+ℤ_comm a b = omega (arith, ints)

pub +ℤ_assoc : (a b c : ℤ) → (a +ℤ b) +ℤ c ≡ a +ℤ (b +ℤ c)
+ℤ_assoc a b c = omega (arith, ints)

pub +ℤ_left_comm : (a b c : ℤ) → a +ℤ (b +ℤ c) ≡ b +ℤ (a +ℤ c)
+ℤ_left_comm a b c = omega (arith, ints)

pub neg-*ℤ : (a b : ℤ) → neg_ℤ a *ℤ b ≡ neg_ℤ (a *ℤ b)
neg-*ℤ a b = same_in _ _ (simp (up-mul, down-mul, up-neg, down-neg) (omega arith))
  where
    up-neg : (z : ℤ) → up (neg_ℤ z) ≡ down z
    up-neg z = (neg_is z).0

    down-neg : (z : ℤ) → down (neg_ℤ z) ≡ up z
    down-neg z = (neg_is z).1

pub *ℤ-neg : (a b : ℤ) → a *ℤ neg_ℤ b ≡ neg_ℤ (a *ℤ b)
*ℤ-neg a b = rw (*ℤ_comm a (neg_ℤ b), neg-*ℤ b a, *ℤ_comm b a)

pub neg-add : (a b : ℤ) → neg_ℤ (a +ℤ b) ≡ neg_ℤ a +ℤ neg_ℤ b
neg-add a b = omega (arith, ints)

pub neg-neg : (a : ℤ) → neg_ℤ (neg_ℤ a) ≡ a
neg-neg a = omega (arith, ints)

pub neg-one-*ℤ : (a : ℤ) → negsuc 0 *ℤ a ≡ neg_ℤ a
neg-one-*ℤ a = omega (arith, ints)

pub one-*ℤ : (a : ℤ) → pos 1 *ℤ a ≡ a
one-*ℤ a = omega (arith, ints)

pub zero-*ℤ : (a : ℤ) → pos 0 *ℤ a ≡ pos 0
zero-*ℤ a = omega (arith, ints)

pub zero-+ℤ : (a : ℤ) → pos 0 +ℤ a ≡ a
zero-+ℤ a = omega (arith, ints)

pub *ℤ-one : (a : ℤ) → a *ℤ pos 1 ≡ a
*ℤ-one a = omega (arith, ints)

pub *ℤ-zero : (a : ℤ) → a *ℤ pos 0 ≡ pos 0
*ℤ-zero a = omega (arith, ints)

pub +ℤ-zero : (a : ℤ) → a +ℤ pos 0 ≡ a
+ℤ-zero a = omega (arith, ints)

-- the laws that bring both sides of an equation to one sorted sum of sorted products
pub ruleset ring = (one-*ℤ, zero-*ℤ, zero-+ℤ, *ℤ-one, *ℤ-zero, +ℤ-zero, neg-one-*ℤ, neg-*ℤ, *ℤ-neg, neg-add, neg-neg, *ℤ_assoc, *ℤ_comm, *ℤ_left_comm, *ℤ-add, add-*ℤ, +ℤ_assoc, +ℤ_comm, +ℤ_left_comm)

-- order
pub ≤ℤ_trans : (a b c : ℤ) → a ≤ℤ b → b ≤ℤ c → a ≤ℤ c
≤ℤ_trans a b c h k = omega (arith, linear)

pub scale-≤ : (k a b : ℤ) → pos 0 ≤ℤ k → a ≤ℤ b → (k *ℤ a) ≤ℤ (k *ℤ b)
scale-≤ (pos k) a b n h = at_most_in _ _ (omega (arith, up-mul (pos k) a, down-mul (pos k) a, up-mul (pos k) b, down-mul (pos k) b, mul-le-mul_left k (le_out a b h)))
scale-≤ (negsuc k) a b n h = absurd (omega (arith, ints))

cancel : (k x y : ℕ) → 0 < k → k * x ≤ k * y → x ≤ y
cancel k x y p h = grind arith

pub cancel-≤ : (k a b : ℤ) → pos 0 <ℤ k → (k *ℤ a) ≤ℤ (k *ℤ b) → a ≤ℤ b
cancel-≤ (pos k) a b p h =
    let q : 0 < k = omega (arith, ints) in
    let e : k * (up a + down b) ≤ k * (up b + down a) = omega (arith, le_out _ _ h, up-mul (pos k) a, down-mul (pos k) a, up-mul (pos k) b, down-mul (pos k) b) in
    at_most_in _ _ (cancel k _ _ q e)
cancel-≤ (negsuc k) a b p h = absurd (omega (arith, ints))

pub cancel-< : (k a b : ℤ) → pos 0 <ℤ k → (k *ℤ a) <ℤ (k *ℤ b) → a <ℤ b
cancel-< k a b p h = below a b (by_case (decide b a))
  where
    decide : (x y : ℤ) → (x ≤ℤ y) ⊎ (y <ℤ x)
    decide x y = by_le (leb (up x + down y) (up y + down x)) refl
      where
        by_le : (t : Bool) → leb (up x + down y) (up y + down x) ≡ t → (x ≤ℤ y) ⊎ (y <ℤ x)
        by_le true e = inl (at_most_in x y (leb-true _ _ e))
        by_le false e = inr (below_in y x (leb-false _ _ e))

    by_case : (b ≤ℤ a) ⊎ (a <ℤ b) → a <ℤ b
    by_case (inl n) = let s = scale-≤ k b a (omega (arith, linear)) n in absurd (omega (arith, linear))
    by_case (inr l) = l

    below : (x y : ℤ) → x <ℤ y → x <ℤ y
    below x y l = l

pub cancel-≡ : (k a b : ℤ) → pos 0 <ℤ k → k *ℤ a ≡ k *ℤ b → a ≡ b
cancel-≡ k a b p e =
    let x : a ≤ℤ b = cancel-≤ k a b p (omega (arith, linear)) in
    let y : b ≤ℤ a = cancel-≤ k b a p (omega (arith, linear)) in
    omega (arith, linear)

pub weak : (k : ℤ) → pos 0 <ℤ k → pos 0 ≤ℤ k
weak k h = omega (arith, linear)

-- the sign of a number, and order under a multiple that is not positive
pub sign : (k : ℤ) → (pos 0 ≤ℤ k) ⊎ (k ≤ℤ pos 0)
sign (pos n) = inl (omega (arith, ints))
sign (negsuc n) = inr (omega (arith, ints))

pub anti : (k a b : ℤ) → k ≤ℤ pos 0 → a ≤ℤ b → (k *ℤ b) ≤ℤ (k *ℤ a)
anti k a b n h =
    let m : pos 0 ≤ℤ neg_ℤ k = omega (arith, linear) in
    let s = scale-≤ (neg_ℤ k) a b m h in
    let e : neg_ℤ k *ℤ a ≡ neg_ℤ (k *ℤ a) = simp ring in
    let f : neg_ℤ k *ℤ b ≡ neg_ℤ (k *ℤ b) = simp ring in
    omega (arith, linear)

pub sub-*ℤ : (a b k : ℤ) → (a -ℤ b) *ℤ k ≡ (a *ℤ k) -ℤ (b *ℤ k)
sub-*ℤ a b k = simp ring

pub *ℤ-sub : (k a b : ℤ) → k *ℤ (a -ℤ b) ≡ (k *ℤ a) -ℤ (k *ℤ b)
*ℤ-sub k a b = simp ring

-- `omega` reads z as `up z - down z`: this says that a number which is not negative is `up z`
pub down-nonnegative : (z : ℤ) → pos 0 ≤ℤ z → down z ≡ 0
down-nonnegative (pos n) h = refl
down-nonnegative (negsuc n) h = absurd (omega (arith, ints))

pub mul-positive : (a b : ℤ) → pos 0 <ℤ a → pos 0 <ℤ b → pos 0 <ℤ (a *ℤ b)
mul-positive (pos a) (pos b) h k =
    let p : 0 < a = omega (arith, ints) in
    let q : 0 < b = omega (arith, ints) in
    let r : 0 < a * b = mul-pos p q in
    omega (arith, ints)
mul-positive (pos a) (negsuc b) h k = absurd (omega (arith, ints))
mul-positive (negsuc a) b h k = absurd (omega (arith, ints))

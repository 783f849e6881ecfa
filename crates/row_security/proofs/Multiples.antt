-- A multiple of the balance of each class is whole: the product of the divisors 10^8·total of all blocks makes it so.
use Rattle.std.proofs.Common.{◌≡◌, ℕ, zero, suc, ◌<◌, ◌^◌, Bool, true, false, cond, ℤ, pos, negsuc, ◌+ℤ◌, ◌-ℤ◌, ◌*ℤ◌, ◌<ℤ◌, List, [], ◌∷◌, length, refl, sym, ap, ◌∙◌, arith}
use Rattle.std.specs.Prelude.{◌==◌, if◌then◌else◌}
use Rattle.std.specs.List.{range_with_len}
use Rattle.std.proofs.lemmas.Int.{ints}
use Rattle.whole_laws.specs.Ring.{ring, mul-positive}
use Rattle.whole_laws.specs.Sums.{at}
use Rattle.fractions.specs.Fractions.{Fraction, Same, whole, plus, times, total}
use Rattle.fb_types.specs.declared.grid.Grid.{Grid}
use Rattle.fb_types.specs.declared.keys.Block.{Block}
use Rattle.grid_state.specs.GridState.{GridState, classes_of, class_at}
use Rattle.security.specs.Quotients.{divisor_of, divisor-positive, divided}
use Rattle.security.specs.Balances.{for_classes, injection_at, shifts_at, weight_at, key_at, Exchange, injection_with, balance_with}
use Rattle.exact_flows.proofs.Listed.{at_classes}

-- ---- fractions that are whole once they are multiplied

-- q times the fraction is a whole number
record IsWholeAt (q : ℤ) (p : Fraction) : Type 0 where
  number : ℤ
  same : number *ℤ p.den ≡ p.num *ℤ q

at_equal : {q r : ℤ} {p : Fraction} → q ≡ r → IsWholeAt q p → IsWholeAt r p
at_equal {q} {r} {p} e h = record { number = h.number; same = h.same ∙ ap (λ v. p.num *ℤ v) e }

whole_whole : (q z : ℤ) → IsWholeAt q (whole z)
whole_whole q z = record { number = z *ℤ q; same = simp ring }

whole_plus : (q : ℤ) (p r : Fraction) → IsWholeAt q p → IsWholeAt q r → IsWholeAt q (plus p r)
whole_plus q p r h k = record { number = h.number +ℤ k.number; same = step h.number k.number p.num p.den r.num r.den h.same k.same }
  where
    step : (m n a b c d : ℤ) → m *ℤ b ≡ a *ℤ q → n *ℤ d ≡ c *ℤ q → (m +ℤ n) *ℤ (b *ℤ d) ≡ (a *ℤ d +ℤ c *ℤ b) *ℤ q
    step m n a b c d x y =
        let l : (m +ℤ n) *ℤ (b *ℤ d) ≡ d *ℤ (m *ℤ b) +ℤ b *ℤ (n *ℤ d) = simp ring in
        let r : d *ℤ (a *ℤ q) +ℤ b *ℤ (c *ℤ q) ≡ (a *ℤ d +ℤ c *ℤ b) *ℤ q = simp ring in
        l ∙ ap (λ v. d *ℤ v +ℤ b *ℤ (n *ℤ d)) x ∙ ap (λ v. d *ℤ (a *ℤ q) +ℤ b *ℤ v) y ∙ r

whole_times : (q k : ℤ) (p : Fraction) → IsWholeAt q p → IsWholeAt q (times k p)
whole_times q k p h = record { number = k *ℤ h.number; same = step h.number p.num p.den h.same }
  where
    step : (m a b : ℤ) → m *ℤ b ≡ a *ℤ q → (k *ℤ m) *ℤ b ≡ (k *ℤ a) *ℤ q
    step m a b x =
        let l : (k *ℤ m) *ℤ b ≡ k *ℤ (m *ℤ b) = simp ring in
        let r : k *ℤ (a *ℤ q) ≡ (k *ℤ a) *ℤ q = simp ring in
        l ∙ ap (λ v. k *ℤ v) x ∙ r

whole_total : {A : Type 0} (q : ℤ) (f : A → Fraction) → ((x : A) → IsWholeAt q (f x)) → (xs : List A) → IsWholeAt q (total f xs)
whole_total q f h [] = whole_whole q (pos 0)
whole_total q f h (x ∷ xs) = whole_plus q (f x) (total f xs) (h x) (whole_total q f h xs)

-- v·m over d, times d
whole_divided : (v m k : ℤ) → IsWholeAt (divisor_of k *ℤ m) (divided (whole v) k)
whole_divided v m k = record { number = v *ℤ m; same = step (divisor_of k) }
  where
    step : (d : ℤ) → (v *ℤ m) *ℤ (pos 1 *ℤ d) ≡ v *ℤ (d *ℤ m)
    step d = simp ring

-- ---- the product of the divisors of all blocks

abbrev block_divisor : Block → ℤ
block_divisor block = pos (10 ^ 8) *ℤ block.total

product : List Block → ℤ
product [] = pos 1
product (block ∷ blocks) = divisor_of (block_divisor block) *ℤ product blocks

product_of_zones : List Exchange → ℤ
product_of_zones [] = pos 1
product_of_zones (z ∷ zs) = product z.key.blocks *ℤ product_of_zones zs

product-positive : (blocks : List Block) → pos 0 <ℤ product blocks
unfolding product
product-positive [] = record { lt = tt }
product-positive (block ∷ blocks) = mul-positive (divisor_of (block_divisor block)) (product blocks) (divisor-positive (block_divisor block)) (product-positive blocks)

product_of_zones-positive : (zones : List Exchange) → pos 0 <ℤ product_of_zones zones
unfolding product_of_zones
product_of_zones-positive [] = record { lt = tt }
product_of_zones-positive (z ∷ zs) = mul-positive (product z.key.blocks) (product_of_zones zs) (product-positive z.key.blocks) (product_of_zones-positive zs)

-- ---- the balance

whole_blocks : (v : Block → ℤ) (c : ℤ) (blocks : List Block) → IsWholeAt (c *ℤ product blocks) (total (λ block. divided (whole (v block)) (block_divisor block)) blocks)
unfolding product
whole_blocks v c [] = whole_whole _ (pos 0)
whole_blocks v c (block ∷ blocks) =
    whole_plus _ (divided (whole (v block)) (block_divisor block)) (total (λ b. divided (whole (v b)) (block_divisor b)) blocks)
    (at_equal (first (divisor_of (block_divisor block)) (product blocks)) (whole_divided (v block) (c *ℤ product blocks) (block_divisor block)))
    (at_equal (rest (divisor_of (block_divisor block)) (product blocks)) (whole_blocks v (c *ℤ divisor_of (block_divisor block)) blocks))
  where
    first : (d p : ℤ) → d *ℤ (c *ℤ p) ≡ c *ℤ (d *ℤ p)
    first d p = simp ring

    rest : (d p : ℤ) → (c *ℤ d) *ℤ p ≡ c *ℤ (d *ℤ p)
    rest d p = simp ring

whole_zones : (n : ℕ) (c : ℤ) (zones : List Exchange) → IsWholeAt (c *ℤ product_of_zones zones) (total (λ (z : Exchange). times (z.position -ℤ z.reference) (key_at z.key n)) zones)
unfolding product_of_zones
whole_zones n c [] = whole_whole _ (pos 0)
whole_zones n c (z ∷ zs) =
    whole_plus _ (times (z.position -ℤ z.reference) (key_at z.key n)) (total (λ (y : Exchange). times (y.position -ℤ y.reference) (key_at y.key n)) zs)
    (whole_times _ (z.position -ℤ z.reference) (key_at z.key n)
    (at_equal (first (product z.key.blocks) (product_of_zones zs)) (whole_blocks (λ block. block.share *ℤ weight_at block n) (c *ℤ product_of_zones zs) z.key.blocks)))
    (at_equal (rest (product z.key.blocks) (product_of_zones zs)) (whole_zones n (c *ℤ product z.key.blocks) zs))
  where
    first : (b p : ℤ) → (c *ℤ p) *ℤ b ≡ c *ℤ (b *ℤ p)
    first b p = simp ring

    rest : (b p : ℤ) → (c *ℤ b) *ℤ p ≡ c *ℤ (b *ℤ p)
    rest b p = simp ring

whole_injection : (grid : Grid) (zones : List Exchange) (n : ℕ) → IsWholeAt (product_of_zones zones) (injection_with grid zones n)
whole_injection grid zones n =
    whole_plus _ (whole (injection_at grid n)) (total (λ (z : Exchange). times (z.position -ℤ z.reference) (key_at z.key n)) zones) (whole_whole _ (injection_at grid n))
    (at_equal (alone (product_of_zones zones)) (whole_zones n (pos 1) zones))
  where
    alone : (p : ℤ) → pos 1 *ℤ p ≡ p
    alone p = simp ring

whole_if : (b : Bool) (q : ℤ) (p : Fraction) → IsWholeAt q p → IsWholeAt q (cond b p (whole (pos 0)))
whole_if true q p h = h
whole_if false q p h = whole_whole q (pos 0)

whole_balance : (s : GridState) (grid : Grid) (zones : List Exchange) (c : ℕ) → IsWholeAt (product_of_zones zones) (balance_with s grid zones c)
whole_balance s grid zones c =
    whole_plus _ (times (pos (10 ^ 9)) fed) (whole (shifts_at s grid c)) (whole_times _ (pos (10 ^ 9)) fed (whole_total _ of_node each_node (range_with_len 0 (length s.class_of)))) (whole_whole _ (shifts_at s grid c))
  where
    of_node : ℕ → Fraction
    of_node n = if class_at s n == c then injection_with grid zones n else whole (pos 0)

    fed : Fraction
    fed = total of_node (range_with_len 0 (length s.class_of))

    each_node : (n : ℕ) → IsWholeAt (product_of_zones zones) (of_node n)
    each_node n = whole_if (class_at s n == c) (product_of_zones zones) (injection_with grid zones n) (whole_injection grid zones n)

-- ---- as a list

-- a whole number that is positive
record IsNatural (z : ℤ) : Type 0 where
  natural : ℕ
  positive : 0 < natural
  same : divisor_of (pos natural) ≡ z

natural_of : (z : ℤ) → pos 0 <ℤ z → IsNatural z
natural_of (pos zero) h = absurd (omega (arith, ints))
natural_of (pos (suc n)) h = record { natural = suc n; positive = omega arith; same = refl }
natural_of (negsuc n) h = absurd (omega (arith, ints))

-- p is q times the balance of each class
pub record IsBalanceTimes (s : GridState) (grid : Grid) (zones : List Exchange) (q : ℕ) (p : List ℤ) : Type 0 where
  pub positive : 0 < q
  pub scaled : (c : ℕ) → c < classes_of s → Same (divided (whole (at p c)) (pos q)) (balance_with s grid zones c)

-- a number that makes the balance of each class whole, and that many times the balances
pub record Multiple (s : GridState) (grid : Grid) (zones : List Exchange) : Type 0 where
  pub multiple : ℕ
  pub balance : List ℤ
  pub scaled : IsBalanceTimes s grid zones multiple balance

pub some_multiple : (s : GridState) (grid : Grid) (zones : List Exchange) → Multiple s grid zones
some_multiple s grid zones = record {
  multiple = q.natural;
  balance = for_classes s numbers;
  scaled = record {
    positive = q.positive;
    scaled = λ c below. let whole_at = whole_balance s grid zones c in
        record {
          same = step (at (for_classes s numbers) c) (numbers c) (balance_with s grid zones c).den (balance_with s grid zones c).num (product_of_zones zones) (divisor_of (pos q.natural))
              (at_classes s numbers c below) q.same whole_at.same;
        };
  };
}
  where
    q : IsNatural (product_of_zones zones)
    q = natural_of (product_of_zones zones) (product_of_zones-positive zones)

    numbers : ℕ → ℤ
    numbers c = (whole_balance s grid zones c).number

    step : (m n b a k d : ℤ) → m ≡ n → d ≡ k → n *ℤ b ≡ a *ℤ k → m *ℤ b ≡ a *ℤ (pos 1 *ℤ d)
    step m n b a k d e f h = ap (λ v. v *ℤ b) e ∙ h ∙ ap (λ v. a *ℤ v) (sym f) ∙ one d
      where
        one : (d : ℤ) → a *ℤ d ≡ a *ℤ (pos 1 *ℤ d)
        one d = simp ring

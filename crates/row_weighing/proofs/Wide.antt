-- Numbers, products and sums that stay within 128 bits. The code's `v * x` and `s + v * x` stand here as the check shows them, each
-- number taken to bits and back.
use Rattle.std.proofs.Common.{◌≡◌, ℕ, ◌+◌, ◌*◌, ◌^◌, ◌<◌, ℤ, pos, ◌+ℤ◌, ◌*ℤ◌, FitsSigned, to_z, of_z, to_z-of_z, arith, ap, ◌∙◌}
use Rattle.std.proofs.lemmas.Int.{ints}
use Rattle.whole_laws.specs.Sums.{IsWithin}
use Rattle.whole_laws.specs.SumLaws.{within_times}
use Rattle.std.proofs.Common.{sym, subst}
use Rattle.std.proofs.lemmas.Int.{clamps}
use Rattle.std.specs.Int.{int_max}
use Rattle.std.specs.Prelude.{IsTrue, ◌≤ℤ◌}
use Rattle.std.proofs.Common.{lit<, ◌-ℤ◌}
use lib.Signed.{le_z}
use mir.Syntax.{w64, w128}

pub fits : (m : ℕ) (z : ℤ) → IsWithin m z → m < 2 ^ 127 → FitsSigned w128 z
fits m z h l = omega (arith, ints)

pub fits_product : (v x : ℤ) (m n : ℕ) → IsWithin m v → IsWithin n x → m * n < 2 ^ 127 → m < 2 ^ 127 → n < 2 ^ 127 → FitsSigned w128 (to_z w128 (of_z w128 v) *ℤ to_z w128 (of_z w128 x))
fits_product v x m n h k l p q =
    rw (to_z-of_z (fits m v h p), to_z-of_z (fits n x k q)) (fits (m * n) (v *ℤ x) (within_times m n v x h k) l)

-- what the product is
pub product : (v x : ℤ) (m n : ℕ) → IsWithin m v → IsWithin n x → m * n < 2 ^ 127 → m < 2 ^ 127 → n < 2 ^ 127 → to_z w128 (of_z w128 (to_z w128 (of_z w128 v) *ℤ to_z w128 (of_z w128 x))) ≡ v *ℤ x
product v x m n h k l p q =
    rw (to_z-of_z (fits m v h p), to_z-of_z (fits n x k q)) (to_z-of_z (fits (m * n) (v *ℤ x) (within_times m n v x h k) l))

-- a number of 64 bits, widened
pub widened : (m : ℕ) (z x : ℤ) → IsWithin m z → m < 2 ^ 63 → x ≡ to_z w64 (of_z w64 z) → x ≡ z
widened m z x h l e =
    let f : FitsSigned w64 z = omega (arith, ints) in
    e ∙ to_z-of_z f

max_within : (m : ℕ) (a b : ℤ) → IsWithin m a → IsWithin m b → IsWithin m (int_max a b)
max_within m a b h k = record { low = omega (arith, ints, clamps); high = omega (arith, ints, clamps) }

-- the greater of two products with a number
pub greater_product : (m n : ℕ) (q l h x y r : ℤ) → IsWithin m q → IsWithin n l → IsWithin n h → m * n < 2 ^ 127 → m < 2 ^ 127 → n < 2 ^ 63 → x ≡ to_z w64 (of_z w64 l) → y ≡ to_z w64 (of_z w64 h) → r ≡ int_max (to_z w128 (of_z w128 (to_z w128 (of_z w128 q) *ℤ to_z w128 (of_z w128 x)))) (to_z w128 (of_z w128 (to_z w128 (of_z w128 q) *ℤ to_z w128 (of_z w128 y)))) → (to_z w128 (of_z w128 r) ≡ int_max (q *ℤ l) (q *ℤ h)) × IsWithin (m * n) (to_z w128 (of_z w128 r))
greater_product m n q l h x y r q_in l_in h_in mn m_in n_in low high e =
    let xl = widened n l x l_in n_in low in
    let yh = widened n h y h_in n_in high in
    let x_in : IsWithin n x = subst (IsWithin n) (sym xl) l_in in
    let y_in : IsWithin n y = subst (IsWithin n) (sym yh) h_in in
    let n_small : n < 2 ^ 127 = omega arith in
    let at_low = product q x m n q_in x_in mn m_in n_small ∙ ap (λ (t : ℤ). q *ℤ t) xl in
    let at_high = product q y m n q_in y_in mn m_in n_small ∙ ap (λ (t : ℤ). q *ℤ t) yh in
    let is : r ≡ int_max (q *ℤ l) (q *ℤ h) = e ∙ ap (λ (t : ℤ). int_max t (to_z w128 (of_z w128 (to_z w128 (of_z w128 q) *ℤ to_z w128 (of_z w128 y))))) at_low ∙ ap (λ (t : ℤ). int_max (q *ℤ l) t) at_high in
    let r_in : IsWithin (m * n) r = subst (IsWithin (m * n)) (sym is) (max_within (m * n) (q *ℤ l) (q *ℤ h) (within_times m n q l q_in l_in) (within_times m n q h q_in h_in)) in
    let back = to_z-of_z (fits (m * n) r r_in mn) in
    (back ∙ is, subst (IsWithin (m * n)) (sym back) r_in)

-- a multiple of a number, less two others
abbrev pub less_two : ℤ → ℤ → ℤ → ℤ
less_two x w u = to_z w128 (of_z w128 (to_z w128 (of_z w128 (to_z w128 (of_z w128 (pos (10 ^ 9) *ℤ to_z w128 (of_z w128 x))) -ℤ to_z w128 (of_z w128 w))) -ℤ to_z w128 (of_z w128 u)))

pub less_two_is : (x a w u : ℤ) → x ≡ a → IsWithin (10 ^ 12) a → IsWithin (10 ^ 24) w → IsWithin (10 ^ 24) u → (less_two x w u ≡ pos (10 ^ 9) *ℤ a -ℤ w -ℤ u) × IsWithin (3 * 10 ^ 24) (less_two x w u)
less_two_is x a w u e p q r = (omega (arith, ints), record { low = omega (arith, ints); high = omega (arith, ints) })

-- One turn of the loop over the zones: g, what this zone can give, is added to the most so far.
pub zone_added : (z : ℕ) (base before here g most : ℤ) → z < 64 → most ≡ base +ℤ before → IsWithin (2 * 10 ^ 37 + 3 * 10 ^ 35 * z) most → g ≡ here → IsWithin (3 * 10 ^ 35) g → (after : ℤ) → after ≡ before +ℤ here → (to_z w128 (of_z w128 (most +ℤ to_z w128 (of_z w128 g))) ≡ base +ℤ after) × IsWithin (2 * 10 ^ 37 + 3 * 10 ^ 35 * (z + 1)) (to_z w128 (of_z w128 (most +ℤ to_z w128 (of_z w128 g))))
zone_added z base before here g most l e m f h after more =
    (omega (arith, ints), record { low = omega (arith, ints); high = omega (arith, ints) })

-- a comparison of two numbers, by what they are
compared : (a b t y : ℤ) → a ≡ t → b ≡ y → (IsTrue (le_z a b) → t ≤ℤ y) × (t ≤ℤ y → IsTrue (le_z a b))
compared a b t y e f = (λ k. omega (arith, ints), λ k. grind (arith, ints))

-- The last comparison, of the most with 10^9 times the target's side.
abbrev pub allowed : ℤ → ℤ
allowed x = to_z w128 (of_z w128 (to_z w128 (of_z w128 (pos (10 ^ 9) *ℤ to_z w128 (of_z w128 x))) *ℤ pos (10 ^ 12)))

pub verdict : (most total r x : ℤ) → most ≡ total → IsWithin (2 * 10 ^ 13) r → x ≡ to_z w64 (of_z w64 r) → (IsTrue (le_z most (allowed x)) → total ≤ℤ (pos (10 ^ 9) *ℤ r *ℤ pos (10 ^ 12))) × (total ≤ℤ (pos (10 ^ 9) *ℤ r *ℤ pos (10 ^ 12)) → IsTrue (le_z most (allowed x)))
verdict most total r x e h w =
    let same = widened (2 * 10 ^ 13) r x h (lit< tt) w in
    let is : allowed x ≡ pos (10 ^ 9) *ℤ r *ℤ pos (10 ^ 12) = omega (arith, ints) in
    compared most (allowed x) total (pos (10 ^ 9) *ℤ r *ℤ pos (10 ^ 12)) e is

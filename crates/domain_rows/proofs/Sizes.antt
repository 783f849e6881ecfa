-- How large deviations and right sides are.
use Rattle.std.proofs.Common.{◌≡◌, ℕ, ◌+◌, ◌<◌, ◌≤◌, List, length, take, get_or, max, ℤ, pos, negsuc, ◌<ℤ◌, ◌+ℤ◌, ◌-ℤ◌, ◌*ℤ◌, sym, subst, arith}
use Rattle.std.specs.Prelude.{unsigned_abs}
use Rattle.std.specs.List.{All}
use Rattle.std.proofs.lemmas.List.Elements.{All-more, All-weaker}
use Rattle.whole_laws.specs.Ring.{linear}
use Rattle.whole_laws.specs.Sums.{IsWithin}
use Rattle.whole_laws.specs.Quotients.{floor_of, ceil_of}
use Rattle.whole_laws.specs.QuotientLaws.{floor-low, floor-gap, ceil-high, ceil-gap}
use Rattle.fb_span.specs.Ends.{EndsWithin}
use Rattle.domain_rows.specs.Brackets.{trillion}

-- the ends of a span are close to a number that is close to 0
pub deviation_within : (s : ℤ × ℤ) (a : ℤ) (d : ℤ × ℤ) → d ≡ (s.0 -ℤ a, s.1 -ℤ a) → EndsWithin 1_000_000_000_000 s → IsWithin 1_000_000_000_000 a → EndsWithin 2_000_000_000_000 d
deviation_within s a d e h k = subst (EndsWithin 2_000_000_000_000) (sym e) (record {
  low = record { low = omega (arith, linear, h.low.low, h.low.high, k.low, k.high); high = omega (arith, linear, h.low.low, h.low.high, k.low, k.high) };
  high = record { low = omega (arith, linear, h.high.low, h.high.high, k.low, k.high); high = omega (arith, linear, h.high.low, h.high.high, k.low, k.high) };
})

-- a quotient of a number that is not too large
quotient_within : (q z : ℤ) → (q *ℤ trillion) <ℤ (z +ℤ trillion) → (z -ℤ trillion) <ℤ (q *ℤ trillion) → IsWithin 17_800_000_000_000_000_000_000_000 z → IsWithin 20_000_000_000_000 q
quotient_within (pos n) z l g h = record { low = omega (arith, linear); high = omega (arith, linear, l, g, h.low, h.high) }
quotient_within (negsuc n) z l g h = record { low = omega (arith, linear, l, g, h.low, h.high); high = omega (arith, linear) }

difference_within : (x y : ℤ) → IsWithin 5_000_000_000_000_000_000_000_000 x → IsWithin 12_800_000_000_000_000_000_000_000 y → IsWithin 17_800_000_000_000_000_000_000_000 (x -ℤ y)
difference_within x y h k = record { low = omega (arith, linear, h.low, h.high, k.low, k.high); high = omega (arith, linear, h.low, h.high, k.low, k.high) }

pub floor_within : (x y : ℤ) → IsWithin 5_000_000_000_000_000_000_000_000 x → IsWithin 12_800_000_000_000_000_000_000_000 y → IsWithin 20_000_000_000_000 (floor_of (x -ℤ y) trillion)
floor_within x y h k =
    let l = floor-low (x -ℤ y) trillion (record { lt = tt }) in
    let g = floor-gap (x -ℤ y) trillion (record { lt = tt }) in
    quotient_within (floor_of (x -ℤ y) trillion) (x -ℤ y) (omega (arith, linear, l)) (omega (arith, linear, g)) (difference_within x y h k)

pub ceil_within : (x y : ℤ) → IsWithin 5_000_000_000_000_000_000_000_000 x → IsWithin 12_800_000_000_000_000_000_000_000 y → IsWithin 20_000_000_000_000 (ceil_of (x -ℤ y) trillion)
ceil_within x y h k =
    let l = ceil-high (x -ℤ y) trillion (record { lt = tt }) in
    let g = ceil-gap (x -ℤ y) trillion (record { lt = tt }) in
    quotient_within (ceil_of (x -ℤ y) trillion) (x -ℤ y) (omega (arith, linear, g)) (omega (arith, linear, l)) (difference_within x y h k)

pub sides_within : (ram deviation s : ℤ × ℤ) → s.0 ≡ floor_of (ram.0 -ℤ deviation.1) trillion → s.1 ≡ ceil_of (ram.1 -ℤ deviation.0) trillion
    → EndsWithin 5_000_000_000_000_000_000_000_000 ram → EndsWithin 12_800_000_000_000_000_000_000_000 deviation → EndsWithin 20_000_000_000_000 s
sides_within ram deviation s e f h k = record {
  low = subst (IsWithin 20_000_000_000_000) (sym e) (floor_within ram.0 deviation.1 h.low k.high);
  high = subst (IsWithin 20_000_000_000_000) (sym f) (ceil_within ram.1 deviation.0 h.high k.low);
}

-- ---- the sizes of ends
abs_within : (z : ℤ) → IsWithin (unsigned_abs z) z
abs_within (pos n) = record { low = omega (arith, linear); high = omega (arith, linear) }
abs_within (negsuc n) = record { low = omega (arith, linear); high = omega (arith, linear) }

abs_least : (m : ℕ) (z : ℤ) → IsWithin m z → unsigned_abs z ≤ m
abs_least m (pos n) h = omega (arith, linear, h.low, h.high)
abs_least m (negsuc n) h = omega (arith, linear, h.low, h.high)

wider : (m n : ℕ) (z : ℤ) → m ≤ n → IsWithin m z → IsWithin n z
wider m n z l h = record { low = omega (arith, linear, h.low); high = omega (arith, linear, h.high) }

pub larger : (m n : ℕ) (s : ℤ × ℤ) → m ≤ n → EndsWithin m s → EndsWithin n s
larger m n s l h = record { low = wider m n s.0 l h.low; high = wider m n s.1 l h.high }

pub size_within : (s : ℤ × ℤ) (n : ℕ) → n ≡ max (unsigned_abs s.0) (unsigned_abs s.1) → EndsWithin n s
size_within s n e = record { low = wider (unsigned_abs s.0) n s.0 (omega arith) (abs_within s.0); high = wider (unsigned_abs s.1) n s.1 (omega arith) (abs_within s.1) }

pub size_least : (s : ℤ × ℤ) (n m : ℕ) → n ≡ max (unsigned_abs s.0) (unsigned_abs s.1) → EndsWithin m s → n ≤ m
size_least s n m e h = let p = abs_least m s.0 h.low in let q = abs_least m s.1 h.high in omega arith

-- one span more
pub sized_more : {X : Type 0} (f : X → ℤ × ℤ) (xs : List X) (i : ℕ) (d x : X) (n m after : ℕ) → i < length xs → get_or xs i d ≡ x → All (λ y. EndsWithin n (f y)) (take i xs) → EndsWithin m (f x) → after ≡ max n m
    → All (λ y. EndsWithin after (f y)) (take (i + 1) xs)
sized_more f xs i d x n m after l e h k is =
    All-more (λ y. EndsWithin after (f y)) xs i d l
    (All-weaker (λ y. EndsWithin n (f y)) (λ y. EndsWithin after (f y)) (λ y. larger n after (f y) (omega arith)) (take i xs) h)
    (subst (λ y. EndsWithin after (f y)) (sym e) (larger m after (f x) (omega arith) k))

pub greater_small : (n m after bound : ℕ) → after ≡ max n m → n ≤ bound → m ≤ bound → after ≤ bound
greater_small n m after bound e p q = omega arith

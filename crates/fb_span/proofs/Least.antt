-- Each operation on spans gives the span that its contract names.
use Rattle.std.proofs.Common.{◌≡◌, ℤ, ◌+ℤ◌, ◌-ℤ◌, ◌*ℤ◌, ◌≤ℤ◌, ◌<ℤ◌, sym, subst₂, arith}
use Rattle.std.specs.Int.{int_max, int_min}
use Rattle.std.proofs.lemmas.Int.{clamps}
use Rattle.whole_laws.specs.Quotients.{floor_of, ceil_of}
use Rattle.whole_laws.specs.Ring.{linear}
use Rattle.fractions.specs.Fractions.{whole, plus, minus, times, product, over, maximum, minimum}
use Rattle.fractions.specs.FractionLaws.{plus-whole, minus-whole, times-whole, whole-product}
use Rattle.fractions.specs.Spans.{Lies, LiesIn}
use Rattle.fractions.specs.SpanLaws.{Lies-Same, Lies_wider, Lies_ordered, Lies-whole, whole-Lies, Lies-plus, Lies-minus, Lies-scale, Lies-product, Lies-over, Lies-maximum, Lies-minimum, Lies-meet}
use Rattle.fb_span.specs.Exact.{IsFrom}
use Rattle.fb_span.specs.LeastSpans.{IsLeastOfOne, IsLeastOfTwo, IsLeastOfBoth, HoldsAll, HoldsQuotients, HoldsCommon, AreApart, least_corner, greatest_corner}

-- ---- a span holds its ends
low_lies : (a : ℤ × ℤ) → a.0 ≤ℤ a.1 → LiesIn a (whole a.0)
low_lies a h = Lies-whole a.0 a.0 a.1 (omega (arith, linear)) h

high_lies : (a : ℤ × ℤ) → a.0 ≤ℤ a.1 → LiesIn a (whole a.1)
high_lies a h = Lies-whole a.1 a.0 a.1 h (omega (arith, linear))

-- ---- sums and differences
sum_in : (x y low high : ℤ) → Lies (plus (whole x) (whole y)) low high → (low ≤ℤ (x +ℤ y)) × ((x +ℤ y) ≤ℤ high)
sum_in x y low high h = whole-Lies (x +ℤ y) low high (Lies-Same (plus-whole x y) h)

pub sums_least : (a b s : ℤ × ℤ) → a.0 ≤ℤ a.1 → b.0 ≤ℤ b.1 → s.0 ≡ a.0 +ℤ b.0 → s.1 ≡ a.1 +ℤ b.1 → IsLeastOfTwo plus a b s
sums_least a b s ha hb e f = record {
  holds = λ p q h k. Lies_wider _ _ s.0 s.1 (omega (arith, linear)) (omega (arith, linear)) (Lies-plus a.0 a.1 b.0 b.1 h k);
  least = λ low high each.
      let l = sum_in a.0 b.0 low high (each a.0 b.0 (low_lies a ha) (low_lies b hb)) in
      let r = sum_in a.1 b.1 low high (each a.1 b.1 (high_lies a ha) (high_lies b hb)) in
      (omega (arith, linear, l.0), omega (arith, linear, r.1));
}

difference_in : (x y low high : ℤ) → Lies (minus (whole x) (whole y)) low high → (low ≤ℤ (x -ℤ y)) × ((x -ℤ y) ≤ℤ high)
difference_in x y low high h = whole-Lies (x -ℤ y) low high (Lies-Same (minus-whole x y) h)

pub differences_least : (a b s : ℤ × ℤ) → a.0 ≤ℤ a.1 → b.0 ≤ℤ b.1 → s.0 ≡ a.0 -ℤ b.1 → s.1 ≡ a.1 -ℤ b.0 → IsLeastOfTwo minus a b s
differences_least a b s ha hb e f = record {
  holds = λ p q h k. Lies_wider _ _ s.0 s.1 (omega (arith, linear)) (omega (arith, linear)) (Lies-minus a.0 a.1 b.0 b.1 h k);
  least = λ low high each.
      let l = difference_in a.0 b.1 low high (each a.0 b.1 (low_lies a ha) (high_lies b hb)) in
      let r = difference_in a.1 b.0 low high (each a.1 b.0 (high_lies a ha) (low_lies b hb)) in
      (omega (arith, linear, l.0), omega (arith, linear, r.1));
}

-- the ends of a difference are in order
pub difference_ordered : (a b c d l h : ℤ) → a ≤ℤ b → c ≤ℤ d → l ≡ a -ℤ d → h ≡ b -ℤ c → l ≤ℤ h
difference_ordered a b c d l h p q e f = omega (arith, linear)

-- ---- multiples
multiple_in : (k x low high : ℤ) → Lies (times k (whole x)) low high → (low ≤ℤ (k *ℤ x)) × ((k *ℤ x) ≤ℤ high)
multiple_in k x low high h = whole-Lies (k *ℤ x) low high (Lies-Same (times-whole k x) h)

pub multiples_least : (k : ℤ) (a s : ℤ × ℤ) → a.0 ≤ℤ a.1 → s.0 ≡ int_min (k *ℤ a.0) (k *ℤ a.1) → s.1 ≡ int_max (k *ℤ a.0) (k *ℤ a.1) → IsLeastOfOne (times k) a s
multiples_least k a s ha e f = record {
  holds = λ p h. Lies_wider _ _ s.0 s.1 (omega (arith, linear)) (omega (arith, linear)) (Lies-scale k a.0 a.1 h);
  least = λ low high each.
      let l = multiple_in k a.0 low high (each a.0 (low_lies a ha)) in
      let r = multiple_in k a.1 low high (each a.1 (high_lies a ha)) in
      (omega (arith, linear, clamps, l.0, r.0), omega (arith, linear, clamps, l.1, r.1));
}

-- ---- products
product_in : (x y low high : ℤ) → Lies (product (whole x) (whole y)) low high → (low ≤ℤ (x *ℤ y)) × ((x *ℤ y) ≤ℤ high)
product_in x y low high h = whole-Lies (x *ℤ y) low high (Lies-Same (whole-product x y) h)

pub products_least : (a b s : ℤ × ℤ) → a.0 ≤ℤ a.1 → b.0 ≤ℤ b.1 → s.0 ≡ least_corner a b → s.1 ≡ greatest_corner a b → IsLeastOfTwo product a b s
products_least a b s ha hb e f = record {
  holds = λ p q h k. Lies_wider _ _ s.0 s.1 (omega (arith, linear)) (omega (arith, linear)) (Lies-product a.0 a.1 b.0 b.1 h k);
  least = λ low high each.
      let w = product_in a.0 b.0 low high (each a.0 b.0 (low_lies a ha) (low_lies b hb)) in
      let x = product_in a.0 b.1 low high (each a.0 b.1 (low_lies a ha) (high_lies b hb)) in
      let y = product_in a.1 b.0 low high (each a.1 b.0 (high_lies a ha) (low_lies b hb)) in
      let z = product_in a.1 b.1 low high (each a.1 b.1 (high_lies a ha) (high_lies b hb)) in
      (omega (arith, linear, clamps, w.0, x.0, y.0, z.0), omega (arith, linear, clamps, w.1, x.1, y.1, z.1));
}

-- ---- quotients, and the greater and the lesser of two
pub quotients_held : (a : ℤ × ℤ) (d : ℤ) (s : ℤ × ℤ) → s.0 ≡ floor_of a.0 d → s.1 ≡ ceil_of a.1 d → HoldsQuotients a d s
quotients_held a d s e f = λ p h l. subst₂ (λ (x y : ℤ). Lies (over p d h) x y) (sym e) (sym f) (Lies-over a.0 a.1 d h l)

pub maxima_held : (a b s : ℤ × ℤ) → s.0 ≡ int_max a.0 b.0 → s.1 ≡ int_max a.1 b.1 → HoldsAll maximum a b s
maxima_held a b s e f = λ p q h k. subst₂ (λ (x y : ℤ). Lies (maximum p q) x y) (sym e) (sym f) (Lies-maximum a.0 a.1 b.0 b.1 h k)

pub minima_held : (a b s : ℤ × ℤ) → s.0 ≡ int_min a.0 b.0 → s.1 ≡ int_min a.1 b.1 → HoldsAll minimum a b s
minima_held a b s e f = λ p q h k. subst₂ (λ (x y : ℤ). Lies (minimum p q) x y) (sym e) (sym f) (Lies-minimum a.0 a.1 b.0 b.1 h k)

-- ---- both, and what is common
pub hull_least : (a b s : ℤ × ℤ) → a.0 ≤ℤ a.1 → b.0 ≤ℤ b.1 → s.0 ≡ int_min a.0 b.0 → s.1 ≡ int_max a.1 b.1 → IsLeastOfBoth a b s
hull_least a b s ha hb e f = record {
  holds_first = λ p h. Lies_wider a.0 a.1 s.0 s.1 (omega (arith, linear, clamps)) (omega (arith, linear, clamps)) h;
  holds_second = λ p h. Lies_wider b.0 b.1 s.0 s.1 (omega (arith, linear, clamps)) (omega (arith, linear, clamps)) h;
  least = λ low high first second.
      let w = whole-Lies a.0 low high (first a.0 (low_lies a ha)) in
      let x = whole-Lies a.1 low high (first a.1 (high_lies a ha)) in
      let y = whole-Lies b.0 low high (second b.0 (low_lies b hb)) in
      let z = whole-Lies b.1 low high (second b.1 (high_lies b hb)) in
      (omega (arith, linear, clamps, w.0, y.0), omega (arith, linear, clamps, x.1, z.1));
}

pub common_held : (a b s : ℤ × ℤ) → s.0 ≡ int_max a.0 b.0 → s.1 ≡ int_min a.1 b.1 → HoldsCommon a b s
common_held a b s e f = λ p. (
  λ h. (Lies_wider s.0 s.1 a.0 a.1 (omega (arith, linear, clamps)) (omega (arith, linear, clamps)) h, Lies_wider s.0 s.1 b.0 b.1 (omega (arith, linear, clamps)) (omega (arith, linear, clamps)) h),
  λ h k. subst₂ (λ (x y : ℤ). Lies p x y) (sym e) (sym f) (Lies-meet a.0 a.1 b.0 b.1 h k),
)

pub are_apart : (a b : ℤ × ℤ) → int_min a.1 b.1 <ℤ int_max a.0 b.0 → AreApart a b
are_apart a b l = λ p h k. let o = Lies_ordered _ _ (Lies-meet a.0 a.1 b.0 b.1 h k) in absurd (omega (arith, linear, l, o))

-- ---- what lies between two numbers of the type is one
is_from_between : (low high l g x : ℤ) → l ≤ℤ x → x ≤ℤ g → IsFrom low high l → IsFrom low high g → IsFrom low high x
is_from_between low high l g x p q h k = record { above = omega (arith, linear, h.above); below = omega (arith, linear, k.below) }

-- What an operation on spans answers: a span, or none where a number is past the type.
use Rattle.std.proofs.Common.{◌≡◌, ℤ, ◌*ℤ◌, ◌≤ℤ◌, ◌<ℤ◌, Option, Some, None, IfSome, IfNone, MatchOption, sym, subst, ap₂, arith, ◌∙◌}
use Rattle.std.specs.Int.{int_max, int_min}
use Rattle.std.proofs.lemmas.Int.{clamps}
use Rattle.whole_laws.specs.Ring.{linear}
use Rattle.fb_span.specs.Exact.{IsFrom}
use Rattle.fb_span.specs.Ends.{ends_of}
use Rattle.fb_span.specs.LeastSpans.{IsExactSpan, HoldsCommon, AreApart, least_corner, greatest_corner}
use Rattle.fb_span.proofs.Least.{common_held, are_apart}

-- ---- of four numbers, none is below the least and none above the greatest
pub record AreCorners (l g w x y z : ℤ) : Type 0 where
  pub first : (l ≤ℤ w) × (w ≤ℤ g)
  pub second : (l ≤ℤ x) × (x ≤ℤ g)
  pub third : (l ≤ℤ y) × (y ≤ℤ g)
  pub fourth : (l ≤ℤ z) × (z ≤ℤ g)

corners : (w x y z : ℤ) → AreCorners (int_min (int_min w x) (int_min y z)) (int_max (int_max w x) (int_max y z)) w x y z
corners w x y z = record {
  first = (omega (arith, linear, clamps), omega (arith, linear, clamps));
  second = (omega (arith, linear, clamps), omega (arith, linear, clamps));
  third = (omega (arith, linear, clamps), omega (arith, linear, clamps));
  fourth = (omega (arith, linear, clamps), omega (arith, linear, clamps));
}

pub corners_of : (a b : ℤ × ℤ) → AreCorners (least_corner a b) (greatest_corner a b) (a.0 *ℤ b.0) (a.0 *ℤ b.1) (a.1 *ℤ b.0) (a.1 *ℤ b.1)
corners_of a b = corners (a.0 *ℤ b.0) (a.0 *ℤ b.1) (a.1 *ℤ b.0) (a.1 *ℤ b.1)

-- none is the right answer where a number between the ends is past the type
pub none_past : {T : Type 0} (whole : T → ℤ) (low high l g x : ℤ) (r : Option (T × T)) → r ≡ None → (l ≤ℤ x) × (x ≤ℤ g) → (IsFrom low high x → ⊥) → IsExactSpan whole low high r l g
none_past whole low high l g x r e p n = subst (λ o. IsExactSpan whole low high o l g) (sym e) (λ h. n (between h.0 h.1))
  where
    between : IsFrom low high l → IsFrom low high g → IsFrom low high x
    between h k = record { above = omega (arith, linear, h.above, p.0); below = omega (arith, linear, k.below, p.1) }

-- what the code's least and greatest of the four products are
pub record Products (low high w x y z p q r t l g : ℤ) : Type 0 where
  pub first : (p ≡ w) × IsFrom low high w
  pub second : (q ≡ x) × IsFrom low high x
  pub third : (r ≡ y) × IsFrom low high y
  pub fourth : (t ≡ z) × IsFrom low high z
  pub least : l ≡ int_min (int_min p q) (int_min r t)
  pub greatest : g ≡ int_max (int_max p q) (int_max r t)

pub record Ends (low high w x y z l g : ℤ) : Type 0 where
  pub least : l ≡ int_min (int_min w x) (int_min y z)
  pub greatest : g ≡ int_max (int_max w x) (int_max y z)
  pub least_in : IsFrom low high (int_min (int_min w x) (int_min y z))
  pub greatest_in : IsFrom low high (int_max (int_max w x) (int_max y z))
  pub ordered : l ≤ℤ g

pub ends_are : (low high w x y z p q r t l g : ℤ) → Products low high w x y z p q r t l g → Ends low high w x y z l g
ends_are low high w x y z p q r t l g h = record {
  least = h.least ∙ ap₂ int_min (ap₂ int_min h.first.0 h.second.0) (ap₂ int_min h.third.0 h.fourth.0);
  greatest = h.greatest ∙ ap₂ int_max (ap₂ int_max h.first.0 h.second.0) (ap₂ int_max h.third.0 h.fourth.0);
  least_in = ends.0;
  greatest_in = ends.1;
  ordered = omega (arith, linear, clamps, h.least, h.greatest);
}
  where
    both : IsFrom low high w → IsFrom low high x → IsFrom low high y → IsFrom low high z → IsFrom low high (int_min (int_min w x) (int_min y z)) × IsFrom low high (int_max (int_max w x) (int_max y z))
    both fw fx fy fz = (
      record { above = omega (arith, linear, clamps, fw.above, fx.above, fy.above, fz.above); below = omega (arith, linear, clamps, fw.below, fx.below, fy.below, fz.below) },
      record { above = omega (arith, linear, clamps, fw.above, fx.above, fy.above, fz.above); below = omega (arith, linear, clamps, fw.below, fx.below, fy.below, fz.below) },
    )

    ends : IsFrom low high (int_min (int_min w x) (int_min y z)) × IsFrom low high (int_max (int_max w x) (int_max y z))
    ends = both h.first.1 h.second.1 h.third.1 h.fourth.1

-- ---- the common part
pub meet_common : {T : Type 0} (whole : T → ℤ) (a b : ℤ × ℤ) (low high : T) (r : Option (T × T)) → MatchOption r (whole high <ℤ whole low) (λ s. (s ≡ (low, high)) × (whole low ≤ℤ whole high))
    → whole low ≡ int_max a.0 b.0 → whole high ≡ int_min a.1 b.1 → IfSome r (λ s. HoldsCommon a b (ends_of whole s))
meet_common whole a b low high None h e f = tt
meet_common whole a b low high (Some s) h e f = subst (λ t. HoldsCommon a b (ends_of whole t)) (sym h.0) (common_held a b (ends_of whole (low, high)) e f)

pub meet_apart : {T : Type 0} (whole : T → ℤ) (a b : ℤ × ℤ) (low high : T) (r : Option (T × T)) → MatchOption r (whole high <ℤ whole low) (λ s. (s ≡ (low, high)) × (whole low ≤ℤ whole high))
    → whole low ≡ int_max a.0 b.0 → whole high ≡ int_min a.1 b.1 → IfNone r (AreApart a b)
meet_apart whole a b low high None h e f = are_apart a b (omega (arith, linear, h, e, f))
meet_apart whole a b low high (Some s) h e f = tt

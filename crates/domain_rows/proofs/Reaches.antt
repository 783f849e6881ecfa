-- What deviations may put on a row: what is known after some zones, and when it fits.
use Rattle.std.proofs.Common.{◌≡◌, ℕ, zero, suc, ◌+◌, ◌*◌, ◌<◌, ◌≤◌, inl, inr, List, [], ◌∷◌, length, take, get_or, map, ℤ, pos, negsuc, neg_ℤ, ◌+ℤ◌, ◌≤ℤ◌, refl, sym, ap, ap₂, subst, ◌∙◌, arith, take_all}
use Rattle.std.specs.Prelude.{Option, Some, None}
use Rattle.std.specs.List.{All, zip}
use Rattle.std.proofs.Math.Nat.{mul-le-mul}
use Rattle.std.proofs.lemmas.Bool.{cases_eq}
use Rattle.std.proofs.lemmas.List.Elements.{All-head, All-tail, All-cons, All-nil, All-more, All-get_or}
use Rattle.std.proofs.lemmas.Slice.Zip.{get_or-zip}
use Rattle.whole_laws.specs.Ring.{linear}
use Rattle.whole_laws.specs.Sums.{IsWithin, sum_over}
use Rattle.whole_laws.specs.SumLaws.{sum_over-more}
use Rattle.fb_span.specs.Ends.{EndsWithin, EndsFrom}
use Rattle.fb_span.specs.Exact.{IsFrom, IsExactly}
use Rattle.fb_span.specs.LeastSpans.{IsExactSpan, least_corner, greatest_corner}
use Rattle.fb_types.specs.declared.rows.Bounds.{Bounds}
use Rattle.domain_rows.specs.Brackets.{coefficient_of, deviation_of, ends_of_box, least_deviation, greatest_deviation}
use Rattle.domain_rows.specs.FittingReaches.{Zone, zones_of, difference_of, least_reach, greatest_reach, reach_of, ZoneFits, ReachFits, IsZoneReach, IsReach}
use Rattle.domain_rows.proofs.Corners.{corners_within}
use Rattle.domain_rows.proofs.Sizes.{larger}

-- ---- lists side by side
pub zip_long : {X Y : Type 0} (xs : List X) (ys : List Y) → length ys ≡ length xs → length (zip xs ys) ≡ length xs
zip_long [] ys e = refl
zip_long (x ∷ xs) [] e = absurd (omega arith)
zip_long (x ∷ xs) (y ∷ ys) e = ap suc (zip_long xs ys (omega arith))

pub zip_all : {X Y : Type 0} (P : X → Type 0) (Q : Y → Type 0) (R : X × Y → Type 0) → ((x : X) (y : Y) → P x → Q y → R (x, y)) → (xs : List X) (ys : List Y) → All P xs → All Q ys → All R (zip xs ys)
zip_all P Q R f [] ys p q = All-nil R
zip_all P Q R f (x ∷ xs) [] p q = All-nil R
zip_all P Q R f (x ∷ xs) (y ∷ ys) p q = All-cons R (x, y) (zip xs ys) (f x y (All-head P x xs p) (All-head Q y ys q)) (zip_all P Q R f xs ys (All-tail P x xs p) (All-tail Q y ys q))

pub zones_long : (factors : List (ℤ × ℤ)) (a : List ℤ) (bounds : List Bounds) → length a ≡ length factors → length bounds ≡ length factors → length (zones_of factors a bounds) ≡ length factors
zones_long factors a bounds ea eb = let e = zip_long factors a ea in zip_long (zip factors a) bounds (eb ∙ sym e) ∙ e

pub zones_end : (factors : List (ℤ × ℤ)) (a : List ℤ) (bounds : List Bounds) (i : ℕ) → length a ≡ length factors → length bounds ≡ length factors → length factors ≤ i → length (zones_of factors a bounds) ≤ i
zones_end factors a bounds i ea eb l = let e = zones_long factors a bounds ea eb in omega (arith, e)

-- the zone at a place
pub record IsAt (zones : List Zone) (i : ℕ) (d zone : Zone) : Type 0 where
  pub within : i < length zones
  pub is : get_or zones i d ≡ zone

pub zone_at : (factors : List (ℤ × ℤ)) (a : List ℤ) (bounds : List Bounds) (i : ℕ) (ds s : ℤ × ℤ) (dc c : ℤ) (db b : Bounds) → i < length factors → length a ≡ length factors → length bounds ≡ length factors
    → s ≡ get_or factors i ds → c ≡ get_or a i dc → b ≡ get_or bounds i db → IsAt (zones_of factors a bounds) i ((ds, dc), db) ((s, c), b)
zone_at factors a bounds i ds s dc c db b l ea eb hs hc hb =
    let e = zip_long factors a ea in
    let z = zones_long factors a bounds ea eb in
    record {
      within = omega (arith, z);
      is = get_or-zip (zip factors a) bounds i ((ds, dc), db) (omega (arith, e)) (omega arith)
          ∙ ap₂ (λ (u : (ℤ × ℤ) × ℤ) (v : Bounds). (u, v)) (get_or-zip factors a i (ds, dc) l (omega arith) ∙ ap₂ (λ (u : ℤ × ℤ) (v : ℤ). (u, v)) (sym hs) (sym hc)) (sym hb);
    }

-- ---- one zone

-- the code's spans of a zone
pub record Narrowed (low high : ℤ) (zone : Zone) (difference box : ℤ × ℤ) : Type 0 where
  pub low_end : difference.0 ≡ (difference_of zone.0).0
  pub high_end : difference.1 ≡ (difference_of zone.0).1
  pub lower : box.0 ≡ (ends_of_box zone.1).0
  pub upper : box.1 ≡ (ends_of_box zone.1).1
  pub differences : EndsFrom low high (difference_of zone.0)
  pub bounds : EndsFrom low high (ends_of_box zone.1)

reach_by_answer : {T : Type 0} (whole : T → ℤ) (low high : ℤ) (zone : Zone) (r : Option (T × T)) → EndsFrom low high (difference_of zone.0) → EndsFrom low high (ends_of_box zone.1)
    → IsExactSpan whole low high r (least_reach zone) (greatest_reach zone) → IsZoneReach whole low high r zone
reach_by_answer whole low high zone (Some s) d b h = (h.0, h.1, record { differences = d; bounds = b; products = record { low = h.2; high = h.3 } })
reach_by_answer whole low high zone None d b h = λ fits. h (fits.products.low, fits.products.high)

pair_is : (p : ℤ × ℤ) (x y : ℤ) → p.0 ≡ x → p.1 ≡ y → p ≡ (x, y)
pair_is p x y e f = ap₂ (λ (u v : ℤ). (u, v)) e f

pub reach_is : {T : Type 0} (whole : T → ℤ) (low high : ℤ) (zone : Zone) (difference box : ℤ × ℤ) (r : Option (T × T)) → Narrowed low high zone difference box
    → IsExactSpan whole low high r (least_corner difference box) (greatest_corner difference box) → IsZoneReach whole low high r zone
reach_is whole low high zone difference box r n h =
    let d : difference ≡ difference_of zone.0 = pair_is difference _ _ n.low_end n.high_end in
    let b : box ≡ ends_of_box zone.1 = pair_is box _ _ n.lower n.upper in
    reach_by_answer whole low high zone r n.differences n.bounds (subst (λ (u : ℤ × ℤ). IsExactSpan whole low high r (least_corner u (ends_of_box zone.1)) (greatest_corner u (ends_of_box zone.1))) d
    (subst (λ (v : ℤ × ℤ). IsExactSpan whole low high r (least_corner difference v) (greatest_corner difference v)) b h))

pub no_zone_reach : {T : Type 0} (whole : T → ℤ) (low high : ℤ) (zone : Zone) (r : Option (T × T)) → r ≡ None → (ZoneFits low high zone → ⊥) → IsZoneReach whole low high r zone
no_zone_reach whole low high zone r e n = subst (λ o. IsZoneReach whole low high o zone) (sym e) n

-- ---- the sum, zone by zone
pub record SoFar (low high : ℤ) (zones : List Zone) (place : ℕ) (x y : ℤ) : Type 0 where
  pub least_is : x ≡ sum_over least_reach (take place zones)
  pub greatest_is : y ≡ sum_over greatest_reach (take place zones)
  pub each : All (ZoneFits low high) (take place zones)
  pub least_sums : (k : ℕ) → k ≤ place → IsFrom low high (sum_over least_reach (take k zones))
  pub greatest_sums : (k : ℕ) → k ≤ place → IsFrom low high (sum_over greatest_reach (take k zones))

zero_is : (k : ℕ) → k ≤ 0 → 0 ≡ k
zero_is k l = omega arith

pub none_yet : (low high : ℤ) (zones : List Zone) (x : ℤ) → (x ≡ pos 0) × IsFrom low high (pos 0) → SoFar low high zones 0 x x
none_yet low high zones x h = record {
  least_is = h.0;
  greatest_is = h.0;
  each = All-nil (ZoneFits low high);
  least_sums = λ k l. subst (λ (i : ℕ). IsFrom low high (sum_over least_reach (take i zones))) (zero_is k l) h.1;
  greatest_sums = λ k l. subst (λ (i : ℕ). IsFrom low high (sum_over greatest_reach (take i zones))) (zero_is k l) h.1;
}

sum_step : (f : Zone → ℤ) (zones : List Zone) (i : ℕ) (d zone : Zone) (x p after : ℤ) → IsAt zones i d zone → x ≡ sum_over f (take i zones) → p ≡ f zone → after ≡ x +ℤ p
    → after ≡ sum_over f (take (i + 1) zones)
sum_step f zones i d zone x p after here hx hp ha = ha ∙ ap₂ (λ (u v : ℤ). u +ℤ v) hx (hp ∙ ap f (sym here.is)) ∙ sym (sum_over-more f zones i d here.within)

sums_step : (f : Zone → ℤ) (low high : ℤ) (zones : List Zone) (i : ℕ) (after : ℤ) → ((k : ℕ) → k ≤ i → IsFrom low high (sum_over f (take k zones))) → after ≡ sum_over f (take (i + 1) zones) → IsFrom low high after
    → (k : ℕ) → k ≤ i + 1 → IsFrom low high (sum_over f (take k zones))
sums_step f low high zones i after h e fits k l = elim (cases_eq k (i + 1)) [
  | inl same ↦ subst (λ (j : ℕ). IsFrom low high (sum_over f (take j zones))) (sym same) (subst (IsFrom low high) e fits)
  | inr other ↦ h k (omega arith)
]

pub one_more : {T : Type 0} (whole : T → ℤ) (low high : ℤ) (zones : List Zone) (i : ℕ) (d zone : Zone) (x y p q u v : ℤ) → IsAt zones i d zone → SoFar low high zones i x y
    → (p ≡ least_reach zone) × (q ≡ greatest_reach zone) × ZoneFits low high zone → (u ≡ x +ℤ p) × (v ≡ y +ℤ q) × IsFrom low high (x +ℤ p) × IsFrom low high (y +ℤ q) → SoFar low high zones (i + 1) u v
one_more whole low high zones i d zone x y p q u v here h reach sum =
    let least_is = sum_step least_reach zones i d zone x p u here h.least_is reach.0 sum.0 in
    let greatest_is = sum_step greatest_reach zones i d zone y q v here h.greatest_is reach.1 sum.1 in
    record {
      least_is = least_is;
      greatest_is = greatest_is;
      each = All-more (ZoneFits low high) zones i d here.within h.each (subst (ZoneFits low high) (sym here.is) reach.2);
      least_sums = sums_step least_reach low high zones i u h.least_sums least_is (subst (IsFrom low high) (sym sum.0) sum.2);
      greatest_sums = sums_step greatest_reach low high zones i v h.greatest_sums greatest_is (subst (IsFrom low high) (sym sum.1) sum.3);
    }

pub all_summed : (low high : ℤ) (zones : List Zone) (i : ℕ) (x y : ℤ) → length zones ≤ i → SoFar low high zones i x y
    → (x ≡ sum_over least_reach zones) × (y ≡ sum_over greatest_reach zones) × ReachFits low high zones
all_summed low high zones i x y l h = (
  h.least_is ∙ ap (sum_over least_reach) (take_all i zones l),
  h.greatest_is ∙ ap (sum_over greatest_reach) (take_all i zones l),
  record {
    each = subst (All (ZoneFits low high)) (take_all i zones l) h.each;
    least_sums = λ k m. h.least_sums k (omega arith);
    greatest_sums = λ k m. h.greatest_sums k (omega arith);
  },
)

-- a number on the way that does not fit
pub zero_past : (low high : ℤ) (zones : List Zone) → (IsFrom low high (pos 0) → ⊥) → ReachFits low high zones → ⊥
zero_past low high zones n h = n (h.least_sums 0 (omega arith))

pub zone_past : (low high : ℤ) (zones : List Zone) (i : ℕ) (d zone : Zone) → IsAt zones i d zone → (ZoneFits low high zone → ⊥) → ReachFits low high zones → ⊥
zone_past low high zones i d zone here n h = n (subst (ZoneFits low high) here.is (All-get_or (ZoneFits low high) zones i d here.within h.each))

pub sum_past : (low high : ℤ) (zones : List Zone) (i : ℕ) (d zone : Zone) (x y p q : ℤ) → IsAt zones i d zone → SoFar low high zones i x y → (p ≡ least_reach zone) × (q ≡ greatest_reach zone) × ZoneFits low high zone
    → (IsFrom low high (x +ℤ p) × IsFrom low high (y +ℤ q) → ⊥) → ReachFits low high zones → ⊥
sum_past low high zones i d zone x y p q here so reach n h =
    let l = here.within in
    n (
      subst (IsFrom low high) (sym (sum_step least_reach zones i d zone x p (x +ℤ p) here so.least_is reach.0 refl)) (h.least_sums (i + 1) (omega arith)),
      subst (IsFrom low high) (sym (sum_step greatest_reach zones i d zone y q (y +ℤ q) here so.greatest_is reach.1 refl)) (h.greatest_sums (i + 1) (omega arith)),
    )

pub no_reach : {T : Type 0} (whole : T → ℤ) (low high : ℤ) (zones : List Zone) (r : Option (T × T)) → r ≡ None → (ReachFits low high zones → ⊥) → IsReach whole low high r zones
no_reach whole low high zones r e n = subst (λ o. IsReach whole low high o zones) (sym e) n

-- ---- sums that fit
is_from : (n : ℕ) (low high z : ℤ) → low ≤ℤ neg_ℤ (pos n) → pos n ≤ℤ high → IsWithin n z → IsFrom low high z
is_from n low high z l u h = record { above = omega (arith, linear, h.low); below = omega (arith, linear, h.high) }

wider : (m n : ℕ) (z : ℤ) → m ≤ n → IsWithin m z → IsWithin n z
wider m n z l h = record { low = omega (arith, linear, h.low); high = omega (arith, linear, h.high) }

sum_within : (f : Zone → ℤ) (m : ℕ) (zones : List Zone) (k : ℕ) → All (λ z. IsWithin m (f z)) zones → IsWithin (length zones * m) (sum_over f (take k zones))
sum_within f m [] zero h = record { low = omega (arith, linear); high = omega (arith, linear) }
sum_within f m [] (suc k) h = record { low = omega (arith, linear); high = omega (arith, linear) }
sum_within f m (z ∷ zs) zero h = record { low = omega (arith, linear); high = omega (arith, linear) }
sum_within f m (z ∷ zs) (suc k) h =
    let first = All-head (λ y. IsWithin m (f y)) z zs h in
    let rest = sum_within f m zs k (All-tail (λ y. IsWithin m (f y)) z zs h) in
    record { low = omega (arith, linear, first.low, rest.low); high = omega (arith, linear, first.high, rest.high) }

-- deviations within m and bounds within n
pub record AreSized (m n : ℕ) (zones : List Zone) : Type 0 where
  pub differences : All (λ z. EndsWithin m (difference_of z.0)) zones
  pub boxes : All (λ z. EndsWithin n (ends_of_box z.1)) zones

pub sized : (m n : ℕ) (factors : List (ℤ × ℤ)) (a : List ℤ) (bounds : List Bounds) → All (λ d. EndsWithin m (difference_of d)) (zip factors a) → All (λ b. EndsWithin n (ends_of_box b)) bounds
    → AreSized m n (zones_of factors a bounds)
sized m n factors a bounds h k = record {
  differences = zip_all (λ d. EndsWithin m (difference_of d)) (λ b. EndsWithin n (ends_of_box b)) (λ z. EndsWithin m (difference_of z.0)) (λ x y p q. p) (zip factors a) bounds h k;
  boxes = zip_all (λ d. EndsWithin m (difference_of d)) (λ b. EndsWithin n (ends_of_box b)) (λ z. EndsWithin n (ends_of_box z.1)) (λ x y p q. q) (zip factors a) bounds h k;
}

least_sized : (m n : ℕ) (zones : List Zone) → AreSized m n zones → All (λ z. IsWithin (m * n) (least_reach z)) zones
least_sized m n zones h = λ k d l. (corners_within m n _ _ (h.differences k d l) (h.boxes k d l)).0

greatest_sized : (m n : ℕ) (zones : List Zone) → AreSized m n zones → All (λ z. IsWithin (m * n) (greatest_reach z)) zones
greatest_sized m n zones h = λ k d l. (corners_within m n _ _ (h.differences k d l) (h.boxes k d l)).1

one_of : (length k p t : ℕ) → k < length → length * p ≤ t → p ≤ t
one_of length k p t l h = let one : 1 ≤ length = omega arith in let same : p ≤ p = omega arith in let m = mul-le-mul one same in omega (arith, m, h)

-- a type that holds the numbers within m, within n and within t
pub record Holds (m n t : ℕ) (low high : ℤ) : Type 0 where
  pub low_difference : low ≤ℤ neg_ℤ (pos m)
  pub high_difference : pos m ≤ℤ high
  pub low_bound : low ≤ℤ neg_ℤ (pos n)
  pub high_bound : pos n ≤ℤ high
  pub low_sum : low ≤ℤ neg_ℤ (pos t)
  pub high_sum : pos t ≤ℤ high

pub reach_fits : (m n t : ℕ) (low high : ℤ) (zones : List Zone) → Holds m n t low high → AreSized m n zones → length zones * (m * n) ≤ t → ReachFits low high zones
reach_fits m n t low high zones holds h small = record {
  each = λ k d l.
      let product = one_of (length zones) k (m * n) t l small in
      record {
        differences = record { low = is_from m low high _ holds.low_difference holds.high_difference (h.differences k d l).low; high = is_from m low high _ holds.low_difference holds.high_difference (h.differences k d l).high };
        bounds = record { low = is_from n low high _ holds.low_bound holds.high_bound (h.boxes k d l).low; high = is_from n low high _ holds.low_bound holds.high_bound (h.boxes k d l).high };
        products = record {
          low = is_from t low high _ holds.low_sum holds.high_sum (wider (m * n) t _ product (least_sized m n zones h k d l));
          high = is_from t low high _ holds.low_sum holds.high_sum (wider (m * n) t _ product (greatest_sized m n zones h k d l));
        };
      };
  least_sums = λ k l. is_from t low high _ holds.low_sum holds.high_sum (wider (length zones * (m * n)) t _ small (sum_within least_reach (m * n) zones k (least_sized m n zones h)));
  greatest_sums = λ k l. is_from t low high _ holds.low_sum holds.high_sum (wider (length zones * (m * n)) t _ small (sum_within greatest_reach (m * n) zones k (greatest_sized m n zones h)));
}

-- what up to 64 zones may put on a row
pub reach_within : (zones : List Zone) → length zones ≤ 64 → AreSized 2_000_000_000_000 100_000_000_000 zones → EndsWithin 12_800_000_000_000_000_000_000_000 (reach_of zones)
reach_within zones few h = record {
  low = wider (length zones * 200_000_000_000_000_000_000_000) 12_800_000_000_000_000_000_000_000 _ (omega arith) (whole_sum least_reach (least_sized 2_000_000_000_000 100_000_000_000 zones h));
  high = wider (length zones * 200_000_000_000_000_000_000_000) 12_800_000_000_000_000_000_000_000 _ (omega arith) (whole_sum greatest_reach (greatest_sized 2_000_000_000_000 100_000_000_000 zones h));
}
  where
    whole_sum : (f : Zone → ℤ) → All (λ z. IsWithin 200_000_000_000_000_000_000_000 (f z)) zones → IsWithin (length zones * 200_000_000_000_000_000_000_000) (sum_over f zones)
    whole_sum f k = subst (λ (zs : List Zone). IsWithin (length zones * 200_000_000_000_000_000_000_000) (sum_over f zs)) (take_all (length zones) zones (omega arith)) (sum_within f 200_000_000_000_000_000_000_000 zones (length zones) k)

-- ---- with the coefficients of the factors
sum_of_deviations : (f : ℤ × ℤ → ℤ × ℤ → ℤ) (factors : List (ℤ × ℤ)) (bounds : List Bounds)
    → sum_over (λ (z : Zone). f (difference_of z.0) (ends_of_box z.1)) (zones_of factors (map coefficient_of factors) bounds) ≡ sum_over (λ z. f (deviation_of z.0) (ends_of_box z.1)) (zip factors bounds)
sum_of_deviations f [] bounds = refl
sum_of_deviations f (s ∷ ss) [] = refl
sum_of_deviations f (s ∷ ss) (b ∷ bs) = ap (λ z. f (deviation_of s) (ends_of_box b) +ℤ z) (sum_of_deviations f ss bs)

pub reach_of_coefficients : (factors : List (ℤ × ℤ)) (a : List ℤ) (bounds : List Bounds) → a ≡ map coefficient_of factors
    → reach_of (zones_of factors a bounds) ≡ (least_deviation factors bounds, greatest_deviation factors bounds)
reach_of_coefficients factors a bounds e = ap (λ (cs : List ℤ). reach_of (zones_of factors cs bounds)) e
    ∙ ap₂ (λ (u v : ℤ). (u, v)) (sum_of_deviations least_corner factors bounds) (sum_of_deviations greatest_corner factors bounds)

-- ---- numbers that do not fit
pub within_wide : (least greatest low high z : ℤ) → IsFrom least greatest low → IsFrom least greatest high → IsFrom low high z → IsFrom least greatest z
within_wide least greatest low high z l h f = record { above = omega (arith, linear, l.above, f.above); below = omega (arith, linear, h.below, f.below) }

pub no_number : {T : Type 0} (whole : T → ℤ) (low high : ℤ) (r : Option T) (z : ℤ) → r ≡ None → (IsFrom low high z → ⊥) → IsExactly whole low high r z
no_number whole low high r z e n = subst (λ o. IsExactly whole low high o z) (sym e) n

pub same_number : {T : Type 0} (whole : T → ℤ) (low high : ℤ) (r : Option T) (y z : ℤ) → y ≡ z → IsExactly whole low high r y → IsExactly whole low high r z
same_number whole low high r y z e h = subst (λ v. IsExactly whole low high r v) e h

pub none_yet_at : {T : Type 0} (whole : T → ℤ) (low high : ℤ) (zones : List Zone) (s : T × T) (x : T) → s ≡ (x, x) → (whole x ≡ pos 0) × IsFrom low high (pos 0) → SoFar low high zones 0 (whole s.0) (whole s.1)
none_yet_at whole low high zones s x e h = subst (λ p. SoFar low high zones 0 (whole p.0) (whole p.1)) (sym e) (none_yet low high zones (whole x) h)

pub record IsDeviation (factors : List (ℤ × ℤ)) (bounds : List Bounds) (s : ℤ × ℤ) : Type 0 where
  pub low : s.0 ≡ least_deviation factors bounds
  pub high : s.1 ≡ greatest_deviation factors bounds
  pub within : EndsWithin 12_800_000_000_000_000_000_000_000 s

-- what is summed with the coefficients of the factors
pub is_deviation : (m n : ℕ) (factors : List (ℤ × ℤ)) (a : List ℤ) (bounds : List Bounds) (s : ℤ × ℤ) → a ≡ map coefficient_of factors → length a ≡ length factors → length bounds ≡ length factors → length bounds ≤ 64
    → m ≤ 2_000_000_000_000 → n ≤ 100_000_000_000 → AreSized m n (zones_of factors a bounds) → s ≡ reach_of (zones_of factors a bounds) → IsDeviation factors bounds s
is_deviation m n factors a bounds s e ea eb few lm ln h is =
    let whole = is ∙ reach_of_coefficients factors a bounds e in
    let long = zones_long factors a bounds ea eb in
    record {
      low = ap (λ (p : ℤ × ℤ). p.0) whole;
      high = ap (λ (p : ℤ × ℤ). p.1) whole;
      within = subst (EndsWithin 12_800_000_000_000_000_000_000_000) (sym is) (reach_within (zones_of factors a bounds) (omega arith) (record {
        differences = λ k d l. larger m 2_000_000_000_000 _ lm (h.differences k d l);
        boxes = λ k d l. larger n 100_000_000_000 _ ln (h.boxes k d l);
      }));
    }

-- a factor with its coefficient at a place
pub pair_at : (factors : List (ℤ × ℤ)) (a : List ℤ) (i : ℕ) (s : ℤ × ℤ) → i < length factors → length a ≡ length factors → s ≡ get_or factors i s
    → (i < length (zip factors a)) × (get_or (zip factors a) i (s, pos 0) ≡ (s, get_or a i (pos 0)))
pair_at factors a i s l ea hs =
    let e = zip_long factors a ea in
    (omega (arith, e), get_or-zip factors a i (s, pos 0) l (omega arith) ∙ ap (λ (u : ℤ × ℤ). (u, get_or a i (pos 0))) (sym hs))

pub pairs_long : (factors : List (ℤ × ℤ)) (a : List ℤ) (i : ℕ) → length a ≡ length factors → length factors ≤ i → length (zip factors a) ≤ i
pairs_long factors a i ea l = let e = zip_long factors a ea in omega (arith, e)

-- ---- which numbers the types hold
product_at_most : (k len p r t : ℕ) → k ≡ len → r ≡ len * p → r ≤ t → k * p ≤ t
product_at_most k len p r t e f l = let g = ap (λ (n : ℕ). n * p) e in omega arith

pub narrow_fits : (m n len r : ℕ) (factors : List (ℤ × ℤ)) (a : List ℤ) (bounds : List Bounds) → length a ≡ length factors → length bounds ≡ length factors → m ≤ 2_000_000_000_000 → n ≤ 100_000_000_000
    → AreSized m n (zones_of factors a bounds) → len ≡ length factors → r ≡ len * (m * n) → r ≤ 9_000_000_000_000_000_000 → ReachFits (negsuc 9_223_372_036_854_775_807) (pos 9_223_372_036_854_775_807) (zones_of factors a bounds)
narrow_fits m n len r factors a bounds ea eb lm ln h long is small =
    reach_fits m n 9_000_000_000_000_000_000 (negsuc 9_223_372_036_854_775_807) (pos 9_223_372_036_854_775_807) (zones_of factors a bounds) (record {
      low_difference = omega (arith, linear, lm);
      high_difference = omega (arith, linear, lm);
      low_bound = omega (arith, linear, ln);
      high_bound = omega (arith, linear, ln);
      low_sum = omega (arith, linear);
      high_sum = omega (arith, linear);
    }) h (product_at_most (length (zones_of factors a bounds)) len (m * n) r 9_000_000_000_000_000_000 (zones_long factors a bounds ea eb ∙ sym long) is small)

wide_product : (k m n : ℕ) → k ≤ 64 → m ≤ 2_000_000_000_000 → n ≤ 100_000_000_000 → k * (m * n) ≤ 12_800_000_000_000_000_000_000_000
wide_product k m n lk lm ln = let p = mul-le-mul lm ln in let q = mul-le-mul lk p in omega (arith, q)

pub wide_fits : (m n : ℕ) (factors : List (ℤ × ℤ)) (a : List ℤ) (bounds : List Bounds) → length a ≡ length factors → length bounds ≡ length factors → length bounds ≤ 64 → m ≤ 2_000_000_000_000 → n ≤ 100_000_000_000
    → AreSized m n (zones_of factors a bounds) → ReachFits (negsuc 170_141_183_460_469_231_731_687_303_715_884_105_727) (pos 170_141_183_460_469_231_731_687_303_715_884_105_727) (zones_of factors a bounds)
wide_fits m n factors a bounds ea eb few lm ln h =
    let long = zones_long factors a bounds ea eb in
    reach_fits m n 12_800_000_000_000_000_000_000_000 (negsuc 170_141_183_460_469_231_731_687_303_715_884_105_727) (pos 170_141_183_460_469_231_731_687_303_715_884_105_727) (zones_of factors a bounds) (record {
      low_difference = omega (arith, linear, lm);
      high_difference = omega (arith, linear, lm);
      low_bound = omega (arith, linear, ln);
      high_bound = omega (arith, linear, ln);
      low_sum = omega (arith, linear);
      high_sum = omega (arith, linear);
    }) h (wide_product (length (zones_of factors a bounds)) m n (omega (arith, long)) lm ln)

-- Sums of spans by their shares: what is known after some of them, and when they fit.
use Rattle.std.proofs.Common.{◌≡◌, ℕ, zero, suc, ◌+◌, ◌*◌, ◌<◌, ◌≤◌, inl, inr, List, [], ◌∷◌, length, take, get_or, All, ℤ, pos, ◌+ℤ◌, ◌*ℤ◌, neg_ℤ, ◌≤ℤ◌, refl, sym, ap, ap₂, subst, ◌∙◌, arith, take_all}
use Rattle.std.proofs.lemmas.Bool.{cases_eq}
use Rattle.std.specs.Prelude.{Option, Some, None, MatchOption}
use Rattle.std.specs.Int.{int_min, int_max}
use Rattle.std.specs.List.{zip}
use Rattle.std.proofs.lemmas.Int.{clamps}
use Rattle.std.proofs.lemmas.List.Elements.{All-head, All-tail, All-cons, All-nil, All-more, All-get_or, All-take}
use Rattle.std.proofs.lemmas.Slice.Zip.{get_or-zip}
use Rattle.whole_laws.specs.Quotients.{floor_of, ceil_of}
use Rattle.whole_laws.specs.Ring.{linear, scale-≤}
use Rattle.whole_laws.specs.Sums.{IsWithin, sum_over}
use Rattle.whole_laws.specs.SumLaws.{within_times, sum_over-more, sum_over-take, sum_over-nonnegative, sum_over-weighted}
use Rattle.fb_span.specs.Ends.{EndsWithin}
use Rattle.fb_span.specs.Exact.{IsFrom}
use Rattle.zonal_factors.specs.SharedSpans.{Part, low_sum, high_sum, share_sum, PartFits, SharedFits, IsShared, Sums, no_sums, with_part, StepFits}

pub by_none : {X : Type 0} (N : Type 0) (S : X → Type 0) (r : Option X) → r ≡ None → N → MatchOption r N S
by_none N S r e n = subst (λ o. MatchOption o N S) (sym e) n

pub no_shared : {T : Type 0} (whole : T → ℤ) (low high : ℤ) (parts : List Part) (r : Option (T × T)) → r ≡ None → (SharedFits low high parts → ⊥) → IsShared whole low high r parts
no_shared whole low high parts r e n = subst (λ o. IsShared whole low high o parts) (sym e) n

-- ---- one part

-- the code's numbers are the part's
pub record Narrowed (low high : ℤ) (part : Part) (x y b : ℤ) : Type 0 where
  pub low_end : (x ≡ part.0.0) × IsFrom low high part.0.0
  pub high_end : (y ≡ part.0.1) × IsFrom low high part.0.1
  pub share : (b ≡ part.1) × IsFrom low high part.1
  pub some : pos 0 ≤ℤ part.1
  pub ordered : part.0.0 ≤ℤ part.0.1

-- a share that is not negative keeps the ends in order
lesser_product : {low high : ℤ} {part : Part} {x y b : ℤ} → Narrowed low high part x y b → int_min (b *ℤ x) (b *ℤ y) ≡ part.1 *ℤ part.0.0
lesser_product {low} {high} {part} {x} {y} {b} n =
    let m = scale-≤ part.1 part.0.0 part.0.1 n.some n.ordered in
    let e : int_min (part.1 *ℤ part.0.0) (part.1 *ℤ part.0.1) ≡ part.1 *ℤ part.0.0 = omega (arith, linear, clamps, m) in
    ap₂ (λ u v. int_min u v) (ap₂ (λ u v. u *ℤ v) n.share.0 n.low_end.0) (ap₂ (λ u v. u *ℤ v) n.share.0 n.high_end.0) ∙ e

greater_product : {low high : ℤ} {part : Part} {x y b : ℤ} → Narrowed low high part x y b → int_max (b *ℤ x) (b *ℤ y) ≡ part.1 *ℤ part.0.1
greater_product {low} {high} {part} {x} {y} {b} n =
    let m = scale-≤ part.1 part.0.0 part.0.1 n.some n.ordered in
    let e : int_max (part.1 *ℤ part.0.0) (part.1 *ℤ part.0.1) ≡ part.1 *ℤ part.0.1 = omega (arith, linear, clamps, m) in
    ap₂ (λ u v. int_max u v) (ap₂ (λ u v. u *ℤ v) n.share.0 n.low_end.0) (ap₂ (λ u v. u *ℤ v) n.share.0 n.high_end.0) ∙ e

-- the products are those of the part
pub record Product (low high : ℤ) (part : Part) (p q : ℤ) : Type 0 where
  pub fits : PartFits low high part
  pub low_is : p ≡ part.1 *ℤ part.0.0
  pub high_is : q ≡ part.1 *ℤ part.0.1

pub product_is : (low high : ℤ) (part : Part) (x y b p q : ℤ) → Narrowed low high part x y b
    → (p ≡ int_min (b *ℤ x) (b *ℤ y)) × (q ≡ int_max (b *ℤ x) (b *ℤ y)) × IsFrom low high (int_min (b *ℤ x) (b *ℤ y)) × IsFrom low high (int_max (b *ℤ x) (b *ℤ y)) → Product low high part p q
product_is low high part x y b p q n h = record {
  fits = record {
    low_end = n.low_end.1;
    high_end = n.high_end.1;
    share = n.share.1;
    low_product = subst (IsFrom low high) (lesser_product n) h.2;
    high_product = subst (IsFrom low high) (greater_product n) h.3;
  };
  low_is = h.0 ∙ lesser_product n;
  high_is = h.1 ∙ greater_product n;
}

pub product_past : (low high : ℤ) (sums : Sums) (part : Part) (x y b : ℤ) → Narrowed low high part x y b
    → (IsFrom low high (int_min (b *ℤ x) (b *ℤ y)) × IsFrom low high (int_max (b *ℤ x) (b *ℤ y)) → ⊥) → StepFits low high sums part → ⊥
product_past low high sums part x y b n past h =
    past (subst (IsFrom low high) (sym (lesser_product n)) h.part_fits.low_product, subst (IsFrom low high) (sym (greater_product n)) h.part_fits.high_product)

pub total_past : (low high : ℤ) (sums : Sums) (part : Part) (p q : ℤ) → Product low high part p q → (IsFrom low high (sums.low +ℤ p) × IsFrom low high (sums.high +ℤ q) → ⊥) → StepFits low high sums part → ⊥
total_past low high sums part p q h past fits = past (
  subst (λ z. IsFrom low high (sums.low +ℤ z)) (sym h.low_is) fits.low_sum,
  subst (λ z. IsFrom low high (sums.high +ℤ z)) (sym h.high_is) fits.high_sum,
)

pub weight_past : (low high : ℤ) (sums : Sums) (part : Part) (b : ℤ) → b ≡ part.1 → (IsFrom low high (sums.shares +ℤ b) → ⊥) → StepFits low high sums part → ⊥
weight_past low high sums part b e past fits = past (subst (λ z. IsFrom low high (sums.shares +ℤ z)) (sym e) fits.shares)

abbrev pub three_sums : ℤ → ℤ → ℤ → Sums
three_sums u v w = record { low = u; high = v; shares = w }

sums_are : (u v w : ℤ) (s : Sums) → u ≡ s.low → v ≡ s.high → w ≡ s.shares → three_sums u v w ≡ s
sums_are u v w s e f g = ap₂ (λ x y. three_sums x y w) e f ∙ ap (λ z. three_sums s.low s.high z) g

pub step_done : (low high : ℤ) (sums : Sums) (part : Part) (p q b u v w : ℤ) → Product low high part p q → b ≡ part.1
    → (u ≡ sums.low +ℤ p) × (v ≡ sums.high +ℤ q) × IsFrom low high (sums.low +ℤ p) × IsFrom low high (sums.high +ℤ q) → (w ≡ sums.shares +ℤ b) × IsFrom low high (sums.shares +ℤ b)
    → (three_sums u v w ≡ with_part sums part) × StepFits low high sums part
step_done low high sums part p q b u v w h e t k = (
  sums_are u v w (with_part sums part) (t.0 ∙ ap (λ z. sums.low +ℤ z) h.low_is) (t.1 ∙ ap (λ z. sums.high +ℤ z) h.high_is) (k.0 ∙ ap (λ z. sums.shares +ℤ z) e),
  record {
    part_fits = h.fits;
    low_sum = subst (λ z. IsFrom low high (sums.low +ℤ z)) h.low_is t.2;
    high_sum = subst (λ z. IsFrom low high (sums.high +ℤ z)) h.high_is t.3;
    shares = subst (λ z. IsFrom low high (sums.shares +ℤ z)) e k.1;
  },
)

-- ---- the sums, part by part

pub record SoFar (low high : ℤ) (parts : List Part) (place : ℕ) (sums : Sums) : Type 0 where
  pub low_is : sums.low ≡ low_sum (take place parts)
  pub high_is : sums.high ≡ high_sum (take place parts)
  pub shares_are : sums.shares ≡ share_sum (take place parts)
  pub each : All (PartFits low high) (take place parts)
  pub low_sums : (k : ℕ) → k ≤ place → IsFrom low high (low_sum (take k parts))
  pub high_sums : (k : ℕ) → k ≤ place → IsFrom low high (high_sum (take k parts))
  pub shares_fit : IsFrom low high sums.shares

pub none_yet : (low high : ℤ) (parts : List Part) (sums : Sums) → (sums ≡ no_sums) × IsFrom low high (pos 0) → SoFar low high parts 0 sums
none_yet low high parts sums h = subst (SoFar low high parts 0) (sym h.0) (record {
  low_is = refl;
  high_is = refl;
  shares_are = refl;
  each = All-nil (PartFits low high);
  low_sums = λ k l. subst (λ (i : ℕ). IsFrom low high (low_sum (take i parts))) (zero_is k l) h.1;
  high_sums = λ k l. subst (λ (i : ℕ). IsFrom low high (high_sum (take i parts))) (zero_is k l) h.1;
  shares_fit = h.1;
})
  where
    zero_is : (k : ℕ) → k ≤ 0 → 0 ≡ k
    zero_is k l = omega arith

-- the part at a place
pub record IsAt (parts : List Part) (i : ℕ) (d part : Part) : Type 0 where
  pub within : i < length parts
  pub is : get_or parts i d ≡ part

sum_step : (f : Part → ℤ) (parts : List Part) (i : ℕ) (d part : Part) (x : ℤ) → IsAt parts i d part → x ≡ sum_over f (take i parts) → x +ℤ f part ≡ sum_over f (take (i + 1) parts)
sum_step f parts i d part x here h = ap₂ (λ (u v : ℤ). u +ℤ v) h (ap f (sym here.is)) ∙ sym (sum_over-more f parts i d here.within)

sums_step : (f : Part → ℤ) (low high : ℤ) (parts : List Part) (i : ℕ) (after : ℤ) → ((k : ℕ) → k ≤ i → IsFrom low high (sum_over f (take k parts))) → after ≡ sum_over f (take (i + 1) parts) → IsFrom low high after
    → (k : ℕ) → k ≤ i + 1 → IsFrom low high (sum_over f (take k parts))
sums_step f low high parts i after h e fits k l = elim (cases_eq k (i + 1)) [
  | inl same ↦ subst (λ (j : ℕ). IsFrom low high (sum_over f (take j parts))) (sym same) (subst (IsFrom low high) e fits)
  | inr other ↦ h k (omega arith)
]

pub one_more : (low high : ℤ) (parts : List Part) (i : ℕ) (d part : Part) (sums after : Sums) → IsAt parts i d part → SoFar low high parts i sums
    → (after ≡ with_part sums part) × StepFits low high sums part → SoFar low high parts (i + 1) after
one_more low high parts i d part sums after here h step =
    let low_is = sum_step (λ z. z.1 *ℤ z.0.0) parts i d part sums.low here h.low_is in
    let high_is = sum_step (λ z. z.1 *ℤ z.0.1) parts i d part sums.high here h.high_is in
    subst (SoFar low high parts (i + 1)) (sym step.0) (record {
      low_is = low_is;
      high_is = high_is;
      shares_are = sum_step (λ z. z.1) parts i d part sums.shares here h.shares_are;
      each = All-more (PartFits low high) parts i d here.within h.each (subst (PartFits low high) (sym here.is) step.1.part_fits);
      low_sums = sums_step (λ z. z.1 *ℤ z.0.0) low high parts i (sums.low +ℤ part.1 *ℤ part.0.0) h.low_sums low_is step.1.low_sum;
      high_sums = sums_step (λ z. z.1 *ℤ z.0.1) low high parts i (sums.high +ℤ part.1 *ℤ part.0.1) h.high_sums high_is step.1.high_sum;
      shares_fit = step.1.shares;
    })

pub record AllSummed (low high : ℤ) (parts : List Part) (sums : Sums) : Type 0 where
  pub low_is : sums.low ≡ low_sum parts
  pub high_is : sums.high ≡ high_sum parts
  pub shares_are : sums.shares ≡ share_sum parts
  pub fits : SharedFits low high parts

pub all_summed : (low high : ℤ) (parts : List Part) (i : ℕ) (sums : Sums) → length parts ≤ i → SoFar low high parts i sums → AllSummed low high parts sums
all_summed low high parts i sums l h =
    let shares_are = h.shares_are ∙ ap share_sum (take_all i parts l) in
    record {
      low_is = h.low_is ∙ ap low_sum (take_all i parts l);
      high_is = h.high_is ∙ ap high_sum (take_all i parts l);
      shares_are = shares_are;
      fits = record {
        each = subst (All (PartFits low high)) (take_all i parts l) h.each;
        low_sums = λ k m. h.low_sums k (omega arith);
        high_sums = λ k m. h.high_sums k (omega arith);
        divisor = subst (IsFrom low high) shares_are h.shares_fit;
      };
    }

pub shared_is : {T : Type 0} (whole : T → ℤ) (low high : ℤ) (parts : List Part) (sums : Sums) (s : T × T) → AllSummed low high parts sums → whole s.0 ≡ floor_of sums.low sums.shares → whole s.1 ≡ ceil_of sums.high sums.shares
    → IsShared whole low high (Some s) parts
shared_is whole low high parts sums s h e f = (e ∙ ap₂ floor_of h.low_is h.shares_are, f ∙ ap₂ ceil_of h.high_is h.shares_are, h.fits)

-- ---- a number on the way that does not fit

-- 0 is the sum of no parts
pub zero_past : (low high : ℤ) (parts : List Part) → (IsFrom low high (pos 0) → ⊥) → SharedFits low high parts → ⊥
zero_past low high parts n h = n (h.low_sums 0 (omega arith))

pub step_past : (low high : ℤ) (parts : List Part) (i : ℕ) (d part : Part) (sums : Sums) → IsAt parts i d part → All (λ (z : Part). pos 0 ≤ℤ z.1) parts → SoFar low high parts i sums
    → (StepFits low high sums part → ⊥) → SharedFits low high parts → ⊥
step_past low high parts i d part sums here some so n h =
    let l = here.within in
    let shares_are = sum_step (λ z. z.1) parts i d part sums.shares here so.shares_are in
    let none_below = sum_over-nonnegative (λ (z : Part). z.1) (take (i + 1) parts) (All-take (λ (z : Part). pos 0 ≤ℤ z.1) (i + 1) parts some) in
    let taken = sum_over-take (λ (z : Part). z.1) parts (i + 1) some in
    let nothing = h.low_sums 0 (omega arith) in
    n (record {
      part_fits = subst (PartFits low high) here.is (All-get_or (PartFits low high) parts i d here.within h.each);
      low_sum = subst (IsFrom low high) (sym (sum_step (λ z. z.1 *ℤ z.0.0) parts i d part sums.low here so.low_is)) (h.low_sums (i + 1) (omega arith));
      high_sum = subst (IsFrom low high) (sym (sum_step (λ z. z.1 *ℤ z.0.1) parts i d part sums.high here so.high_is)) (h.high_sums (i + 1) (omega arith));
      shares = subst (IsFrom low high) (sym shares_are) (between (share_sum (take (i + 1) parts)) (share_sum parts) none_below taken nothing h.divisor);
    })
  where
    between : (z all : ℤ) → pos 0 ≤ℤ z → z ≤ℤ all → IsFrom low high (pos 0) → IsFrom low high all → IsFrom low high z
    between z all p q f g = record { above = omega (arith, linear, p, f.above); below = omega (arith, linear, q, g.below) }

-- ---- spans beside shares

pub zip_long : {X Y : Type 0} (xs : List X) (ys : List Y) → length xs ≡ length ys → length (zip xs ys) ≡ length xs
zip_long [] ys e = refl
zip_long (x ∷ xs) [] e = absurd (omega arith)
zip_long (x ∷ xs) (y ∷ ys) e = ap suc (zip_long xs ys (omega arith))

pub place_at : (spans : List (ℤ × ℤ)) (shares : List ℤ) (i : ℕ) (s : ℤ × ℤ) (b : ℤ) → i < length spans → length spans ≡ length shares → s ≡ get_or spans i s → b ≡ get_or shares i (pos 0)
    → IsAt (zip spans shares) i (s, pos 0) (s, b)
place_at spans shares i s b l same es eb =
    let e = zip_long spans shares same in
    record {
      within = omega (arith, e);
      is = get_or-zip spans shares i (s, pos 0) l (omega arith) ∙ ap₂ (λ (u : ℤ × ℤ) (v : ℤ). (u, v)) (sym es) (sym eb);
    }

pub parts_end : {X Y : Type 0} (xs : List X) (ys : List Y) (i : ℕ) → length xs ≡ length ys → length xs ≤ i → length (zip xs ys) ≤ i
parts_end xs ys i same l = let e = zip_long xs ys same in omega (arith, e)

pub zip_right : {X Y : Type 0} (Q : Y → Type 0) (xs : List X) (ys : List Y) → All Q ys → All (λ (z : X × Y). Q z.1) (zip xs ys)
zip_right {X} {Y} Q [] ys q = All-nil (λ (z : X × Y). Q z.1)
zip_right {X} {Y} Q (x ∷ xs) [] q = All-nil (λ (z : X × Y). Q z.1)
zip_right {X} {Y} Q (x ∷ xs) (y ∷ ys) q = All-cons (λ (z : X × Y). Q z.1) (x, y) (zip xs ys) (All-head Q y ys q) (zip_right Q xs ys (All-tail Q y ys q))

pub zip_shares : (spans : List (ℤ × ℤ)) (shares : List ℤ) → length spans ≡ length shares → share_sum (zip spans shares) ≡ sum_over (λ b. b) shares
zip_shares [] [] e = refl
zip_shares [] (b ∷ bs) e = absurd (omega arith)
zip_shares (s ∷ ss) [] e = absurd (omega arith)
zip_shares (s ∷ ss) (b ∷ bs) e = ap (λ z. b +ℤ z) (zip_shares ss bs (omega arith))

-- ---- sums that fit

-- the sums of spans within m, by shares that add up to t
pub sums_within : (m t : ℕ) (parts : List Part) → All (λ (z : Part). EndsWithin m z.0) parts → All (λ (z : Part). pos 0 ≤ℤ z.1) parts → share_sum parts ≡ pos t
    → (k : ℕ) → IsWithin (t * m) (low_sum (take k parts)) × IsWithin (t * m) (high_sum (take k parts))
sums_within m t parts ends some whole k =
    let taken = sum_over-take (λ (z : Part). z.1) parts k some in
    let few : share_sum (take k parts) ≤ℤ pos t = omega (arith, linear, taken, whole) in
    let none_below = All-take (λ (z : Part). pos 0 ≤ℤ z.1) k parts some in (
      sum_over-weighted (λ (z : Part). z.1) (λ z. z.0.0) m (take k parts) t none_below (All-take (λ (z : Part). IsWithin m z.0.0) k parts (λ i d l. (ends i d l).low)) few,
      sum_over-weighted (λ (z : Part). z.1) (λ z. z.0.1) m (take k parts) t none_below (All-take (λ (z : Part). IsWithin m z.0.1) k parts (λ i d l. (ends i d l).high)) few,
    )

share_at_most : (parts : List Part) → All (λ (z : Part). pos 0 ≤ℤ z.1) parts → All (λ (z : Part). z.1 ≤ℤ share_sum parts) parts
share_at_most parts h = λ k d l. at_most parts k d h l
  where
    at_most : (zs : List Part) (k : ℕ) (d : Part) → All (λ (z : Part). pos 0 ≤ℤ z.1) zs → k < length zs → (get_or zs k d).1 ≤ℤ share_sum zs
    at_most [] k d h l = absurd (omega arith)
    at_most (z ∷ zs) zero d h l = let rest = sum_over-nonnegative (λ (y : Part). y.1) zs (All-tail (λ (y : Part). pos 0 ≤ℤ y.1) z zs h) in omega (arith, linear, rest)
    at_most (z ∷ zs) (suc k) d h l =
        let rest = at_most zs k d (All-tail (λ (y : Part). pos 0 ≤ℤ y.1) z zs h) (omega arith) in
        let first = All-head (λ (y : Part). pos 0 ≤ℤ y.1) z zs h in
        omega (arith, linear, rest, first)

is_from : (n : ℕ) (low high z : ℤ) → low ≤ℤ neg_ℤ (pos n) → pos n ≤ℤ high → IsWithin n z → IsFrom low high z
is_from n low high z l u h = record { above = omega (arith, linear, l, h.low); below = omega (arith, linear, u, h.high) }

-- a type that holds every number within m, t and t·m
pub record Holds (m t : ℕ) (low high : ℤ) : Type 0 where
  pub low_end : low ≤ℤ neg_ℤ (pos m)
  pub high_end : pos m ≤ℤ high
  pub low_share : low ≤ℤ neg_ℤ (pos t)
  pub high_share : pos t ≤ℤ high
  pub low_product : low ≤ℤ neg_ℤ (pos (t * m))
  pub high_product : pos (t * m) ≤ℤ high

pub within_fits : (m t : ℕ) (low high : ℤ) (parts : List Part) → Holds m t low high → All (λ (z : Part). EndsWithin m z.0) parts → All (λ (z : Part). pos 0 ≤ℤ z.1) parts → share_sum parts ≡ pos t
    → SharedFits low high parts
within_fits m t low high parts holds ends some whole = record {
  each = λ k d l. part (get_or parts k d) (ends k d l) (some k d l) (share_at_most parts some k d l);
  low_sums = λ k l. is_from (t * m) low high (low_sum (take k parts)) holds.low_product holds.high_product (sums_within m t parts ends some whole k).0;
  high_sums = λ k l. is_from (t * m) low high (high_sum (take k parts)) holds.low_product holds.high_product (sums_within m t parts ends some whole k).1;
  divisor = is_from t low high (share_sum parts) holds.low_share holds.high_share (record { low = omega (arith, linear, whole); high = omega (arith, linear, whole) });
}
  where
    part : (z : Part) → EndsWithin m z.0 → pos 0 ≤ℤ z.1 → z.1 ≤ℤ share_sum parts → PartFits low high z
    part z e p q =
        let size : IsWithin t z.1 = record { low = omega (arith, linear, p); high = omega (arith, linear, q, whole) } in
        record {
          low_end = is_from m low high z.0.0 holds.low_end holds.high_end e.low;
          high_end = is_from m low high z.0.1 holds.low_end holds.high_end e.high;
          share = is_from t low high z.1 holds.low_share holds.high_share size;
          low_product = is_from (t * m) low high (z.1 *ℤ z.0.0) holds.low_product holds.high_product (within_times t m z.1 z.0.0 size e.low);
          high_product = is_from (t * m) low high (z.1 *ℤ z.0.1) holds.low_product holds.high_product (within_times t m z.1 z.0.1 size e.high);
        }

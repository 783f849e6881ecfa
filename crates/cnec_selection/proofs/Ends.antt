-- The greatest and the least ends of the first spans of a list.
use Rattle.std.proofs.Common.{◌≡◌, ℕ, ◌+◌, ◌<◌, ◌≤◌, ℤ, pos, List, [], ◌∷◌, length, map, take, get_or, refl, sym, subst, ap, ap₂, ◌∙◌, arith, take_all}
use Rattle.std.specs.Prelude.{Option, None, MatchOption}
use Rattle.std.specs.Int.{int_max, int_min}
use Rattle.std.specs.List.{All, fold}
use Rattle.std.proofs.lemmas.Int.{clamps}
use Rattle.std.proofs.lemmas.List.Elements.{All-more}
use Rattle.std.proofs.lemmas.List.Sums.{fold_more}
use Rattle.whole_laws.specs.Ring.{linear}
use Rattle.fractions.specs.Spans.{low_end, high_end}
use Rattle.fb_span.specs.Exact.{IsFrom}
use Rattle.cnec_selection.specs.SpreadSpans.{greatest_whole, least_whole}
use Rattle.fb_span.specs.Ends.{EndsFrom}
use Rattle.cnec_selection.specs.FittingSpreads.{AreExtremes}

-- an end of the first span
abbrev pub first_of : (ℤ × ℤ → ℤ) → List (ℤ × ℤ) → ℤ
first_of f spans = f (get_or spans 0 (pos 0, pos 0))

abbrev greatest_so_far : (ℤ × ℤ → ℤ) → List (ℤ × ℤ) → ℕ → ℤ
greatest_so_far f spans i = fold (λ z s. int_max z (f s)) (first_of f spans) (take i spans)

abbrev least_so_far : (ℤ × ℤ → ℤ) → List (ℤ × ℤ) → ℕ → ℤ
least_so_far f spans i = fold (λ z s. int_min z (f s)) (first_of f spans) (take i spans)

-- what the loop keeps after i spans
pub record AreExtremesSoFar {T : Type 0} (whole : T → ℤ) (low high : ℤ) (spans : List (ℤ × ℤ)) (i : ℕ) (greatest least : T × T) : Type 0 where
  pub ends : All (EndsFrom low high) (take i spans)
  pub greatest_low : whole greatest.0 ≡ greatest_so_far low_end spans i
  pub greatest_high : whole greatest.1 ≡ greatest_so_far high_end spans i
  pub least_low : whole least.0 ≡ least_so_far low_end spans i
  pub least_high : whole least.1 ≡ least_so_far high_end spans i

more : (f : ℤ → ℤ → ℤ) (g : ℤ × ℤ → ℤ) (a : ℤ) (spans : List (ℤ × ℤ)) (i : ℕ) (d : ℤ × ℤ) (x y z : ℤ) → i < length spans
    → x ≡ fold (λ z s. f z (g s)) a (take i spans) → y ≡ g (get_or spans i d) → z ≡ f x y → z ≡ fold (λ z s. f z (g s)) a (take (i + 1) spans)
more f g a spans i d x y z l ex ey ez = ez ∙ ap₂ f ex ey ∙ sym (fold_more (λ z s. f z (g s)) a spans i d l)

-- what the greater and the lesser ends of two spans are
pub record AreClamped {T : Type 0} (whole : T → ℤ) (f : ℤ → ℤ → ℤ) (a b s : T × T) : Type 0 where
  pub low : whole s.0 ≡ f (whole a.0) (whole b.0)
  pub high : whole s.1 ≡ f (whole a.1) (whole b.1)

pub extremes_step : {T : Type 0} (whole : T → ℤ) (low high : ℤ) (spans : List (ℤ × ℤ)) (i : ℕ) (d : ℤ × ℤ) (greatest least s g l : T × T) → i < length spans → d ≡ get_or spans i d
    → AreExtremesSoFar whole low high spans i greatest least → (whole s.0 ≡ d.0) × (whole s.1 ≡ d.1) × IsFrom low high d.0 × IsFrom low high d.1
    → AreClamped whole int_max greatest s g → AreClamped whole int_min least s l → AreExtremesSoFar whole low high spans (i + 1) g l
extremes_step whole low high spans i d greatest least s g l lt at h narrow above below =
    let low_is = narrow.0 ∙ ap low_end at in
    let high_is = narrow.1 ∙ ap high_end at in
    record {
      ends = All-more (EndsFrom low high) spans i d lt h.ends (subst (EndsFrom low high) at (record { low = narrow.2; high = narrow.3 }));
      greatest_low = more int_max low_end _ spans i d _ _ _ lt h.greatest_low low_is above.low;
      greatest_high = more int_max high_end _ spans i d _ _ _ lt h.greatest_high high_is above.high;
      least_low = more int_min low_end _ spans i d _ _ _ lt h.least_low low_is below.low;
      least_high = more int_min high_end _ spans i d _ _ _ lt h.least_high high_is below.high;
    }

-- ---- all spans
through : (f : ℤ → ℤ → ℤ) (g : ℤ × ℤ → ℤ) (a : ℤ) (spans : List (ℤ × ℤ)) → fold (λ z s. f z (g s)) a spans ≡ fold f a (map g spans)
through f g a [] = refl
through f g a (s ∷ ss) = through f g (f a (g s)) ss

greatest_twice : (a : ℤ) → int_max a a ≡ a
greatest_twice a = omega (arith, linear, clamps)

least_twice : (a : ℤ) → int_min a a ≡ a
least_twice a = omega (arith, linear, clamps)

greatest_all : (f : ℤ × ℤ → ℤ) (spans : List (ℤ × ℤ)) (i : ℕ) → 0 < length spans → length spans ≤ i → greatest_so_far f spans i ≡ greatest_whole (map f spans)
greatest_all f [] i l h = absurd (omega arith)
greatest_all f (s ∷ ss) i l h = ap (λ ts. fold (λ z t. int_max z (f t)) (f s) ts) (take_all i (s ∷ ss) h) ∙ through int_max f (int_max (f s) (f s)) ss ∙ ap (λ z. fold int_max z (map f ss)) (greatest_twice (f s))

least_all : (f : ℤ × ℤ → ℤ) (spans : List (ℤ × ℤ)) (i : ℕ) → 0 < length spans → length spans ≤ i → least_so_far f spans i ≡ least_whole (map f spans)
least_all f [] i l h = absurd (omega arith)
least_all f (s ∷ ss) i l h = ap (λ ts. fold (λ z t. int_min z (f t)) (f s) ts) (take_all i (s ∷ ss) h) ∙ through int_min f (int_min (f s) (f s)) ss ∙ ap (λ z. fold int_min z (map f ss)) (least_twice (f s))

pub extremes_all : {T : Type 0} (whole : T → ℤ) (low high : ℤ) (spans : List (ℤ × ℤ)) (i : ℕ) (greatest least : T × T) → 0 < length spans → length spans ≤ i
    → AreExtremesSoFar whole low high spans i greatest least → AreExtremes whole low high spans greatest least
extremes_all whole low high spans i greatest least some l h = record {
  ends = rw (take_all i spans l) at h.ends;
  greatest_low = h.greatest_low ∙ greatest_all low_end spans i some l;
  greatest_high = h.greatest_high ∙ greatest_all high_end spans i some l;
  least_low = h.least_low ∙ least_all low_end spans i some l;
  least_high = h.least_high ∙ least_all high_end spans i some l;
}

-- a span with an end that does not fit
pub end_past : (low high : ℤ) (spans : List (ℤ × ℤ)) (i : ℕ) (s : ℤ × ℤ) → i < length spans → s ≡ get_or spans i s → (IsFrom low high s.0 × IsFrom low high s.1 → ⊥) → All (EndsFrom low high) spans → ⊥
end_past low high spans i s l e n h = let fits = subst (EndsFrom low high) (sym e) (h i s l) in n (fits.low, fits.high)

pub by_none : {E : Type 0} (P : Type 0) (Q : E → Type 0) (r : Option E) → r ≡ None → P → MatchOption r P Q
by_none P Q r e p = subst (λ o. MatchOption o P Q) (sym e) p

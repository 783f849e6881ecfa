-- Laws, which are proved: nobody need believe them.
-- The greatest and the least of a list of fractions are what they are called, and lie in the spans of the greatest and
-- the least ends.
use Rattle.std.proofs.Common.{◌≡◌, suc, ℤ, pos, ◌<ℤ◌, List, [], ◌∷◌, map, ◌⊎◌, inl, inr, ⊎_elim, refl, sym, ◌∙◌, arith}
use Rattle.std.specs.Int.{int_max, int_min}
use Rattle.std.specs.List.{All, AllZip, Contains, fold}
use Rattle.std.proofs.lemmas.List.Elements.{All-cons, All-nil}
use Rattle.fractions.specs.Fractions.{Fraction, AtMost, times, maximum, minimum}
use Rattle.fractions.specs.FractionLaws.{Same_sym, AtMost_refl, AtMost_trans, maximum_one, maximum_left, maximum_right, minimum_one, minimum_left, minimum_right, times-maximum, times-minimum}
use Rattle.fractions.specs.Greatest.{greatest_of, least_of, IsGreatest, IsLeast}
use Rattle.fractions.specs.Spans.{Lies, LiesAt, low_end, high_end}
use Rattle.fractions.specs.SpanLaws.{Lies-Same, Lies-maximum, Lies-minimum}

-- ---- the first of a list is in it, and so is what is in the rest
contains_first : {A : Type 0} (x y : A) (xs : List A) → y ≡ x → Contains (x ∷ xs) y
contains_first x y xs e = (0, omega arith, sym e)

contains_later : {A : Type 0} (x y : A) (xs : List A) → Contains xs y → Contains (x ∷ xs) y
contains_later x y xs h = (suc h.0, omega (arith, h.1), h.2)

-- ---- the greatest
greatest_one : (p : Fraction) (ps : List Fraction) → (fold maximum p ps ≡ p) ⊎ Contains ps (fold maximum p ps)
greatest_one p [] = inl refl
greatest_one p (q ∷ qs) = ⊎_elim
    (λ e. ⊎_elim (λ f. inl (e ∙ f)) (λ f. inr (contains_first q (fold maximum (maximum p q) qs) qs (e ∙ f))) (maximum_one p q))
    (λ h. inr (contains_later q (fold maximum (maximum p q) qs) qs h)) (greatest_one (maximum p q) qs)

greatest_first : (p : Fraction) (ps : List Fraction) → AtMost p (fold maximum p ps)
greatest_first p [] = AtMost_refl p
greatest_first p (q ∷ qs) = AtMost_trans (maximum_left p q) (greatest_first (maximum p q) qs)

greatest_later : (p : Fraction) (ps : List Fraction) → All (λ q. AtMost q (fold maximum p ps)) ps
greatest_later p [] = All-nil (λ q. AtMost q p)
greatest_later p (q ∷ qs) = All-cons (λ r. AtMost r (fold maximum (maximum p q) qs)) q qs (AtMost_trans (maximum_right p q) (greatest_first (maximum p q) qs)) (greatest_later (maximum p q) qs)

pub greatest_is : (p : Fraction) (ps : List Fraction) → IsGreatest (p ∷ ps) (greatest_of (p ∷ ps))
greatest_is p ps = record {
  member = ⊎_elim (λ e. contains_first p (fold maximum p ps) ps e) (λ h. contains_later p (fold maximum p ps) ps h) (greatest_one p ps);
  bound = All-cons (λ r. AtMost r (fold maximum p ps)) p ps (greatest_first p ps) (greatest_later p ps);
}

-- ---- the least
least_one : (p : Fraction) (ps : List Fraction) → (fold minimum p ps ≡ p) ⊎ Contains ps (fold minimum p ps)
least_one p [] = inl refl
least_one p (q ∷ qs) = ⊎_elim
    (λ e. ⊎_elim (λ f. inl (e ∙ f)) (λ f. inr (contains_first q (fold minimum (minimum p q) qs) qs (e ∙ f))) (minimum_one p q))
    (λ h. inr (contains_later q (fold minimum (minimum p q) qs) qs h)) (least_one (minimum p q) qs)

least_first : (p : Fraction) (ps : List Fraction) → AtMost (fold minimum p ps) p
least_first p [] = AtMost_refl p
least_first p (q ∷ qs) = AtMost_trans (least_first (minimum p q) qs) (minimum_left p q)

least_later : (p : Fraction) (ps : List Fraction) → All (λ q. AtMost (fold minimum p ps) q) ps
least_later p [] = All-nil (λ q. AtMost p q)
least_later p (q ∷ qs) = All-cons (λ r. AtMost (fold minimum (minimum p q) qs) r) q qs (AtMost_trans (least_first (minimum p q) qs) (minimum_right p q)) (least_later (minimum p q) qs)

pub least_is : (p : Fraction) (ps : List Fraction) → IsLeast (p ∷ ps) (least_of (p ∷ ps))
least_is p ps = record {
  member = ⊎_elim (λ e. contains_first p (fold minimum p ps) ps e) (λ h. contains_later p (fold minimum p ps) ps h) (least_one p ps);
  bound = All-cons (λ r. AtMost (fold minimum p ps) r) p ps (least_first p ps) (least_later p ps);
}

-- ---- their spans
pub Lies-greatest : (unit : ℤ) → pos 0 <ℤ unit → (a b : ℤ) (ss : List (ℤ × ℤ)) (p : Fraction) (ps : List Fraction) → Lies (times unit p) a b → AllZip (LiesAt unit) ss ps
    → Lies (times unit (fold maximum p ps)) (fold int_max a (map low_end ss)) (fold int_max b (map high_end ss))
Lies-greatest unit u a b [] p [] h k = h
Lies-greatest unit u a b (s ∷ ss) p (q ∷ qs) h k = Lies-greatest unit u (int_max a s.0) (int_max b s.1) ss (maximum p q) qs
    (Lies-Same (Same_sym (times-maximum unit u p q)) (Lies-maximum a b s.0 s.1 h k.0)) k.1
Lies-greatest unit u a b [] p (q ∷ qs) h k = absurd k
Lies-greatest unit u a b (s ∷ ss) p [] h k = absurd k

pub Lies-least : (unit : ℤ) → pos 0 <ℤ unit → (a b : ℤ) (ss : List (ℤ × ℤ)) (p : Fraction) (ps : List Fraction) → Lies (times unit p) a b → AllZip (LiesAt unit) ss ps
    → Lies (times unit (fold minimum p ps)) (fold int_min a (map low_end ss)) (fold int_min b (map high_end ss))
Lies-least unit u a b [] p [] h k = h
Lies-least unit u a b (s ∷ ss) p (q ∷ qs) h k = Lies-least unit u (int_min a s.0) (int_min b s.1) ss (minimum p q) qs
    (Lies-Same (Same_sym (times-minimum unit u p q)) (Lies-minimum a b s.0 s.1 h k.0)) k.1
Lies-least unit u a b [] p (q ∷ qs) h k = absurd k
Lies-least unit u a b (s ∷ ss) p [] h k = absurd k

-- The span of the margin holds the margin, and is in order.
use Rattle.std.proofs.Common.{◌≡◌, ◌≤◌, ◌<◌, ◌^◌, ℕ, ℤ, pos, ◌+ℤ◌, ◌-ℤ◌, ◌*ℤ◌, ◌≤ℤ◌, sym, ap, ap₂, ◌∙◌, subst, subst₂, lit<, arith}
use mir.Syntax.{w64, w128}
use mir.Val.{SFits, to_z, of_z}
use Rattle.std.specs.Int.{int_max}
use Rattle.std.proofs.lemmas.Int.{ints, clamps, to_z-of_z}
use Rattle.whole_laws.specs.Ring.{ring, linear}
use Rattle.whole_laws.specs.Sums.{IsWithin}
use Rattle.whole_laws.specs.SumLaws.{within_times}
use Rattle.fractions.specs.Fractions.{Fraction, whole, minus, times, over, maximum, Same}
use Rattle.fractions.specs.FractionLaws.{Same_refl, Same_sym, Same_trans, Same-minus, Same-maximum, Same-times, times-minus, times-maximum, minus-whole}
use Rattle.fractions.specs.Spans.{Lies}
use Rattle.fractions.specs.SpanLaws.{Lies-Same, Lies-whole, Lies-minus, Lies-maximum}
use Rattle.security.specs.Margins.{ElementNumbers, room_of, minimum_of, fifth_of, ram_of}
use Rattle.security.specs.ShorterForms.{shortened_ram_of}
use Rattle.security.proofs.MarginLaws.{ram-shortened}
use Rattle.ram_formulas.specs.MarginSpans.{picowatts, margin_at, HoldsMargin}

-- ---- a number as 128 bits hold it
abbrev pub held : ℤ → ℤ
held z = to_z w128 (of_z w128 z)

pub fits_held : (n : ℕ) (z : ℤ) → n < 2 ^ 127 → IsWithin n z → SFits w128 z
fits_held n z l h = omega (arith, ints, h.low, h.high)

pub held_is : (n : ℕ) (z : ℤ) → n < 2 ^ 127 → IsWithin n z → held z ≡ z
held_is n z l h = to_z-of_z w128 z (fits_held n z l h)

-- a share of the limit
pub share_within : (n : ℕ) (limit f g : ℤ) → n ≤ 1000 → IsWithin 100_000_000_000 limit → SFits w64 limit → f ≡ pos n → g ≡ to_z w64 (of_z w64 limit)
    → IsWithin 100_000_000_000_000 (held (held f *ℤ held g))
share_within n limit f g h k fits ef eg =
    subst (IsWithin 100_000_000_000_000) (sym (ap held (ap₂ ◌*ℤ◌ is_share is_limit) ∙ held_is 100_000_000_000_000 (pos n *ℤ limit) (lit< tt) all)) all
  where
    few : IsWithin 1000 (pos n)
    few = record { low = omega (arith, ints); high = omega (arith, ints) }

    all : IsWithin 100_000_000_000_000 (pos n *ℤ limit)
    all = within_times 1000 100_000_000_000 (pos n) limit few k

    is_share : held f ≡ pos n
    is_share = ap held ef ∙ held_is 1000 (pos n) (lit< tt) few

    is_limit : held g ≡ limit
    is_limit = ap held (eg ∙ to_z-of_z w64 limit fits) ∙ held_is 100_000_000_000 limit (lit< tt) k

-- the greatest of three numbers less a fourth, as the code computes it
pub record Computed (s f r v m : ℤ) : Type 0 where
  pub fits : SFits w128 (held m -ℤ held v)
  pub value : held (held m -ℤ held v) ≡ int_max (int_max s f) r -ℤ v
  pub within : IsWithin 5_000_000_000_000_000_000_000_000 (held (held m -ℤ held v))

pub computed : (s f r v l m : ℤ) → IsWithin 1_100_000_000_000_000_000_000_000 s → IsWithin 20_000_000_000_000_000_000_000 f → IsWithin 4_200_000_000_000_000_000_000_000 r → IsWithin 200_000_000_000_000_000_000_000 v
    → l ≡ int_max (held s) (held f) → m ≡ int_max (held l) (held r) → Computed s f r v m
computed s f r v l m ws wf wr wv el em = record {
  fits = rw (m_is, v_is) (fits_held 5_000_000_000_000_000_000_000_000 (greatest -ℤ v) (lit< tt) rest);
  value = ap₂ (λ x y. held (x -ℤ y)) m_is v_is ∙ rest_is;
  within = subst (IsWithin 5_000_000_000_000_000_000_000_000) (sym (ap₂ (λ x y. held (x -ℤ y)) m_is v_is ∙ rest_is)) rest;
}
  where
    greatest : ℤ
    greatest = int_max (int_max s f) r

    first : IsWithin 1_100_000_000_000_000_000_000_000 (int_max s f)
    first = record { low = omega (arith, ints, clamps, ws.low, wf.low); high = omega (arith, ints, clamps, ws.high, wf.high) }

    second : IsWithin 4_200_000_000_000_000_000_000_000 greatest
    second = record { low = omega (arith, ints, clamps, wr.low, wr.high, first.low, first.high); high = omega (arith, ints, clamps, wr.low, wr.high, first.low, first.high) }

    l_is : held l ≡ int_max s f
    l_is = ap held (el ∙ ap₂ int_max (held_is 1_100_000_000_000_000_000_000_000 s (lit< tt) ws) (held_is 20_000_000_000_000_000_000_000 f (lit< tt) wf)) ∙ held_is 1_100_000_000_000_000_000_000_000 (int_max s f) (lit< tt) first

    m_is : held m ≡ greatest
    m_is = ap held (em ∙ ap₂ int_max l_is (held_is 4_200_000_000_000_000_000_000_000 r (lit< tt) wr)) ∙ held_is 4_200_000_000_000_000_000_000_000 greatest (lit< tt) second

    v_is : held v ≡ v
    v_is = held_is 200_000_000_000_000_000_000_000 v (lit< tt) wv

    difference : (g : ℤ) → IsWithin 4_200_000_000_000_000_000_000_000 g → IsWithin 5_000_000_000_000_000_000_000_000 (g -ℤ v)
    difference g wg = record { low = omega (arith, ints, wg.low, wv.high); high = omega (arith, ints, wg.high, wv.low) }

    rest : IsWithin 5_000_000_000_000_000_000_000_000 (greatest -ℤ v)
    rest = difference greatest second

    rest_is : held (greatest -ℤ v) ≡ greatest -ℤ v
    rest_is = held_is 5_000_000_000_000_000_000_000_000 (greatest -ℤ v) (lit< tt) rest

-- the margin falls as F0,Core and Fuaf rise
pub margin_falls : (e : ElementNumbers) (a b c d : ℤ) → a ≤ℤ b → c ≤ℤ d → margin_at e b d ≤ℤ margin_at e a c
margin_falls e a b c d h k = step ((e.minimum_share *ℤ e.limit) *ℤ pos 1_000_000_000) (e.limit *ℤ pos 200_000_000_000) ((e.limit -ℤ e.reliability_margin) *ℤ picowatts) ((e.coordinated +ℤ e.individual) *ℤ picowatts)
  where
    step : (s f m v : ℤ) → (int_max (int_max (s -ℤ d) f) (m -ℤ b) -ℤ v) ≤ℤ (int_max (int_max (s -ℤ c) f) (m -ℤ a) -ℤ v)
    step s f m v = omega (arith, linear, clamps)

-- ---- the shortened margin in picowatts, term by term
whole_in : (z : ℤ) → Same (times picowatts (whole z)) (whole (z *ℤ picowatts))
whole_in z = record { same = step picowatts }
  where
    step : (u : ℤ) → (u *ℤ z) *ℤ pos 1 ≡ (z *ℤ u) *ℤ pos 1
    step u = simp ring

less_in : (p : Fraction) (z : ℤ) (q : Fraction) → Same (times picowatts p) (whole z) → Same (times picowatts (minus p q)) (minus (whole z) (times picowatts q))
less_in p z q e = Same_trans (times-minus picowatts p q) (Same-minus e (Same_refl (times picowatts q)))

share_in : (z : ℤ) → Same (times picowatts (over (whole z) (pos 1000) (record { lt = tt }))) (whole (z *ℤ pos 1_000_000_000))
share_in z = record { same = omega (arith, ints) }

fifth_in : (z : ℤ) → Same (times picowatts (over (whole (pos 2 *ℤ z)) (pos 10) (record { lt = tt }))) (whole (z *ℤ pos 200_000_000_000))
fifth_in z = record { same = omega (arith, ints) }

room_in : (a b : ℤ) (f0 : Fraction) → Same (times picowatts (minus (minus (whole a) (whole b)) f0)) (minus (whole ((a -ℤ b) *ℤ picowatts)) (times picowatts f0))
room_in a b f0 = less_in (minus (whole a) (whole b)) ((a -ℤ b) *ℤ picowatts) f0 (Same_trans (Same-times picowatts (minus-whole a b)) (whole_in (a -ℤ b)))

shortened_in : (e : ElementNumbers) (f0 external : Fraction) → Same (times picowatts (shortened_ram_of e f0 external))
    (minus
    (maximum
    (maximum (minus (whole ((e.minimum_share *ℤ e.limit) *ℤ pos 1_000_000_000)) (times picowatts external)) (whole (e.limit *ℤ pos 200_000_000_000)))
    (minus (whole ((e.limit -ℤ e.reliability_margin) *ℤ picowatts)) (times picowatts f0)))
    (whole ((e.coordinated +ℤ e.individual) *ℤ picowatts)))
shortened_in e f0 external =
    Same_trans (times-minus picowatts (maximum (maximum (minus (minimum_of e) external) (fifth_of e)) (room_of e f0)) (whole (e.coordinated +ℤ e.individual)))
    (Same-minus
    (Same_trans (times-maximum picowatts (record { lt = tt }) (maximum (minus (minimum_of e) external) (fifth_of e)) (room_of e f0))
    (Same-maximum
    (Same_trans (times-maximum picowatts (record { lt = tt }) (minus (minimum_of e) external) (fifth_of e))
    (Same-maximum (less_in (minimum_of e) ((e.minimum_share *ℤ e.limit) *ℤ pos 1_000_000_000) external (share_in (e.minimum_share *ℤ e.limit))) (fifth_in e.limit)))
    (room_in e.limit e.reliability_margin f0)))
    (whole_in (e.coordinated +ℤ e.individual)))

-- the margin lies between its ends
pub margin_held : (e : ElementNumbers) (f0core fuaf margin : ℤ × ℤ) → margin.0 ≡ margin_at e f0core.1 fuaf.1 → margin.1 ≡ margin_at e f0core.0 fuaf.0 → HoldsMargin e f0core fuaf margin
margin_held e f0core fuaf margin low high = λ f0 external h k.
    subst₂ (λ (x y : ℤ). Lies (times picowatts (ram_of e f0 external)) x y) (sym low) (sym high)
    (Lies-Same (Same_sym (Same_trans (Same-times picowatts (ram-shortened e f0 external)) (shortened_in e f0 external)))
    (Lies-minus _ _ _ _
    (Lies-maximum _ _ _ _
    (Lies-maximum _ _ _ _ (Lies-minus _ _ _ _ (one ((e.minimum_share *ℤ e.limit) *ℤ pos 1_000_000_000)) k) (one (e.limit *ℤ pos 200_000_000_000)))
    (Lies-minus _ _ _ _ (one ((e.limit -ℤ e.reliability_margin) *ℤ picowatts)) h))
    (one ((e.coordinated +ℤ e.individual) *ℤ picowatts))))
  where
    one : (z : ℤ) → Lies (whole z) z z
    one z = Lies-whole z z z (omega (arith, linear)) (omega (arith, linear))

-- The spans hold the exact flows.
use Rattle.std.proofs.Common.{◌≡◌, ℤ, pos, ◌+ℤ◌, ◌*ℤ◌, List, [], ◌∷◌, map, Bool, true, false, not, cond, sym, ap, ap₂, subst, ◌∙◌, arith}
use Rattle.std.specs.Int.Signed.{≤ℤ_refl}
use Rattle.std.specs.List.{filter}
use Rattle.std.proofs.lemmas.Int.{clamps}
use Rattle.whole_laws.specs.Ring.{ring, linear}
use Rattle.fractions.specs.Fractions.{Fraction, whole, plus, minus, times}
use Rattle.fractions.specs.FractionLaws.{Same_sym, Same-times, times-plus, times-minus, times_left_comm}
use Rattle.fractions.specs.Spans.{LiesAt, EachLiesAt}
use Rattle.fractions.specs.SpanLaws.{Lies-Same, Lies_wider, Lies-whole, Lies-plus, Lies-minus, Lies-scale}
use Rattle.security.specs.Exchanges.{ZoneOfRow, exchanged_of, without_core_of, without_any_of, external_of}
use Rattle.security.specs.ShorterForms.{outside_of}
use Rattle.security.proofs.ExchangeLaws.{external-outside}
use Rattle.reference_flows.specs.WithoutExchanges.{trillion, least_exchange, greatest_exchange, exchanges_span, counted_of, counted_positions, less_exchanges, HoldsWithoutCore, HoldsWithoutAny, HoldsExternal}

-- one zone
one_zone : (s : ℤ × ℤ) (z : ZoneOfRow) → LiesAt trillion s z.factor → LiesAt trillion (least_exchange (s, z.position), greatest_exchange (s, z.position)) (times z.position z.factor)
one_zone s z h = Lies-Same (times_left_comm z.position trillion z.factor) (Lies-scale z.position s.0 s.1 h)

next_zone : (s : ℤ × ℤ) (z : ZoneOfRow) (rest : Fraction) (low high : ℤ) → LiesAt trillion s z.factor → LiesAt trillion (low, high) rest
    → LiesAt trillion (least_exchange (s, z.position) +ℤ low, greatest_exchange (s, z.position) +ℤ high) (plus (times z.position z.factor) rest)
next_zone s z rest low high h k = Lies-Same (Same_sym (times-plus trillion (times z.position z.factor) rest)) (Lies-plus _ _ _ _ (one_zone s z h) k)

-- a zone that does not count
no_zone : (s : ℤ × ℤ) (rest : Fraction) (low high : ℤ) → LiesAt trillion (low, high) rest → LiesAt trillion (least_exchange (s, pos 0) +ℤ low, greatest_exchange (s, pos 0) +ℤ high) rest
no_zone s rest low high h =
    let e = zero_times s.0 in
    let f = zero_times s.1 in
    Lies_wider low high _ _ (omega (arith, linear, clamps, e, f)) (omega (arith, linear, clamps, e, f)) h
  where
    zero_times : (z : ℤ) → pos 0 *ℤ z ≡ pos 0
    zero_times z = simp ring

nothing : LiesAt trillion (pos 0, pos 0) (whole (pos 0))
nothing = Lies-whole (pos 0) (pos 0) (pos 0) (≤ℤ_refl (pos 0)) (≤ℤ_refl (pos 0))

all_lie : (ss : List (ℤ × ℤ)) (zones : List ZoneOfRow) → EachLiesAt trillion ss (map (λ z. z.factor) zones)
    → LiesAt trillion (exchanges_span ss (map (λ z. z.position) zones)) (exchanged_of zones)
all_lie [] [] h = nothing
all_lie [] (z ∷ zones) h = absurd h
all_lie (s ∷ ss) [] h = absurd h
all_lie (s ∷ ss) (z ∷ zones) h = next_zone s z (exchanged_of zones) _ _ h.0 (all_lie ss zones h.1)

core_zone : (s : ℤ × ℤ) (z : ZoneOfRow) (core : Bool) (rest : List ZoneOfRow) (low high : ℤ) → LiesAt trillion s z.factor → LiesAt trillion (low, high) (exchanged_of rest)
    → LiesAt trillion (least_exchange (s, counted_of true z.position core) +ℤ low, greatest_exchange (s, counted_of true z.position core) +ℤ high) (exchanged_of (cond core (z ∷ rest) rest))
core_zone s z true rest low high h k = next_zone s z (exchanged_of rest) low high h k
core_zone s z false rest low high h k = no_zone s (exchanged_of rest) low high k

core_lie : (ss : List (ℤ × ℤ)) (zones : List ZoneOfRow) → EachLiesAt trillion ss (map (λ z. z.factor) zones)
    → LiesAt trillion (exchanges_span ss (counted_positions true (map (λ z. z.position) zones) (map (λ z. z.is_core) zones))) (exchanged_of (filter (λ z. z.is_core) zones))
core_lie [] [] h = nothing
core_lie [] (z ∷ zones) h = absurd h
core_lie (s ∷ ss) [] h = absurd h
core_lie (s ∷ ss) (z ∷ zones) h = core_zone s z z.is_core (filter (λ z. z.is_core) zones) _ _ h.0 (core_lie ss zones h.1)

outside_zone : (s : ℤ × ℤ) (z : ZoneOfRow) (core : Bool) (rest : List ZoneOfRow) (low high : ℤ) → LiesAt trillion s z.factor → LiesAt trillion (low, high) (exchanged_of rest)
    → LiesAt trillion (least_exchange (s, counted_of false z.position core) +ℤ low, greatest_exchange (s, counted_of false z.position core) +ℤ high) (exchanged_of (cond (not core) (z ∷ rest) rest))
outside_zone s z true rest low high h k = no_zone s (exchanged_of rest) low high k
outside_zone s z false rest low high h k = next_zone s z (exchanged_of rest) low high h k

outside_lie : (ss : List (ℤ × ℤ)) (zones : List ZoneOfRow) → EachLiesAt trillion ss (map (λ z. z.factor) zones)
    → LiesAt trillion (exchanges_span ss (counted_positions false (map (λ z. z.position) zones) (map (λ z. z.is_core) zones))) (outside_of zones)
outside_lie [] [] h = nothing
outside_lie [] (z ∷ zones) h = absurd h
outside_lie (s ∷ ss) [] h = absurd h
outside_lie (s ∷ ss) (z ∷ zones) h = outside_zone s z z.is_core (filter (λ z. not z.is_core) zones) _ _ h.0 (outside_lie ss zones h.1)

less_lies : (reference exchanges : ℤ × ℤ) (p q : Fraction) → LiesAt trillion reference p → LiesAt trillion exchanges q → LiesAt trillion (less_exchanges reference exchanges) (minus p q)
less_lies reference exchanges p q h k = Lies-Same (Same_sym (times-minus trillion p q)) (Lies-minus reference.0 reference.1 exchanges.0 exchanges.1 h k)

pub holds_without_core : (reference : ℤ × ℤ) (ss : List (ℤ × ℤ)) (ps : List ℤ) (cs : List Bool) (span : ℤ × ℤ)
    → span ≡ less_exchanges reference (exchanges_span ss (counted_positions true ps cs)) → HoldsWithoutCore reference ss ps cs span
holds_without_core reference ss ps cs span e = λ flow zones lies numbers core.
    subst (λ (s : ℤ × ℤ). LiesAt trillion s (without_core_of flow zones))
    (sym (e ∙ ap₂ (λ (u : List ℤ) (v : List Bool). less_exchanges reference (exchanges_span ss (counted_positions true u v))) (sym numbers.same_positions) (sym core)))
    (less_lies reference _ flow (exchanged_of (filter (λ z. z.is_core) zones)) lies (core_lie ss zones numbers.each_lies))

pub holds_without_any : (reference : ℤ × ℤ) (ss : List (ℤ × ℤ)) (ps : List ℤ) (span : ℤ × ℤ)
    → span ≡ less_exchanges reference (exchanges_span ss ps) → HoldsWithoutAny reference ss ps span
holds_without_any reference ss ps span e = λ flow zones lies numbers.
    subst (λ (s : ℤ × ℤ). LiesAt trillion s (without_any_of flow zones))
    (sym (e ∙ ap (λ (u : List ℤ). less_exchanges reference (exchanges_span ss u)) (sym numbers.same_positions)))
    (less_lies reference _ flow (exchanged_of zones) lies (all_lie ss zones numbers.each_lies))

pub holds_external : (ss : List (ℤ × ℤ)) (ps : List ℤ) (cs : List Bool) (span : ℤ × ℤ)
    → span ≡ exchanges_span ss (counted_positions false ps cs) → HoldsExternal ss ps cs span
holds_external ss ps cs span e = λ flow zones numbers core.
    subst (λ (s : ℤ × ℤ). LiesAt trillion s (external_of flow zones))
    (sym (e ∙ ap₂ (λ (u : List ℤ) (v : List Bool). exchanges_span ss (counted_positions false u v)) (sym numbers.same_positions) (sym core)))
    (outside_in flow zones (outside_lie ss zones numbers.each_lies))
  where
    outside_in : (flow : Fraction) (zones : List ZoneOfRow) {s : ℤ × ℤ} → LiesAt trillion s (outside_of zones) → LiesAt trillion s (external_of flow zones)
    outside_in flow zones h = Lies-Same (Same-times trillion (Same_sym (external-outside flow zones))) h

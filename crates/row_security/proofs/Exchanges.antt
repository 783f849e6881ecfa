-- The exact flow at a point is the flow without exchanges of Core and what the factors make of the net positions.
use Rattle.std.proofs.Common.{◌≡◌, suc, Bool, true, false, cond, ℤ, negsuc, ◌+ℤ◌, ◌-ℤ◌, ◌*ℤ◌, List, [], ◌∷◌, length, map, get_or, refl, sym, ap, subst, ◌∙◌, arith}
use Rattle.std.specs.Prelude.{All}
use Rattle.std.specs.List.{filter, zip}
use Rattle.std.proofs.lemmas.List.Elements.{All-head, All-tail, All-cons, All-nil}
use Rattle.whole_laws.specs.Ring.{ring}
use Rattle.fractions.specs.Fractions.{Fraction, Same, plus, minus, times, total}
use Rattle.fractions.specs.FractionLaws.{Same_refl, Same_sym, Same_trans, Same-plus, Same-times, times-plus, times_left_comm, sub-times, minus-minus, AtMost_trans, AtMost-Same, to_minus, from_minus}
use Rattle.fractions.specs.TotalLaws.{Same-total, total-times}
use Rattle.fb_types.specs.declared.grid.Grid.{Grid}
use Rattle.grid_state.specs.GridState.{GridState, IsSound}
use Rattle.security.specs.Exchanges.{ZoneOfRow, exchanged_of}
use Rattle.security.proofs.MarginLaws.{ram-top}
use Rattle.security.specs.Balances.{Exchange, balance_with}
use Rattle.security.specs.Flows.{ExactAngles, AreAnglesFor, AreAnglesOfKey, reference_flow_of, factor_of}
use Rattle.exact_flows.specs.AddedFlows.{SolvedExchange}
use Rattle.exact_flows.proofs.Assembly.{superposition}
use Rattle.security.specs.Points.{IsInBox, exchange_of, exchanges_at, AreAnglesAt, row_flow_at}
use Rattle.domain_rows.specs.Brackets.{exchanged_at}
use Rattle.security.specs.Rows.{Row, KeyedZone, SolvedZone, Choice, IsChoice, row_factor_of, seen_by, f0core_of, fuaf_of, top_of_row, ram_of_row, core_of, core_factors_of}
use Rattle.row_security.specs.Laws.{HeldRowsAreBracketed}

-- ---- lists

-- the Core zones as the row sees them
core_seen : (s : GridState) (row : Row) (zones : List SolvedZone) → filter (λ (z : ZoneOfRow). z.is_core) (map (seen_by s row) zones) ≡ map (seen_by s row) (core_of zones)
core_seen s row [] = refl
core_seen s row (z ∷ zs) = by_test z.zone.is_core (core_seen s row zs)
  where
    by_test : (b : Bool) → filter (λ (y : ZoneOfRow). y.is_core) (map (seen_by s row) zs) ≡ map (seen_by s row) (core_of zs) → cond b (seen_by s row z ∷ filter (λ (y : ZoneOfRow). y.is_core) (map (seen_by s row) zs)) (filter (λ (y : ZoneOfRow). y.is_core) (map (seen_by s row) zs)) ≡ map (seen_by s row) (cond b (z ∷ core_of zs) (core_of zs))
    by_test true later = ap (λ (ys : List ZoneOfRow). seen_by s row z ∷ ys) later
    by_test false later = later

core_length : (zones : List SolvedZone) → length (core_of zones) ≡ length (filter (λ (z : KeyedZone). z.is_core) (map (λ (z : SolvedZone). z.zone) zones))
core_length [] = refl
core_length (z ∷ zs) = by_test z.zone.is_core (core_length zs)
  where
    by_test : (b : Bool) → length (core_of zs) ≡ length (filter (λ (y : KeyedZone). y.is_core) (map (λ (y : SolvedZone). y.zone) zs)) → length (cond b (z ∷ core_of zs) (core_of zs)) ≡ length (cond b (z.zone ∷ filter (λ (y : KeyedZone). y.is_core) (map (λ (y : SolvedZone). y.zone) zs)) (filter (λ (y : KeyedZone). y.is_core) (map (λ (y : SolvedZone). y.zone) zs)))
    by_test true later = ap suc later
    by_test false later = later

All-filter : {A : Type 0} (P : A → Type 0) (test : A → Bool) (xs : List A) → All P xs → All P (filter test xs)
All-filter P test [] h = h
All-filter P test (x ∷ xs) h = by_test (test x) (All-filter P test xs (All-tail P x xs h))
  where
    by_test : (b : Bool) → All P (filter test xs) → All P (cond b (x ∷ filter test xs) (filter test xs))
    by_test true later = All-cons P x (filter test xs) (All-head P x xs h) later
    by_test false later = later

-- the Core zones with their positions, and angles for their blocks
abbrev exchange_with : SolvedZone × ℤ → SolvedExchange
exchange_with e = record { exchange = exchange_of (e.0.zone, e.1); blocks = e.0.blocks }

core_zones : (zones : List SolvedZone) → filter (λ (z : KeyedZone). z.is_core) (map (λ (z : SolvedZone). z.zone) zones) ≡ map (λ (z : SolvedZone). z.zone) (core_of zones)
core_zones [] = refl
core_zones (z ∷ zs) = by_test z.zone.is_core (core_zones zs)
  where
    by_test : (b : Bool) → filter (λ (y : KeyedZone). y.is_core) (map (λ (y : SolvedZone). y.zone) zs) ≡ map (λ (y : SolvedZone). y.zone) (core_of zs) → cond b (z.zone ∷ filter (λ (y : KeyedZone). y.is_core) (map (λ (y : SolvedZone). y.zone) zs)) (filter (λ (y : KeyedZone). y.is_core) (map (λ (y : SolvedZone). y.zone) zs)) ≡ map (λ (y : SolvedZone). y.zone) (cond b (z ∷ core_of zs) (core_of zs))
    by_test true later = ap (λ (ys : List KeyedZone). z.zone ∷ ys) later
    by_test false later = later

zipped : (zones : List SolvedZone) (x : List ℤ) → map exchange_of (zip (map (λ (z : SolvedZone). z.zone) zones) x) ≡ map (λ (e : SolvedExchange). e.exchange) (map exchange_with (zip zones x))
zipped [] x = refl
zipped (z ∷ zs) [] = refl
zipped (z ∷ zs) (x ∷ xs) = ap (λ (es : List Exchange). exchange_of (z.zone, x) ∷ es) (zipped zs xs)

-- the exchanges of the zones are those with the angles that are chosen
same_exchanges : (s : GridState) (grid : Grid) (zones : List KeyedZone) (choice : Choice) → IsChoice s grid zones choice → (x : List ℤ)
    → exchanges_at zones x ≡ map (λ (e : SolvedExchange). e.exchange) (map exchange_with (zip (core_of choice.zones) x))
same_exchanges s grid zones choice ok x =
    ap (λ (zs : List KeyedZone). exchanges_at zs x) (sym ok.same_zones)
    ∙ ap (λ (zs : List KeyedZone). map exchange_of (zip zs x)) (core_zones choice.zones)
    ∙ zipped (core_of choice.zones) x

solved_exchanges : (s : GridState) (zones : List SolvedZone) (x : List ℤ) → All (λ z. AreAnglesOfKey s z.zone.key z.blocks) zones
    → All (λ z. AreAnglesOfKey s z.exchange.key z.blocks) (map exchange_with (zip zones x))
solved_exchanges s [] x h = All-nil (λ (z : SolvedExchange). AreAnglesOfKey s z.exchange.key z.blocks)
solved_exchanges s (z ∷ zs) [] h = All-nil (λ (z : SolvedExchange). AreAnglesOfKey s z.exchange.key z.blocks)
solved_exchanges s (z ∷ zs) (x ∷ xs) h =
    All-cons (λ (y : SolvedExchange). AreAnglesOfKey s y.exchange.key y.blocks) (exchange_with (z, x)) (map exchange_with (zip zs xs))
    (All-head (λ (y : SolvedZone). AreAnglesOfKey s y.zone.key y.blocks) z zs h) (solved_exchanges s zs xs (All-tail (λ (y : SolvedZone). AreAnglesOfKey s y.zone.key y.blocks) z zs h))

-- ---- sums

-- (x − r)·f and the rest
four : (a b c d : Fraction) → Same (plus (minus a b) (minus c d)) (minus (plus a c) (plus b d))
four a b c d = minus-minus a b c d

-- the differences of positions, apart: what the positions make, less what the reference makes
apart : (s : GridState) (row : Row) (zones : List SolvedZone) (x : List ℤ) → length x ≡ length zones
    → Same (total (λ (e : SolvedExchange). times (e.exchange.position -ℤ e.exchange.reference) (times row.direction (factor_of s row.branch e.exchange.key e.blocks))) (map exchange_with (zip zones x)))
    (minus (exchanged_at (map (row_factor_of s row) zones) x) (exchanged_of (map (seen_by s row) zones)))
apart s row [] [] e = record { same = refl }
apart s row [] (x ∷ xs) e = absurd (omega arith)
apart s row (z ∷ zs) [] e = absurd (omega arith)
apart s row (z ∷ zs) (x ∷ xs) e =
    Same_trans (Same-plus (sub-times x z.zone.position (row_factor_of s row z)) (apart s row zs xs (omega arith)))
    (four (times x (row_factor_of s row z)) (times z.zone.position (row_factor_of s row z)) (exchanged_at (map (row_factor_of s row) zs) xs) (exchanged_of (map (seen_by s row) zs)))

-- a direction goes into the sum
directed : (k : ℤ) (f : SolvedExchange → Fraction) (zones : List SolvedExchange)
    → Same (times k (total (λ (e : SolvedExchange). times (e.exchange.position -ℤ e.exchange.reference) (f e)) zones)) (total (λ (e : SolvedExchange). times (e.exchange.position -ℤ e.exchange.reference) (times k (f e))) zones)
directed k f zones =
    Same_trans (Same_sym (total-times k (λ (e : SolvedExchange). times (e.exchange.position -ℤ e.exchange.reference) (f e)) zones))
    (Same-total _ (λ (e : SolvedExchange). times (e.exchange.position -ℤ e.exchange.reference) (times k (f e))) zones (λ m d l. one (get_or zones m d)))
  where
    one : (e : SolvedExchange) → Same (times k (times (e.exchange.position -ℤ e.exchange.reference) (f e))) (times (e.exchange.position -ℤ e.exchange.reference) (times k (f e)))
    one e = times_left_comm k (e.exchange.position -ℤ e.exchange.reference) (f e)

-- r + (x − y) is (r − y) + x
regrouped : (r x y : Fraction) → Same (plus r (minus x y)) (plus (minus r y) x)
regrouped r x y = record { same = step r.num r.den x.num x.den y.num y.den }
  where
    step : (a b c d e f : ℤ) → (a *ℤ (d *ℤ f) +ℤ (c *ℤ f +ℤ (negsuc 0 *ℤ e) *ℤ d) *ℤ b) *ℤ ((b *ℤ f) *ℤ d) ≡ ((a *ℤ f +ℤ (negsuc 0 *ℤ e) *ℤ b) *ℤ d +ℤ c *ℤ (b *ℤ f)) *ℤ (b *ℤ (d *ℤ f))
    step a b c d e f = simp ring

-- ---- the flow at a point

flow_is : (s : GridState) → IsSound s → (grid : Grid) (zones : List KeyedZone) (row : Row) (choice : Choice) → IsChoice s grid zones choice → (x : List ℤ) → length x ≡ length (core_of choice.zones)
    → (e : ExactAngles) → AreAnglesAt s grid zones x e
    → Same (row_flow_at s row e) (plus (f0core_of s row choice) (exchanged_at (core_factors_of s row choice) x))
flow_is s sound grid zones row choice ok x len e at_x =
    let core = core_of choice.zones in
    let all = map exchange_with (zip core x) in
    let at_all = subst (λ (es : List Exchange). AreAnglesFor s (balance_with s grid es) e) (same_exchanges s grid zones choice ok x) at_x in
    let law = superposition s sound grid row.branch all choice.reference e ok.reference
    (solved_exchanges s core x (All-filter (λ z. AreAnglesOfKey s z.zone.key z.blocks) (λ z. z.zone.is_core) choice.zones ok.blocks)) at_all in
    let reference = reference_flow_of s row.branch choice.reference in
    Same_trans (Same-times row.direction law)
    (Same_trans (times-plus row.direction reference (total (λ (e : SolvedExchange). times (e.exchange.position -ℤ e.exchange.reference) (factor_of s row.branch e.exchange.key e.blocks)) all))
    (Same_trans (Same-plus (Same_refl (times row.direction reference))
    (Same_trans (directed row.direction (λ (e : SolvedExchange). factor_of s row.branch e.exchange.key e.blocks) all) (apart s row core x len)))
    (Same_trans (regrouped (times row.direction reference) (exchanged_at (core_factors_of s row choice) x) (exchanged_of (map (seen_by s row) core)))
    (Same-plus (same_of _ _ (ap (λ (ys : List ZoneOfRow). minus (times row.direction reference) (exchanged_of ys)) (sym (core_seen s row choice.zones)))) (Same_refl _)))))
  where
    same_of : (p q : Fraction) → p ≡ q → Same p q
    same_of p q e = record { same = ap (λ v. v.num *ℤ q.den) e ∙ ap (λ v. q.num *ℤ v.den) (sym e) }

pub held_rows_are_bracketed : (s : GridState) → IsSound s → (grid : Grid) → HeldRowsAreBracketed s grid
held_rows_are_bracketed s sound grid zones row factors ram bounds a r_in r_out as_many holds brackets = record {
  inner = λ choice ok x box e at_x meets.
      let len = long choice ok x box in
      let flow = flow_is s sound grid zones row choice ok x len e at_x in
      let within = brackets.inner (core_factors_of s row choice) (ram_of_row s row choice) x (holds.core_factors choice ok) (holds.margin choice ok) box meets in
      AtMost_trans (AtMost-Same flow) (from_minus (f0core_of s row choice) (exchanged_at (core_factors_of s row choice) x) (top_of_row s row choice)
      (AtMost_trans within (AtMost-Same (ram-top row.numbers (f0core_of s row choice) (fuaf_of s row choice)))));
  outer = λ choice ok x box e at_x kept.
      let len = long choice ok x box in
      let flow = flow_is s sound grid zones row choice ok x len e at_x in
      brackets.outer (core_factors_of s row choice) (ram_of_row s row choice) x (holds.core_factors choice ok) (holds.margin choice ok) box
      (AtMost_trans (to_minus (f0core_of s row choice) (exchanged_at (core_factors_of s row choice) x) (top_of_row s row choice) (AtMost_trans (AtMost-Same (Same_sym flow)) kept))
      (AtMost-Same (Same_sym (ram-top row.numbers (f0core_of s row choice) (fuaf_of s row choice)))));
}
  where
    long : (choice : Choice) → IsChoice s grid zones choice → (x : List ℤ) → IsInBox bounds x → length x ≡ length (core_of choice.zones)
    long choice ok x box = box.zones ∙ as_many ∙ ap (λ (zs : List KeyedZone). length (filter (λ (z : KeyedZone). z.is_core) zs)) (sym ok.same_zones) ∙ sym (core_length choice.zones)

-- The numbers of a row are in the range of rows.
use Rattle.std.proofs.Common.{ℕ, suc, ◌+◌, ◌*◌, ◌^◌, ◌≤◌, true, false, List, [], ◌∷◌, length, map, All, nat_abs, ℤ, pos, ◌+ℤ◌, ◌-ℤ◌, ◌*ℤ◌, ◌≤ℤ◌, sym, ◌∙◌, arith}
use Rattle.std.specs.Int.{int_max}
use Rattle.std.proofs.lemmas.Int.{ints, clamps}
use Rattle.std.proofs.lemmas.List.{length-map}
use Rattle.std.proofs.lemmas.List.Elements.{All-head, All-tail, All-cons, All-nil}
use Rattle.whole_laws.specs.QuotientLaws.{floor-low, floor-gap}
use Rattle.whole_laws.specs.Sums.{IsWithin}
use Rattle.whole_laws.specs.SumLaws.{within_times}
use Rattle.fb_span.specs.Ends.{EndsWithin}
use Rattle.fb_span.specs.LeastSpans.{least_corner, greatest_corner}
use Rattle.fb_types.specs.declared.grid.Grid.{Grid}
use Rattle.fb_types.specs.declared.rows.Bounds.{Bounds}
use Rattle.grid_state.specs.GridState.{GridState, IsSound}
use Rattle.grid_laplacian.specs.Ranges.{IsOfGrid, IsInRange}
use Rattle.ram_formulas.specs.MarginSpans.{margin_at}
use Rattle.domain_rows.specs.Brackets.{coefficient_of, deviation_of, ends_of_box, least_deviation, greatest_deviation}
use Rattle.domain_rows.proofs.Corners.{corners_within}
use Rattle.domain_rows.proofs.Sizes.{floor_within, ceil_within}
use Rattle.reference_flows.specs.WithoutExchanges.{exchanges_span, counted_positions, least_exchange, greatest_exchange, sizes_of}
use Rattle.reference_flows.proofs.Loops.{counted_sizes}
use Rattle.reference_flows.proofs.Sizes.{exchange_within}
use Rattle.cnec_rows.specs.RowNumbers.{factors_from, factor_spans, fref_span, of_core, f0core_span, fuaf_span, ram_span, stated_of, AreTerms}
use Rattle.cnec_rows.specs.declared.types.RowTerms.{RowTerms}
use Rattle.cnec_rows.specs.declared.types.RowZones.{RowZones}
use Rattle.cnec_rows.proofs.Lists.{core_all}
use Rattle.row_gaps.specs.RowRanges.{RowsAreInRange}
use Rattle.row_gaps.proofs.Factors.{zones_known, within_directed}
use Rattle.row_gaps.proofs.Held.{flow_known, core_count}

-- ---- coefficients

coefficient_within : (s : ℤ × ℤ) → EndsWithin (10 ^ 12) s → IsWithin (10 ^ 12) (coefficient_of s)
coefficient_within s h =
    let l = floor-low (s.0 +ℤ s.1) (pos 2) (record { lt = tt }) in
    let g = floor-gap (s.0 +ℤ s.1) (pos 2) (record { lt = tt }) in
    let a = h.low.low in
    let b = h.low.high in
    let c = h.high.low in
    let d = h.high.high in
    record { low = omega (arith, ints, l, g, a, b, c, d); high = omega (arith, ints, l, g, a, b, c, d) }

coefficients_within : (ss : List (ℤ × ℤ)) → All (EndsWithin (10 ^ 12)) ss
    → All (IsWithin (10 ^ 12)) (map coefficient_of ss)
coefficients_within [] h = All-nil (IsWithin (10 ^ 12))
coefficients_within (s ∷ ss) h =
    All-cons (IsWithin (10 ^ 12)) (coefficient_of s) (map coefficient_of ss)
    (coefficient_within s (All-head (EndsWithin (10 ^ 12)) s ss h))
    (coefficients_within ss (All-tail (EndsWithin (10 ^ 12)) s ss h))

-- ---- deviations

zone_within : (s : ℤ × ℤ) (b : Bounds) → EndsWithin (10 ^ 12) s → IsWithin (10 ^ 11) b.low → IsWithin (10 ^ 11) b.high
    → IsWithin (2 * 10 ^ 23) (least_corner (deviation_of s) (ends_of_box b)) × IsWithin (2 * 10 ^ 23) (greatest_corner (deviation_of s) (ends_of_box b))
zone_within s b h low high =
    let a = coefficient_within s h in
    let deviation : EndsWithin (2 * 10 ^ 12) (deviation_of s) = apart s.0 s.1 (coefficient_of s) h.low h.high a in
    corners_within (2 * 10 ^ 12) (10 ^ 11) (deviation_of s) (ends_of_box b) deviation
    (record { low = low; high = high })
  where
    apart : (x y a : ℤ) → IsWithin (10 ^ 12) x → IsWithin (10 ^ 12) y → IsWithin (10 ^ 12) a
        → EndsWithin (2 * 10 ^ 12) (x -ℤ a, y -ℤ a)
    apart x y a p q r = record {
      low = record { low = omega (arith, ints, p.low, r.high); high = omega (arith, ints, p.high, r.low) };
      high = record { low = omega (arith, ints, q.low, r.high); high = omega (arith, ints, q.high, r.low) };
    }

zones_within : (ss : List (ℤ × ℤ)) (bs : List Bounds) → All (EndsWithin (10 ^ 12)) ss
    → All (λ b. IsWithin (10 ^ 11) b.low) bs → All (λ b. IsWithin (10 ^ 11) b.high) bs
    → IsWithin (length bs * (2 * 10 ^ 23)) (least_deviation ss bs) × IsWithin (length bs * (2 * 10 ^ 23)) (greatest_deviation ss bs)
zones_within [] bs h low high = nothing (length bs)
  where
    nothing : (n : ℕ) → IsWithin (n * (2 * 10 ^ 23)) (pos 0) × IsWithin (n * (2 * 10 ^ 23)) (pos 0)
    nothing n = (record { low = omega (arith, ints); high = omega (arith, ints) }, record { low = omega (arith, ints); high = omega (arith, ints) })
zones_within (s ∷ ss) [] h low high = (record { low = omega (arith, ints); high = omega (arith, ints) }, record { low = omega (arith, ints); high = omega (arith, ints) })
zones_within (s ∷ ss) (b ∷ bs) h low high =
    let rest =
    zones_within ss bs (All-tail (EndsWithin (10 ^ 12)) s ss h) (All-tail (λ b. IsWithin (10 ^ 11) b.low) b bs low)
    (All-tail (λ b. IsWithin (10 ^ 11) b.high) b bs high) in
    let first =
    zone_within s b (All-head (EndsWithin (10 ^ 12)) s ss h) (All-head (λ b. IsWithin (10 ^ 11) b.low) b bs low)
    (All-head (λ b. IsWithin (10 ^ 11) b.high) b bs high) in
    (more (length bs) (least_corner (deviation_of s) (ends_of_box b)) (least_deviation ss bs) first.0 rest.0, more (length bs) (greatest_corner (deviation_of s) (ends_of_box b)) (greatest_deviation ss bs) first.1 rest.1)
  where
    more : (n : ℕ) (x y : ℤ) → IsWithin (2 * 10 ^ 23) x → IsWithin (n * (2 * 10 ^ 23)) y
        → IsWithin (suc n * (2 * 10 ^ 23)) (x +ℤ y)
    more n x y h k = record { low = omega (arith, ints, h.low, k.low); high = omega (arith, ints, h.high, k.high) }

few_zones : (n : ℕ) (z : ℤ) → n ≤ 64 → IsWithin (n * (2 * 10 ^ 23)) z → IsWithin 12_800_000_000_000_000_000_000_000 z
few_zones n z le h = record { low = omega (arith, ints, le, h.low); high = omega (arith, ints, le, h.high) }

-- ---- margins

exchanges_within : (ss : List (ℤ × ℤ)) (ps : List ℤ) → All (EndsWithin (10 ^ 12)) ss
    → EndsWithin (sizes_of ps * 10 ^ 12) (exchanges_span ss ps)
exchanges_within [] ps h = record { low = record { low = omega (arith, ints); high = omega (arith, ints) }; high = record { low = omega (arith, ints); high = omega (arith, ints) } }
exchanges_within (s ∷ ss) [] h = record { low = record { low = omega (arith, ints); high = omega (arith, ints) }; high = record { low = omega (arith, ints); high = omega (arith, ints) } }
exchanges_within (s ∷ ss) (p ∷ ps) h =
    let first = exchange_within p s (All-head (EndsWithin (10 ^ 12)) s ss h) in
    let rest = exchanges_within ss ps (All-tail (EndsWithin (10 ^ 12)) s ss h) in
    record {
      low = more (nat_abs p) (sizes_of ps) (least_exchange (s, p)) (exchanges_span ss ps).0 first.low rest.low;
      high = more (nat_abs p) (sizes_of ps) (greatest_exchange (s, p)) (exchanges_span ss ps).1 first.high rest.high;
    }
  where
    more : (m n : ℕ) (x y : ℤ) → IsWithin (m * 10 ^ 12) x → IsWithin (n * 10 ^ 12) y
        → IsWithin ((m + n) * 10 ^ 12) (x +ℤ y)
    more m n x y h k = record { low = omega (arith, ints, h.low, k.low); high = omega (arith, ints, h.high, k.high) }

few_watts : (n : ℕ) (z : ℤ) → n ≤ 10 ^ 12 → IsWithin (n * 10 ^ 12) z → IsWithin (10 ^ 24) z
few_watts n z le h = record { low = omega (arith, ints, le, h.low); high = omega (arith, ints, le, h.high) }

all_within : (zones : RowZones) (ss : List (ℤ × ℤ)) (ps : List ℤ) → sizes_of zones.positions ≤ 10 ^ 12
    → sizes_of ps ≤ sizes_of zones.positions → All (EndsWithin (10 ^ 12)) ss
    → EndsWithin (10 ^ 24) (exchanges_span ss ps)
all_within zones ss ps few le h =
    let all = exchanges_within ss ps h in
    record { low = few_watts (sizes_of ps) (exchanges_span ss ps).0 (omega (arith, few, le)) all.low; high = few_watts (sizes_of ps) (exchanges_span ss ps).1 (omega (arith, few, le)) all.high }

less_within : (x y : ℤ) → IsWithin (3 * 10 ^ 24) x → IsWithin (10 ^ 24) y → IsWithin (4 * 10 ^ 24) (x -ℤ y)
less_within x y h k = record { low = omega (arith, ints, h.low, k.high); high = omega (arith, ints, h.high, k.low) }

-- the margin of an element in range, from flows in range
margin_within : (terms : RowTerms) (f g : ℤ) → AreTerms terms → IsWithin (4 * 10 ^ 24) f → IsWithin (10 ^ 24) g
    → IsWithin 5_000_000_000_000_000_000_000_000 (margin_at (stated_of terms) f g)
margin_within terms f g are h k =
    let l = are.limit in
    let m = are.margin in
    let v = are.cva in
    let w = are.iva in
    let r = are.ramr in
    let share : IsWithin (1000 * 100000000000) (pos terms.ramr *ℤ terms.limit) =
    within_times 1000 100000000000 (pos terms.ramr) terms.limit
    (record { low = omega (arith, ints); high = omega (arith, ints, r) })
    (record { low = omega (arith, ints, l.0); high = l.1 }) in
    step (pos terms.ramr *ℤ terms.limit) terms.limit terms.margin terms.cva terms.iva share l.0 l.1 m.0 m.1 v.0 v.1 w.0
    w.1
  where
    step : (s l m v w : ℤ) → IsWithin (1000 * 100000000000) s → pos 1 ≤ℤ l → l ≤ℤ pos 100000000000 → pos 0 ≤ℤ m
        → m ≤ℤ pos 100000000000 → pos 0 ≤ℤ v → v ≤ℤ pos 100000000000 → pos 0 ≤ℤ w → w ≤ℤ pos 100000000000
        → IsWithin 5_000_000_000_000_000_000_000_000 (int_max (int_max (s *ℤ pos 1_000_000_000 -ℤ g) (l *ℤ pos 200_000_000_000)) ((l -ℤ m) *ℤ pos 1_000_000_000_000 -ℤ f) -ℤ (v +ℤ w) *ℤ pos 1_000_000_000_000)
    step s l m v w share ll lh ml mh vl vh wl wh =
        let a = share.low in
        let b = share.high in
        let fl = h.low in
        let fh = h.high in
        let gl = k.low in
        let gh = k.high in
        record { low = omega (arith, ints, clamps, a, b, ll, lh, ml, mh, vl, vh, wl, wh, fl, fh, gl, gh); high = omega (arith, ints, clamps, a, b, ll, lh, ml, mh, vl, vh, wl, wh, fl, fh, gl, gh) }

-- ---- the row

pub rows_in_range : (s : GridState) (grid : Grid) → IsSound s → IsOfGrid grid s → IsInRange grid s
    → RowsAreInRange s grid
rows_in_range s grid sound of range columns zones terms c proof proved are stands =
    let factors = factor_spans s c terms.against columns proof in
    let fref = fref_span s c terms.against proof in
    let known =
    zones_known grid s c sound of stands proof proved.proves.barrier columns proved.keys proved.great
    proved.proves.blocks in
    let within = within_directed s c terms.against columns (factors_from s c proof 0 columns) known in
    let flow = (flow_known grid s c sound of range stands columns proof proved.proves terms.against).within in
    let count = core_count s c terms.against columns zones proof proved.fit in
    let core = of_core zones.core factors in
    let core_within = core_all (EndsWithin (10 ^ 12)) zones.core factors within in
    let inside =
    all_within zones factors (counted_positions true zones.positions zones.core) proved.fit.small
    (counted_sizes true zones.positions zones.core) within in
    let outside =
    all_within zones factors (counted_positions false zones.positions zones.core) proved.fit.small
    (counted_sizes false zones.positions zones.core) within in
    let f0core = f0core_span zones fref factors in
    let fuaf = fuaf_span zones factors in
    let ram = ram_span (stated_of terms) f0core fuaf in
    let low =
    margin_within terms f0core.1 fuaf.1 are
    (less_within fref.1 (exchanges_span factors (counted_positions true zones.positions zones.core)).0 flow.high inside.low)
    outside.high in
    let high =
    margin_within terms f0core.0 fuaf.0 are
    (less_within fref.0 (exchanges_span factors (counted_positions true zones.positions zones.core)).1 flow.low inside.high)
    outside.low in
    let box = zones_within core zones.bounds core_within proved.fit.in_range.lows proved.fit.in_range.highs in
    let few = proved.fit.in_range.few in
    let some = proved.fit.some in
    let long = length-map core coefficient_of in
    record {
      long = long ∙ sym count;
      some = omega (arith, some, count, long);
      coefficients = coefficients_within core core_within;
      inner = floor_within ram.0 (greatest_deviation core zones.bounds) low
          (few_zones (length zones.bounds) (greatest_deviation core zones.bounds) few box.1);
      outer = ceil_within ram.1 (least_deviation core zones.bounds) high
          (few_zones (length zones.bounds) (least_deviation core zones.bounds) few box.0);
    }

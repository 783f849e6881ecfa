use Rattle.std.proofs.Common.{◌*◌, ◌<◌, ℤ, pos, w64, length, take, nat_abs, ap, ap₂, subst, ◌∙◌, arith, rules}
use Rattle.std.proofs.lemmas.Int.{to_z-of_z}
use Rattle.fb_span.specs.Ends.{EndsWithin}
use Rattle.reference_flows.specs.WithoutExchanges.{least_exchange, greatest_exchange, counted_positions, sizes_of}
use Rattle.reference_flows.proofs.Loops.{sum_more, sum_all, sizes_taken, position_small, room, more_within, counted_length, counted_is, counted_sizes}
use Rattle.reference_flows.proofs.exchanges_where.Goals as goal

pub exchange-exchange-requires-clause-position_in : goal.exchange-exchange-requires-clause-position_in
exchange-exchange-requires-clause-position_in c =
    let zone = c.loop-zone.zone in
    let positions = c.args.positions.now in
    let cores = c.args.cores.now in
    let same = counted_is c.args.core positions cores zone _ _ (c.counted-position.result) (omega arith) (omega arith) (to_z-of_z w64 _ (search rules)) c.counted-position.ensures (to_z-of_z w64 c.counted-position.result (search rules)) in
    let length_is = counted_length c.args.core positions cores (omega arith) in
    let fewer = counted_sizes c.args.core positions cores in
    let all = c.requires.positions_in in
    position_small (counted_positions c.args.core positions cores) zone (pos 0) _ (omega (arith, length_is)) same (omega (arith, fewer, all))

pub sum-total-requires-clause-a_in : goal.sum-total-requires-clause-a_in
sum-total-requires-clause-a_in c =
    let counted = counted_positions c.args.core c.args.positions.now c.args.cores.now in
    let taken = sizes_taken counted c.loop-zone.zone in
    let fewer = counted_sizes c.args.core c.args.positions.now c.args.cores.now in
    let all = c.requires.positions_in in
    room (sizes_of (take c.loop-zone.zone counted)) c.loop-zone.total (omega (arith, taken, fewer, all)) c.loop-zone.invariant.within

pub sum-total-requires-clause-b_in : goal.sum-total-requires-clause-b_in
sum-total-requires-clause-b_in c =
    let zone = c.loop-zone.zone in
    let positions = c.args.positions.now in
    let cores = c.args.cores.now in
    let same = counted_is c.args.core positions cores zone _ _ (c.counted-position.result) (omega arith) (omega arith) (to_z-of_z w64 _ (search rules)) c.counted-position.ensures (to_z-of_z w64 c.counted-position.result (search rules)) in
    let length_is = counted_length c.args.core positions cores (omega arith) in
    let fewer = counted_sizes c.args.core positions cores in
    let all = c.requires.positions_in in
    room _ c.exchange-exchange.result (position_small (counted_positions c.args.core positions cores) zone (pos 0) _ (omega (arith, length_is)) same (omega (arith, fewer, all))) c.exchange-exchange.ensures.within

pub loop-zone-preserved : goal.loop-zone-preserved
loop-zone-preserved c =
    let zone = c.loop-zone.zone in
    let factors = c.args.factors.now in
    let positions = c.args.positions.now in
    let cores = c.args.cores.now in
    let core = c.args.core in
    let counted = counted_positions core positions cores in
    let h = c.loop-zone.invariant in
    let value = c.exchange-exchange.ensures.value in
    let sum = c.sum-total.ensures in
    let in_factors : zone < length factors = c.loop-zone-test.true in
    let in_positions : zone < length positions = omega arith in
    let length_is = counted_length core positions cores (omega arith) in
    let in_counted : zone < length counted = omega (arith, length_is, in_positions) in
    let same = counted_is core positions cores zone _ _ (c.counted-position.result) in_positions (omega arith) (to_z-of_z w64 _ (search rules)) c.counted-position.ensures (to_z-of_z w64 c.counted-position.result (search rules)) in
    record {
      low = sum_more least_exchange factors counted zone c.index-factors-zone.result (pos 0) c.loop-zone.total.0 c.exchange-exchange.result.0 c.sum-total.result.0 in_factors in_counted h.low
          (ap (λ (s : ℤ × ℤ). s.0) value ∙ ap₂ (λ (s : ℤ × ℤ) (p : ℤ). least_exchange (s, p)) c.index-factors-zone.is same) (ap (λ (s : ℤ × ℤ). s.0) sum);
      high = sum_more greatest_exchange factors counted zone c.index-factors-zone.result (pos 0) c.loop-zone.total.1 c.exchange-exchange.result.1 c.sum-total.result.1 in_factors in_counted h.high
          (ap (λ (s : ℤ × ℤ). s.1) value ∙ ap₂ (λ (s : ℤ × ℤ) (p : ℤ). greatest_exchange (s, p)) c.index-factors-zone.is same) (ap (λ (s : ℤ × ℤ). s.1) sum);
      within = more_within counted zone (pos 0) c.loop-zone.total c.exchange-exchange.result c.sum-total.result in_counted sum h.within
          (subst (λ v. EndsWithin (nat_abs v * 1_000_000_000_000) c.exchange-exchange.result) same c.exchange-exchange.ensures.within);
    }

pub returns-clause-value : goal.returns-clause-value
returns-clause-value c =
    let counted = counted_positions c.args.core c.args.positions.now c.args.cores.now in
    let length_is = counted_length c.args.core c.args.positions.now c.args.cores.now (omega arith) in
    let done = c.loop-zone-test.false in
    let low = sum_all least_exchange c.args.factors.now counted c.loop-zone.zone c.loop-zone.total.0 done (omega (arith, length_is, done)) c.loop-zone.invariant.low in
    let high = sum_all greatest_exchange c.args.factors.now counted c.loop-zone.zone c.loop-zone.total.1 done (omega (arith, length_is, done)) c.loop-zone.invariant.high in
    ap₂ (λ x y. (x, y)) low high

pub returns-clause-within : goal.returns-clause-within
returns-clause-within c =
    let counted = counted_positions c.args.core c.args.positions.now c.args.cores.now in
    let taken = sizes_taken counted c.loop-zone.zone in
    let fewer = counted_sizes c.args.core c.args.positions.now c.args.cores.now in
    let all = c.requires.positions_in in
    room (sizes_of (take c.loop-zone.zone counted)) c.loop-zone.total (omega (arith, taken, fewer, all)) c.loop-zone.invariant.within

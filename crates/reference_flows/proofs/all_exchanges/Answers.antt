use Rattle.std.proofs.Common.{◌≡◌, ◌*◌, ◌<◌, ℤ, pos, to_z, of_z, w64, length, take, get_or, nat_abs, ap, ap₂, subst, ◌∙◌, arith, rules}
use Rattle.std.proofs.lemmas.Int.{to_z-of_z}
use Rattle.fb_span.specs.Ends.{EndsWithin}
use Rattle.reference_flows.specs.WithoutExchanges.{least_exchange, greatest_exchange, sizes_of}
use Rattle.reference_flows.proofs.Loops.{sum_more, sizes_taken, position_small, room, more_within}
use Rattle.reference_flows.proofs.all_exchanges.Goals as goal

pub exchange-exchange-requires-clause-position_in : goal.exchange-exchange-requires-clause-position_in
exchange-exchange-requires-clause-position_in c =
    position_small c.args.positions.now c.loop-zone.zone (pos 0) _ (omega arith) (to_z-of_z w64 _ (search rules)) c.requires.positions_in

pub sum-total-requires-clause-a_in : goal.sum-total-requires-clause-a_in
sum-total-requires-clause-a_in c =
    let taken = sizes_taken c.args.positions.now c.loop-zone.zone in
    let all = c.requires.positions_in in
    room (sizes_of (take c.loop-zone.zone c.args.positions.now)) c.loop-zone.total (omega (arith, taken, all)) c.loop-zone.invariant.within

pub sum-total-requires-clause-b_in : goal.sum-total-requires-clause-b_in
sum-total-requires-clause-b_in c =
    room _ c.exchange-exchange.result (position_small c.args.positions.now c.loop-zone.zone (pos 0) _ (omega arith) (to_z-of_z w64 _ (search rules)) c.requires.positions_in) c.exchange-exchange.ensures.within

pub loop-zone-preserved : goal.loop-zone-preserved
loop-zone-preserved c =
    let zone = c.loop-zone.zone in
    let factors = c.args.factors.now in
    let positions = c.args.positions.now in
    let h = c.loop-zone.invariant in
    let value = c.exchange-exchange.ensures.value in
    let sum = c.sum-total.ensures in
    let same : to_z w64 (of_z w64 (get_or positions zone (pos 0))) ≡ get_or positions zone (pos 0) = to_z-of_z w64 _ (search rules) in
    let in_factors : zone < length factors = c.loop-zone-test.true in
    let in_positions : zone < length positions = omega arith in
    record {
      low = sum_more least_exchange factors positions zone c.index-factors-zone.result (pos 0) c.loop-zone.total.0 c.exchange-exchange.result.0 c.sum-total.result.0 in_factors in_positions h.low
          (ap (λ (s : ℤ × ℤ). s.0) value ∙ ap₂ (λ (s : ℤ × ℤ) (p : ℤ). least_exchange (s, p)) c.index-factors-zone.is same) (ap (λ (s : ℤ × ℤ). s.0) sum);
      high = sum_more greatest_exchange factors positions zone c.index-factors-zone.result (pos 0) c.loop-zone.total.1 c.exchange-exchange.result.1 c.sum-total.result.1 in_factors in_positions h.high
          (ap (λ (s : ℤ × ℤ). s.1) value ∙ ap₂ (λ (s : ℤ × ℤ) (p : ℤ). greatest_exchange (s, p)) c.index-factors-zone.is same) (ap (λ (s : ℤ × ℤ). s.1) sum);
      within = more_within positions zone (pos 0) c.loop-zone.total c.exchange-exchange.result c.sum-total.result in_positions sum h.within
          (subst (λ v. EndsWithin (nat_abs v * 1_000_000_000_000) c.exchange-exchange.result) same c.exchange-exchange.ensures.within);
    }

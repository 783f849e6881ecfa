-- How large the exchange of a zone is.
use Rattle.std.proofs.Common.{◌≡◌, ◌*◌, ◌≤◌, ℤ, pos, negsuc, ◌*ℤ◌, nat_abs, arith}
use Rattle.std.specs.Int.{int_min, int_max}
use Rattle.std.proofs.lemmas.Int.{clamps}
use Rattle.whole_laws.specs.Ring.{linear}
use Rattle.whole_laws.specs.Sums.{IsWithin}
use Rattle.whole_laws.specs.SumLaws.{within_times}
use Rattle.fb_span.specs.Ends.{EndsWithin}
use Rattle.fb_span.specs.Exact.{IsFrom}
use Rattle.reference_flows.specs.WithoutExchanges.{least_exchange, greatest_exchange}

within_size : (p : ℤ) → IsWithin (nat_abs p) p
within_size (pos n) = record { low = omega (arith, linear); high = omega (arith, linear) }
within_size (negsuc n) = record { low = omega (arith, linear); high = omega (arith, linear) }

pub exchange_within : (p : ℤ) (s : ℤ × ℤ) → EndsWithin 1_000_000_000_000 s → EndsWithin (nat_abs p * 1_000_000_000_000) (least_exchange (s, p), greatest_exchange (s, p))
exchange_within p s h =
    let x = within_times (nat_abs p) 1_000_000_000_000 p s.0 (within_size p) h.low in
    let y = within_times (nat_abs p) 1_000_000_000_000 p s.1 (within_size p) h.high in
    record {
      low = record { low = omega (arith, linear, clamps, x.low, y.low); high = omega (arith, linear, clamps, x.high, y.high) };
      high = record { low = omega (arith, linear, clamps, x.low, y.low); high = omega (arith, linear, clamps, x.high, y.high) };
    }

pub exchange_fits : (p k : ℤ) (s : ℤ × ℤ) → k ≡ p → nat_abs p ≤ 1_000_000_000_000 → EndsWithin 1_000_000_000_000 s
    → IsFrom (negsuc 170141183460469231731687303715884105727) (pos 170141183460469231731687303715884105727) (int_min (k *ℤ s.0) (k *ℤ s.1))
    × IsFrom (negsuc 170141183460469231731687303715884105727) (pos 170141183460469231731687303715884105727) (int_max (k *ℤ s.0) (k *ℤ s.1))
exchange_fits p k s same small h =
    let w = exchange_within p s h in
    let a = w.low.low in
    let b = w.low.high in
    let c = w.high.low in
    let d = w.high.high in
    rw same (
      record { above = omega (arith, linear, small, a, b, c, d); below = omega (arith, linear, small, a, b, c, d) },
      record { above = omega (arith, linear, small, a, b, c, d); below = omega (arith, linear, small, a, b, c, d) },
    )

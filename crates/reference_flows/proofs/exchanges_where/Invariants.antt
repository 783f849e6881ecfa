use Rattle.std.proofs.Common.{◌≡◌, ◌*◌, take}
use Rattle.fb_span.specs.Ends.{EndsWithin}
use Rattle.reference_flows.specs.WithoutExchanges.{exchanges_span, counted_positions, sizes_of}
use Rattle.reference_flows.proofs.exchanges_where.Given as goal

abbrev pub invariant-loop-zone : goal.invariant-loop-zone
invariant-loop-zone l = record {
  low : l.total.0 ≡ (exchanges_span (take l.zone l.factors) (take l.zone (counted_positions l.core l.positions l.cores))).0;
  high : l.total.1 ≡ (exchanges_span (take l.zone l.factors) (take l.zone (counted_positions l.core l.positions l.cores))).1;
  within : EndsWithin (sizes_of (take l.zone (counted_positions l.core l.positions l.cores)) * 1_000_000_000_000) l.total;
}

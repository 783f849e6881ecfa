use Rattle.std.proofs.Common.{◌≡◌, ◌*◌, take}
use Rattle.fb_span.specs.Ends.{EndsWithin}
use Rattle.reference_flows.specs.WithoutExchanges.{exchanges_span, sizes_of}
use Rattle.reference_flows.proofs.all_exchanges.Given as goal

abbrev pub invariant-loop-zone : goal.invariant-loop-zone
invariant-loop-zone l = record {
  low : l.total.0 ≡ (exchanges_span (take l.zone l.factors) (take l.zone l.positions)).0;
  high : l.total.1 ≡ (exchanges_span (take l.zone l.factors) (take l.zone l.positions)).1;
  within : EndsWithin (sizes_of (take l.zone l.positions) * 1_000_000_000_000) l.total;
}

use Rattle.std.proofs.Common.{◌≤◌, take}
use Rattle.std.specs.List.{All, zip}
use Rattle.fb_span.specs.Ends.{EndsWithin}
use Rattle.domain_rows.specs.FittingReaches.{difference_of}
use Rattle.domain_rows.proofs.deviation_size.Given as goal

abbrev pub invariant-loop-zone : goal.invariant-loop-zone
invariant-loop-zone l = record {
  within : All (λ d. EndsWithin l.greatest (difference_of d)) (take l.zone (zip l.factors l.a));
  few : l.greatest ≤ 2_000_000_000_000;
}

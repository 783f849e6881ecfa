use Rattle.std.proofs.Common.{◌≤◌, take}
use Rattle.std.specs.List.{All}
use Rattle.fb_span.specs.Ends.{EndsWithin}
use Rattle.domain_rows.specs.Brackets.{ends_of_box}
use Rattle.domain_rows.proofs.bound_size.Given as goal

abbrev pub invariant-loop-zone : goal.invariant-loop-zone
invariant-loop-zone l = record {
  within : All (λ b. EndsWithin l.greatest (ends_of_box b)) (take l.zone l.bounds);
  few : l.greatest ≤ 100_000_000_000;
}

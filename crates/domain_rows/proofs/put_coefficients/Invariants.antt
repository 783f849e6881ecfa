use Rattle.std.proofs.Common.{◌≡◌, take, map}
use Rattle.std.specs.List.{All}
use Rattle.whole_laws.specs.Sums.{IsWithin}
use Rattle.domain_rows.specs.Brackets.{coefficient_of}
use Rattle.domain_rows.proofs.put_coefficients.Given as goal

abbrev pub invariant-loop-zone : goal.invariant-loop-zone
invariant-loop-zone l = record {
  coefficients : take l.zone l.a ≡ map coefficient_of (take l.zone l.factors);
  within : All (IsWithin 1_000_000_000_000) (take l.zone l.a);
}

use Rattle.std.proofs.Common.{◌≡◌, ◌++◌, take}
use Rattle.domain_report.specs.DomainTexts.{zone_columns}
use Rattle.domain_report.proofs.columns.put_zone_columns.Given as goal

abbrev pub invariant-loop-zone : goal.invariant-loop-zone
invariant-loop-zone l = l.fields ≡ l.initial.fields ++ zone_columns (take l.zone-index l.zones)

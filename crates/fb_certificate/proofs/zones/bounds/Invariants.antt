use Rattle.std.proofs.Common.{◌≡◌, take}
use Rattle.run_settings.specs.Laws.{core_bounds}
use Rattle.fb_certificate.proofs.zones.bounds.Given as goal

abbrev pub invariant-loop-zone : goal.invariant-loop-zone
invariant-loop-zone l = l.bounds.items ≡ core_bounds (take l.zone-index l.zones)

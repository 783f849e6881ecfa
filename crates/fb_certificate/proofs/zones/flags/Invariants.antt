use Rattle.std.proofs.Common.{◌≡◌, map, take}
use Rattle.run_settings.specs.declared.model.Zone.{Zone}
use Rattle.fb_certificate.proofs.zones.flags.Given as goal

abbrev pub invariant-loop-zone : goal.invariant-loop-zone
invariant-loop-zone l = l.flags.items ≡ map (λ (zone : Zone). zone.core) (take l.zone-index l.zones)

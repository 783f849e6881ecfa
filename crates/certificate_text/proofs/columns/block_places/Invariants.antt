use Rattle.std.proofs.Common.{◌≡◌, take}
use Rattle.std.specs.List.{enumerate_from, flat_map}
use Rattle.certificate_text.specs.CertificateTexts.{zone_places}
use Rattle.certificate_text.proofs.columns.block_places.Given as goal

abbrev pub invariant-loop-k : goal.invariant-loop-k
invariant-loop-k l = l.places.items ≡ flat_map zone_places (take l.k (enumerate_from 1 l.columns))

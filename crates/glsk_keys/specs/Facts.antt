-- What the code knows. Nobody need believe these words: they are of private contracts.
use Rattle.glsk_keys.specs.Document.{Facts}
use Rattle.glsk_keys.specs.declared.known.Known.{Known}

abbrev pub facts_of : Known → Facts
facts_of known = record { nodes = known.nodes.now; homes = known.homes.now; zones = known.zones.now; moment = known.moment.nanosecond }

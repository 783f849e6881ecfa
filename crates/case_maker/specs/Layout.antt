-- How much there is in a case of so many nodes, and where. Nodes, zones, contingencies and elements are numbered from 0.
use Rattle.std.specs.Prelude.{ℕ, ◌+◌, ◌-◌, ◌*◌, ◌/◌, min, Bool, not, ◌||◌, ◌==◌}

-- how many contingencies
abbrev pub outages_of : ℕ → ℕ
outages_of nodes = min (2 * nodes / 15) 512

-- how many elements
abbrev pub elements_of : ℕ → ℕ
elements_of nodes = 2 * nodes / 3

-- the zone of a node, one of sixteen
abbrev pub zone_at : ℕ → ℕ → ℕ
zone_at nodes node = 16 * node / nodes

-- the letter of a zone: 65 is `A`
abbrev pub letter_of : ℕ → ℕ
letter_of zone = 65 + zone

-- whether a node is the first of its zone
abbrev pub starts_zone : ℕ → ℕ → Bool
starts_zone nodes node = node == 0 || not (zone_at nodes (node - 1) == zone_at nodes node)

-- the node whose chord a contingency takes out
abbrev pub outage_node : ℕ → ℕ → ℕ
outage_node nodes outage = outage * (nodes / outages_of nodes)

-- the node whose line round the ring an element monitors
abbrev pub element_node : ℕ → ℕ → ℕ
element_node nodes element = element * nodes / elements_of nodes

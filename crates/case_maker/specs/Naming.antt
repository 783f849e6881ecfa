-- Codes of zones and nodes, and ids of branches. The nodes stand in a ring.
use Rattle.std.specs.Prelude.{ℕ, ◌+◌, ◌-◌, ◌%◌, List, [], ◌∷◌, ◌++◌, length, replicate, codes}
use Rattle.std.specs.Fmt.{decimal}
use Rattle.case_maker.specs.Layout.{zone_at, letter_of}

-- the text with a byte in front of it as often as it takes for so many bytes: 32 is the blank and 48 is `0`
abbrev pub filled : ℕ → ℕ → List ℕ → List ℕ
filled byte width text = replicate (width - length text) byte ++ text

-- the letter twice
abbrev pub zone_code : ℕ → List ℕ
zone_code zone = letter_of zone ∷ letter_of zone ∷ []

-- the zone's letter, `N`, the node's number in four digits, `1` and a blank
unfoldable pub node_code : ℕ → ℕ → List ℕ
node_code nodes node = letter_of (zone_at nodes node) ∷ (codes "N" ++ (filled 48 4 (decimal node) ++ codes "1 "))

-- the branch from a node to the one so many places after it: both codes and the order code 1, with blanks between them
unfoldable pub branch_id : ℕ → ℕ → ℕ → List ℕ
branch_id nodes node step = node_code nodes node ++ (codes " " ++ (node_code nodes ((node + step) % nodes) ++ codes " 1"))

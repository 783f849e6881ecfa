-- Nodes by their codes, which have 8 characters; a shorter name has blanks behind.
use Rattle.std.specs.Prelude.{ℕ, List, Option, map}
use Rattle.fb_types.specs.declared.grid.Node.{Node}
use Rattle.name_tables.specs.Names.{value_at, numbered_from}
use Rattle.name_tables.specs.Padding.{padded_name}

abbrev pub node_codes : List Node → List (List ℕ)
node_codes nodes = map (λ n. n.code) nodes

-- the place of the first node whose code is the name
abbrev pub node_named : List Node → List ℕ → Option ℕ
node_named nodes name = value_at (numbered_from 0 (node_codes nodes)) (padded_name 8 name)

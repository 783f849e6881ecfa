-- The net position of each two-letter code of a grid, in watts, and the branches whose reactance was raised, as a CSV table.
use Rattle.std.specs.Prelude.{ℕ, ℤ, neg_ℤ, ◌-ℤ◌, List, [], ◌∷◌, ◌++◌, map, filter, codes, if◌then◌else◌}
use Rattle.std.specs.Fmt.{signed_decimal}
use Rattle.std.specs.Str.{bytes_eq}
use Rattle.whole_laws.specs.Sums.{sum_over}
use Rattle.csv_rows.specs.Tables.{table_text}
use Rattle.fb_types.specs.declared.grid.Node.{Node}
use Rattle.fb_types.specs.declared.grid.Branch.{Branch}

-- the codes with a further one at the end, if it is not among them
abbrev pub with_code : List (List ℕ) → List ℕ → List (List ℕ)
with_code [] code = code ∷ []
with_code (c ∷ cs) code = if bytes_eq code c then c ∷ cs else c ∷ with_code cs code

-- the same with the codes of nodes, one after another
abbrev pub with_codes : List (List ℕ) → List Node → List (List ℕ)
with_codes cs [] = cs
with_codes cs (node ∷ nodes) = with_codes (with_code cs node.zone) nodes

-- the codes of the nodes, each once, in the order of its first node
abbrev pub codes_of : List Node → List (List ℕ)
codes_of nodes = with_codes [] nodes

-- what a node feeds in: produced power is negative
abbrev pub injection_of : Node → ℤ
injection_of node = neg_ℤ node.load -ℤ node.generation

-- the net position of a code: the sum over its nodes
abbrev pub net_of : List ℕ → List Node → ℤ
net_of code nodes = sum_over injection_of (filter (λ node. bytes_eq node.zone code) nodes)

-- the codes with their net positions
abbrev pub nets_of : List Node → List (List ℕ × ℤ)
nets_of nodes = map (λ code. (code, net_of code nodes)) (codes_of nodes)

-- a record for each code and its net position
abbrev pub rows_of : List (List ℕ × ℤ) → List (List (List ℕ))
rows_of nets = map (λ n. n.0 ∷ signed_decimal n.1 ∷ []) nets

-- a record for each branch whose reactance was raised
abbrev pub note_rows : List Branch → List (List (List ℕ))
note_rows branches = map (λ branch. codes "note" ∷ branch.id ∷ []) (filter (λ branch. branch.floored) branches)

abbrev pub header : List (List ℕ)
header = codes "code" ∷ codes "net" ∷ []

abbrev pub net_text : List Node → List Branch → List ℕ
net_text nodes branches = table_text (header ∷ (rows_of (nets_of nodes) ++ note_rows branches))

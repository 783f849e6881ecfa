-- The grid of a case, in the UCTE data exchange format. What is drawn is drawn in the order of the lines, from a state on.
use Rattle.std.specs.Prelude.{ℕ, suc, ◌+◌, ◌*◌, ◌/◌, ◌%◌, ℤ, negsuc, List, [], ◌++◌, replicate, codes, if◌then◌else◌, ◌==◌}
use Rattle.std.specs.Fmt.{decimal, signed_decimal}
use Rattle.std.specs.List.{flat_map, range_with_len}
use Rattle.case_maker.specs.Drawing.{state_after, draw_at}
use Rattle.case_maker.specs.Layout.{zone_at, starts_zone}
use Rattle.case_maker.specs.Naming.{filled, zone_code, node_code, branch_id}

-- ---- Nodes, of which each draws two numbers

-- the load of a node, in MW
abbrev pub load_of : ℕ → ℕ
load_of state = 1 + draw_at state 0 100

-- the generation of a node, in MW: -1 less the number that is drawn
abbrev pub generation_of : ℕ → ℤ
generation_of state = negsuc (draw_at state 1 120)

-- the type of a node: the first one is the slack
abbrev pub kind_of : ℕ → ℕ
kind_of node = if node == 0 then 3 else 0

-- The line of a node: its code, the status in column 23, the type in column 25; the load ends in column 40 and the
-- generation in column 56.
abbrev pub node_line : ℕ → ℕ → ℕ → List ℕ
node_line state nodes node = node_code nodes node ++ (replicate 14 32 ++ (codes "0 " ++ (decimal (kind_of node)
    ++ (filled 32 15 (decimal (load_of state)) ++ (filled 32 16 (signed_decimal (generation_of state)) ++ codes "\n")))))

-- the line of a zone, which stands before its first node
abbrev pub zone_line : ℕ → ℕ → List ℕ
zone_line nodes node = if starts_zone nodes node then codes "##Z" ++ (zone_code (zone_at nodes node) ++ codes "\n") else []

-- a node, after the line of its zone if it is the first one there
abbrev pub node_lines : ℕ → ℕ → ℕ → List ℕ
node_lines state nodes node = zone_line nodes node ++ node_line (state_after state (2 * node)) nodes node

abbrev pub nodes_text : ℕ → ℕ → List ℕ
nodes_text state nodes = flat_map (node_lines state nodes) (range_with_len 0 nodes)

-- ---- Branches, of which each draws one number

-- the reactance of a branch, in hundredths of an ohm
abbrev pub reactance_of : ℕ → ℕ
reactance_of state = 100 + draw_at state 0 4000

-- hundredths with a point and two decimals
abbrev pub hundredths_text : ℕ → List ℕ
hundredths_text n = decimal (n / 100) ++ (codes "." ++ filled 48 2 (decimal (n % 100)))

-- The line of a branch: both codes and the order code, the status in column 21; the reactance ends in column 35.
abbrev pub branch_line : ℕ → ℕ → ℕ → ℕ → List ℕ
branch_line state nodes node step = branch_id nodes node step ++ (codes " 0" ++ (filled 32 14 (hundredths_text (reactance_of state)) ++ codes "\n"))

-- of a node the line to the next one and the chord to the seventh after it
abbrev pub branch_lines : ℕ → ℕ → ℕ → List ℕ
branch_lines state nodes node = branch_line (state_after state (2 * node)) nodes node 1 ++ branch_line (state_after state (suc (2 * node))) nodes node 7

abbrev pub branches_text : ℕ → ℕ → List ℕ
branches_text state nodes = flat_map (branch_lines state nodes) (range_with_len 0 nodes)

-- ---- The grid

abbrev pub grid_text : ℕ → ℕ → List ℕ
grid_text state nodes = codes "##N\n" ++ (nodes_text state nodes ++ (codes "##L\n" ++ branches_text (state_after state (2 * nodes)) nodes))

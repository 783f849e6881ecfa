-- The grid of a file in the UCTE data exchange format, and its first fault.
use Rattle.std.specs.Prelude.{◌≡◌, ◌⊎◌, ℕ, ◌<◌, List, [], map, length, Option, Some, None, Result, Ok, Err, is_none, if◌then◌else◌}
use Rattle.fb_types.specs.declared.grid.Node.{Node}
use Rattle.fb_types.specs.declared.grid.Grid.{Grid}
use Rattle.ucte_lines.specs.Lines.{characters_of, is_heading, is_blank_line, key_of}
use Rattle.first_fault.specs.FirstFault.{IsFirstFault, HasNoFault}
use Rattle.ucte_reader.specs.Blocks.{Placed, block_of, placed}
use Rattle.ucte_reader.specs.Nodes.{node_fault}
use Rattle.ucte_reader.specs.Branches.{branch_fault}
use Rattle.ucte_reader.specs.Regulations.{regulation_fault}
use Rattle.ucte_reader.specs.Facts.{Names, nodes_of, ids_of, regulations_of, branches_of, names_of}
use Rattle.ucte_reader.specs.declared.block.Block.{Block}
use Rattle.ucte_reader.specs.declared.block.Block.TheVariants.{Outside, Skipped, Nodes, Zone, Branches, Regulations}
use Rattle.ucte_reader.specs.declared.kind.GridKind.{GridKind}
use Rattle.ucte_reader.specs.declared.kind.GridKind.TheVariants.{UnknownBlock, NoNodes}
use Rattle.ucte_reader.specs.declared.kind.GridError.{GridError}
use Rattle.ucte_reader.specs.declared.kind.GridError.TheVariants.{Fault, Memory}

-- what stood on the lines before: the nodes, the ids of the branches and the ids of the regulations
pub record Earlier : Type 0 where
  pub nodes : List Node
  pub ids : List (List ℕ)
  pub regulated : List (List ℕ)

abbrev pub earlier_of : List Placed → Earlier
earlier_of before = record { nodes = nodes_of before; ids = ids_of before; regulated = map (λ r. r.0) (regulations_of before) }

-- the fault of a line that says something; C, TT and E hold anything, and N holds nothing outside its zones
abbrev pub entry_fault : Names → Earlier → Block → List ℕ → Option GridKind
entry_fault names earlier Outside text = Some UnknownBlock
entry_fault names earlier Skipped text = None
entry_fault names earlier Nodes text = Some UnknownBlock
entry_fault names earlier (Zone zone) text = node_fault earlier.nodes zone text
entry_fault names earlier (Branches form) text = branch_fault names.is_node earlier.ids form text
entry_fault names earlier Regulations text = regulation_fault names.is_transformer earlier.regulated text

-- the fault of any line
abbrev pub line_fault : Names → Earlier → Block → List ℕ → Option GridKind
line_fault names earlier block text =
    if is_heading text then (if is_none (block_of block (key_of text)) then Some UnknownBlock else None)
    else (if is_blank_line text then None
    else entry_fault names earlier block text)

-- the fault of a line, knowing these names, after the lines before it
abbrev pub fault_by : Names → List Placed → Placed → Option GridKind
fault_by names before p = line_fault names (earlier_of before) p.block p.text

-- the fault of a line of the file, knowing all nodes and transformers of the file
abbrev pub fault_among : List Placed → List Placed → Placed → Option GridKind
fault_among all = fault_by (names_of all)

-- the lines of a file, each in its block
abbrev pub file_of : List ℕ → List Placed
file_of bytes = placed (characters_of bytes)

-- this line has the first fault of the file, or no line has one, there is no node, and this is NoNodes at line 0
abbrev pub IsGridFault : List ℕ → ℕ → GridKind → Type 0
IsGridFault bytes line kind =
    IsFirstFault (fault_among (file_of bytes)) (file_of bytes) line kind
    ⊎ (HasNoFault (fault_among (file_of bytes)) (file_of bytes) × (nodes_of (file_of bytes) ≡ []) × (line ≡ 0) × (kind ≡ NoNodes))

-- no line has a fault, there is a node, and these are the nodes and the branches of the file
pub record IsGridOf (bytes : List ℕ) (grid : Grid) : Type 0 where
  pub no_fault : HasNoFault (fault_among (file_of bytes)) (file_of bytes)
  pub some_node : 0 < length (nodes_of (file_of bytes))
  pub nodes : grid.nodes ≡ nodes_of (file_of bytes)
  pub branches : grid.branches ≡ branches_of (file_of bytes)

-- what reading a file gives, unless memory runs out
abbrev pub Reads : List ℕ → Result Grid GridError → Type 0
Reads bytes (Ok grid) = IsGridOf bytes grid
Reads bytes (Err (Memory e)) = Unit {0}
Reads bytes (Err (Fault line kind)) = IsGridFault bytes line kind

-- an answer is this fault, unless memory runs out
abbrev pub IsFault : ℕ → GridKind → Result Grid GridError → Type 0
IsFault line kind (Ok grid) = ⊥
IsFault line kind (Err (Memory e)) = Unit {0}
IsFault line kind (Err (Fault l k)) = (l ≡ line) × (k ≡ kind)

-- an answer is a grid, unless memory runs out
abbrev pub IsGrid : Result Grid GridError → Type 0
IsGrid (Ok grid) = Unit {0}
IsGrid (Err (Memory e)) = Unit {0}
IsGrid (Err (Fault line kind)) = ⊥

-- What the lines of a file say, each in its block.
use Rattle.std.specs.Prelude.{ℕ, ℤ, pos, Bool, List, Option, Some, None, is_some, unwrap_or, if◌then◌else◌}
use Rattle.std.specs.List.{filter_map}
use Rattle.fb_types.specs.declared.grid.Node.{Node}
use Rattle.fb_types.specs.declared.grid.Branch.{Branch}
use Rattle.name_tables.specs.Names.{is_among, value_at, numbered_from}
use Rattle.ucte_reader.specs.Blocks.{Placed, is_entry}
use Rattle.ucte_reader.specs.Codes.{id_text}
use Rattle.ucte_reader.specs.Nodes.{node_of, node_codes}
use Rattle.ucte_reader.specs.Branches.{branch_of}
use Rattle.ucte_reader.specs.Regulations.{shift_of}
use Rattle.ucte_reader.specs.declared.block.Form.TheVariants.{Transformer}
use Rattle.ucte_reader.specs.declared.block.Block.{Block}
use Rattle.ucte_reader.specs.declared.block.Block.TheVariants.{Zone, Branches, Regulations}

-- ---- one line

-- the node of a line in the block of a zone
abbrev pub node_in : Block → List ℕ → Option Node
node_in (Zone zone) text = if is_entry text then Some (node_of zone text) else None
node_in _ text = None

-- the branch of a line in a block of lines or of transformers
abbrev pub branch_in : (List ℕ → ℕ) → (List ℕ → ℤ) → Block → List ℕ → Option Branch
branch_in place_at shift_at (Branches form) text = if is_entry text then Some (branch_of place_at shift_at form text) else None
branch_in place_at shift_at _ text = None

-- its id
abbrev pub id_in : Block → List ℕ → Option (List ℕ)
id_in (Branches form) text = if is_entry text then Some (id_text text) else None
id_in _ text = None

-- the id of a line in the block of transformers
abbrev pub transformer_in : Block → List ℕ → Option (List ℕ)
transformer_in (Branches Transformer) text = if is_entry text then Some (id_text text) else None
transformer_in _ text = None

-- the id and the phase shift of a line in the block of regulations
abbrev pub regulation_in : Block → List ℕ → Option (List ℕ × ℤ)
regulation_in Regulations text = if is_entry text then Some (id_text text, shift_of text) else None
regulation_in _ text = None

-- ---- all lines

abbrev pub nodes_of : List Placed → List Node
nodes_of lines = filter_map (λ p. node_in p.block p.text) lines

abbrev pub branches_by : (List ℕ → ℕ) → (List ℕ → ℤ) → List Placed → List Branch
branches_by place_at shift_at lines = filter_map (λ p. branch_in place_at shift_at p.block p.text) lines

abbrev pub ids_of : List Placed → List (List ℕ)
ids_of lines = filter_map (λ p. id_in p.block p.text) lines

abbrev pub transformers_of : List Placed → List (List ℕ)
transformers_of lines = filter_map (λ p. transformer_in p.block p.text) lines

abbrev pub regulations_of : List Placed → List (List ℕ × ℤ)
regulations_of lines = filter_map (λ p. regulation_in p.block p.text) lines

-- the codes of all nodes with their places, counted from 0
abbrev pub places_of : List Placed → List (List ℕ × ℕ)
places_of lines = numbered_from 0 (node_codes (nodes_of lines))

-- the names that the lines are judged by: the nodes and the transformers of the file
pub record Names : Type 0 where
  pub is_node : List ℕ → Bool
  pub is_transformer : List ℕ → Bool

abbrev pub names_of : List Placed → Names
names_of lines = record { is_node = λ code. is_some (value_at (places_of lines) code); is_transformer = λ id. is_among (transformers_of lines) id }

-- the place of the node of a code
abbrev pub place_of : List Placed → List ℕ → ℕ
place_of lines code = unwrap_or (value_at (places_of lines) code) 0

-- the phase shift that the regulation of a transformer gives, and 0 without one
abbrev pub phase_of : List Placed → List ℕ → ℤ
phase_of lines id = unwrap_or (value_at (regulations_of lines) id) (pos 0)

-- the branches, each by its own line, the places of its nodes and the regulation of its id
abbrev pub branches_of : List Placed → List Branch
branches_of lines = branches_by (place_of lines) (phase_of lines) lines

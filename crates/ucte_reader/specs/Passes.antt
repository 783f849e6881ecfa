-- How the two passes go over the lines. Nobody need believe these words: the contracts that cite them are private.
use Rattle.std.specs.Prelude.{◌≡◌, ℕ, ◌||◌, List, ◌++◌, length, map, Result, Ok, Err}
use Rattle.name_tables.specs.Names.{is_among, numbered_from, value_at}
use Rattle.ucte_lines.specs.Lines.{lines_of}
use Rattle.first_fault.specs.FirstFault.{IsFirstFault, HasNoFault}
use Rattle.ucte_reader.specs.Blocks.{Placed, placed_from}
use Rattle.ucte_reader.specs.Nodes.{node_codes}
use Rattle.ucte_reader.specs.Facts.{nodes_of, branches_by, transformers_of, regulations_of, places_of}
use Rattle.ucte_reader.specs.File.{Earlier, fault_by}
use Rattle.ucte_reader.specs.Steps.{KeepsNodes, KeepsBranches, branch_ids, names_in, place_in, shift_in}
use Rattle.ucte_reader.specs.declared.block.Block.{Block}
use Rattle.ucte_reader.specs.declared.known.Known.{Known}
use Rattle.ucte_reader.specs.declared.passes.Draft.{Draft}
use Rattle.ucte_reader.specs.declared.kind.LineError.{LineError}
use Rattle.ucte_reader.specs.declared.kind.LineError.TheVariants as lines
use Rattle.ucte_reader.specs.declared.kind.GridError.{GridError}
use Rattle.ucte_reader.specs.declared.kind.GridError.TheVariants.{Fault, Memory}

-- the lines of a text that is left, with the block that is open before it
abbrev pub left : Block → List ℕ → List Placed
left block text = placed_from block (lines_of text)

-- ---- the first pass

-- the tables, with what the lines that are left add, are those of all lines
pub record AreNoted (known : Known) (rest all : List Placed) : Type 0 where
  pub places : (code : List ℕ) → value_at (known.places ++ numbered_from known.count (node_codes (nodes_of rest))) code ≡ value_at (places_of all) code
  pub transformers : (id : List ℕ) → (is_among known.transformers id || is_among (transformers_of rest) id) ≡ is_among (transformers_of all) id
  pub shifts : (id : List ℕ) → value_at (known.shifts ++ regulations_of rest) id ≡ value_at (regulations_of all) id

-- the tables are those of all lines
pub record IsKnown (known : Known) (all : List Placed) : Type 0 where
  pub places : (code : List ℕ) → value_at known.places code ≡ value_at (places_of all) code
  pub transformers : (id : List ℕ) → is_among known.transformers id ≡ is_among (transformers_of all) id
  pub shifts : (id : List ℕ) → value_at known.shifts id ≡ value_at (regulations_of all) id

-- ---- the second pass

pub record IsDraft (draft : Draft) : Type 0 where
  pub nodes : KeepsNodes draft.nodes
  pub branches : KeepsBranches draft.branches

abbrev pub earlier_in : Draft → Earlier
earlier_in draft = record { nodes = draft.nodes.nodes.items; ids = branch_ids draft.branches.branches.items; regulated = draft.regulated }

-- these lines, which have no fault, were taken
pub record HasTaken (known : Known) (lines : List Placed) (draft : Draft) : Type 0 where
  pub kept : IsDraft draft
  pub no_fault : HasNoFault (fault_by (names_in known)) lines
  pub nodes : draft.nodes.nodes.items ≡ nodes_of lines
  pub branches : draft.branches.branches.items ≡ branches_by (place_in known) (shift_in known) lines
  pub regulated : draft.regulated ≡ map (λ r. r.0) (regulations_of lines)

-- where the second pass stands: so many lines were taken, and these are left
pub record Stands (known : Known) (all rest : List Placed) (number : ℕ) (draft : Draft) : Type 0 where
  pub before : List Placed
  pub split : all ≡ before ++ rest
  pub count : number ≡ length before
  pub taken : HasTaken known before draft

-- a line's error, with the line's number
abbrev pub error_at : ℕ → LineError → GridError
error_at line (lines.Fault kind) = Fault line kind
error_at line (lines.Memory e) = Memory e

-- what the second pass gives
abbrev pub Finds : Known → List Placed → Result Draft GridError → Type 0
Finds known all (Ok draft) = HasTaken known all draft
Finds known all (Err (Memory e)) = Unit {0}
Finds known all (Err (Fault line kind)) = IsFirstFault (fault_by (names_in known)) all line kind

-- The blocks of a file in the UCTE data exchange format, and the lines in them.
use Rattle.std.specs.Prelude.{ℕ, Bool, true, false, not, ◌==◌, ◌||◌, ◌&&◌, List, [], ◌∷◌, Option, Some, None, unwrap_or, if◌then◌else◌}
use Rattle.ucte_lines.specs.Lines.{lines_of, is_heading, is_blank_line, key_of}
use Rattle.ucte_reader.specs.declared.block.Form.TheVariants as form
use Rattle.ucte_reader.specs.declared.block.Block.{Block}
use Rattle.ucte_reader.specs.declared.block.Block.TheVariants.{Outside, Skipped, Nodes, Zone, Branches, Regulations}

-- within the block of key N: the blocks of the zones are part of it
abbrev pub is_in_nodes : Block → Bool
is_in_nodes Outside = false
is_in_nodes Skipped = false
is_in_nodes Nodes = true
is_in_nodes (Zone zone) = true
is_in_nodes (Branches form) = false
is_in_nodes Regulations = false

-- the block that a key opens: C, E, N, L, T, R, TT or, within N, Z with two characters
abbrev pub block_of : Block → List ℕ → Option Block
block_of block [] = None
block_of block (a ∷ []) =
    if (a == 67) || (a == 69) then Some Skipped
    else (if a == 78 then Some Nodes
    else (if a == 76 then Some (Branches form.Line)
    else (if a == 84 then Some (Branches form.Transformer)
    else (if a == 82 then Some Regulations else None))))
block_of block (a ∷ b ∷ []) = if (a == 84) && (b == 84) then Some Skipped else None
block_of block (a ∷ b ∷ c ∷ []) = if (a == 90) && is_in_nodes block then Some (Zone (record { first = b; second = c })) else None
block_of block (a ∷ b ∷ c ∷ d ∷ cs) = None

-- a line, with the block that is open before it
pub record Placed : Type 0 where
  pub block : Block
  pub text : List ℕ

-- the block that is open after a line; after a heading of no block none is open
abbrev pub block_after : Block → List ℕ → Block
block_after block line = if is_heading line then unwrap_or (block_of block (key_of line)) Outside else block

abbrev pub placed_from : Block → List (List ℕ) → List Placed
placed_from block [] = []
placed_from block (line ∷ lines) = record { block = block; text = line } ∷ placed_from (block_after block line) lines

-- the lines of a text, each in its block
unfoldable pub placed : List ℕ → List Placed
placed text = placed_from Outside (lines_of text)

-- a line that says something: neither a heading nor blank
abbrev pub is_entry : List ℕ → Bool
is_entry text = not (is_heading text) && not (is_blank_line text)

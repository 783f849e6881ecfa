-- The tables after one more line.
use Rattle.std.proofs.Common.{◌≡◌, ℕ, ℤ, ◌+◌, Bool, true, false, cond, ◌||◌, List, [], ◌∷◌, ◌++◌, length, map, Option, Some, None, refl, sym, ap, ◌∙◌, ◌≤◌, ◌==◌, add-zero, arith}
use Rattle.std.specs.Option.{option_to_list}
use Rattle.std.specs.List.{cons_option}
use Rattle.std.specs.Str.{bytes_eq}
use Rattle.std.proofs.lemmas.Bool.{eqb-true}
use Rattle.std.proofs.lemmas.List.{append-nil}
use Rattle.std.proofs.lemmas.List.Folds.{list_any-append}
use Rattle.std.proofs.lemmas.Slice.Eq.{bytes_eq-Decides}
use Rattle.fb_types.specs.declared.grid.Node.{Node}
use Rattle.name_tables.specs.Names.{is_among, value_at, numbered_from}
use Rattle.name_tables.specs.Tables.{with_name, with_names, with_entries}
use Rattle.name_tables.proofs.EntryLaws.{value_at-with_entry}
use Rattle.ucte_lines.specs.Lines.{pieces_of, without_return}
use Rattle.ucte_reader.specs.Blocks.{Placed, placed_from, block_after}
use Rattle.ucte_reader.specs.Nodes.{node_codes}
use Rattle.ucte_reader.specs.Facts.{node_in, transformer_in, regulation_in, nodes_of, transformers_of, regulations_of}
use Rattle.ucte_reader.specs.Passes.{left, AreNoted, IsKnown}
use Rattle.ucte_reader.specs.declared.block.Block.{Block}
use Rattle.ucte_reader.specs.declared.known.Known.{Known}

-- ---- the first of the lines that are left

pub left_step : (block : Block) (rest line after : List ℕ) → pieces_of rest ≡ line ∷ pieces_of after
    → left block rest ≡ record { block = block; text = without_return line } ∷ left (block_after block (without_return line)) after
left_step block rest line after e = ap (λ (ls : List (List ℕ)). placed_from block (map without_return ls)) e

-- ---- one more entry

noted_places : (entries : List (List ℕ × ℕ)) (count : ℕ) (node : Option Node) (nodes : List Node) (q : List ℕ)
    → value_at (with_entries entries (numbered_from count (node_codes (option_to_list node))) ++ numbered_from (count + length (option_to_list node)) (node_codes nodes)) q
    ≡ value_at (entries ++ numbered_from count (node_codes (cons_option node nodes))) q
noted_places entries count None nodes q = ap (λ (n : ℕ). value_at (entries ++ numbered_from n (node_codes nodes)) q) (add-zero count)
noted_places entries count (Some n) nodes q = value_at-with_entry entries (numbered_from (count + 1) (node_codes nodes)) n.code count q

noted_shifts : (entries : List (List ℕ × ℤ)) (regulation : Option (List ℕ × ℤ)) (regulations : List (List ℕ × ℤ)) (q : List ℕ)
    → value_at (with_entries entries (option_to_list regulation) ++ regulations) q ≡ value_at (entries ++ cons_option regulation regulations) q
noted_shifts entries None regulations q = refl
noted_shifts entries (Some r) regulations q = value_at-with_entry entries regulations r.0 r.1 q

-- ---- one more name

or_assoc : (a b c : Bool) → ((a || b) || c) ≡ (a || (b || c))
or_assoc true b c = refl
or_assoc false b c = refl

-- an equal name is there already
absorbed : (a b : Bool) → (b ≡ true → a ≡ true) → a ≡ (a || b)
absorbed true b h = refl
absorbed false true h = h refl
absorbed false false h = refl

or_false : (a : Bool) → (a || false) ≡ a
or_false true = refl
or_false false = refl

is_among-with_name : (names : List (List ℕ)) (name q : List ℕ) → is_among (with_name names name) q ≡ (is_among names q || bytes_eq q name)
is_among-with_name names name q = by_test (is_among names name) refl
  where
    by_test : (b : Bool) → is_among names name ≡ b → is_among (cond b names (names ++ name ∷ [])) q ≡ (is_among names q || bytes_eq q name)
    by_test true e = absorbed (is_among names q) (bytes_eq q name) (λ h. ap (is_among names) ((bytes_eq-Decides q name).0 h) ∙ e)
    by_test false e = list_any-append (λ n. bytes_eq q n) names (name ∷ []) ∙ ap (λ (b : Bool). is_among names q || b) (or_false (bytes_eq q name))

noted_names : (names : List (List ℕ)) (name : Option (List ℕ)) (more : List (List ℕ)) (q : List ℕ)
    → (is_among (with_names names (option_to_list name)) q || is_among more q) ≡ (is_among names q || is_among (cons_option name more) q)
noted_names names None more q = refl
noted_names names (Some n) more q = ap (λ (b : Bool). b || is_among more q) (is_among-with_name names n q) ∙ or_assoc (is_among names q) (bytes_eq q n) (is_among more q)

-- ---- one more line

pub AreNoted-step : (old new : Known) (block : Block) (line : List ℕ) (rest all : List Placed) → AreNoted old (record { block = block; text = line } ∷ rest) all
    → new.places ≡ with_entries old.places (numbered_from old.count (node_codes (option_to_list (node_in block line))))
    → new.count ≡ old.count + length (option_to_list (node_in block line))
    → new.transformers ≡ with_names old.transformers (option_to_list (transformer_in block line))
    → new.shifts ≡ with_entries old.shifts (option_to_list (regulation_in block line))
    → AreNoted new rest all
AreNoted-step old new block line rest all noted places count transformers shifts = record {
  places = λ code.
      ap (λ (es : List (List ℕ × ℕ)). value_at (es ++ numbered_from new.count (node_codes (nodes_of rest))) code) places
      ∙ ap (λ (n : ℕ). value_at (with_entries old.places (numbered_from old.count (node_codes (option_to_list (node_in block line)))) ++ numbered_from n (node_codes (nodes_of rest))) code) count
      ∙ noted_places old.places old.count (node_in block line) (nodes_of rest) code ∙ noted.places code;
  transformers = λ id.
      ap (λ (names : List (List ℕ)). is_among names id || is_among (transformers_of rest) id) transformers
      ∙ noted_names old.transformers (transformer_in block line) (transformers_of rest) id ∙ noted.transformers id;
  shifts = λ id.
      ap (λ (es : List (List ℕ × ℤ)). value_at (es ++ regulations_of rest) id) shifts
      ∙ noted_shifts old.shifts (regulation_in block line) (regulations_of rest) id ∙ noted.shifts id;
}

pub IsKnown-from_noted : (known : Known) (all : List Placed) → AreNoted known [] all → IsKnown known all
IsKnown-from_noted known all noted = record {
  places = λ code. ap (λ (es : List (List ℕ × ℕ)). value_at es code) (sym (append-nil known.places)) ∙ noted.places code;
  transformers = λ id. sym (or_false (is_among known.transformers id)) ∙ noted.transformers id;
  shifts = λ id. ap (λ (es : List (List ℕ × ℤ)). value_at es id) (sym (append-nil known.shifts)) ∙ noted.shifts id;
}

-- ---- lengths

pub length-option_to_list : {X : Type 0} (o : Option X) → length (option_to_list o) ≤ 1
length-option_to_list None = omega arith
length-option_to_list (Some x) = omega arith

pub empty_is : (xs : List ℕ) → (length xs == 0) ≡ true → xs ≡ []
empty_is [] e = refl
empty_is (x ∷ xs) e = let none : length (x ∷ xs) ≡ 0 = eqb-true (length (x ∷ xs)) 0 e in absurd (omega (arith, none))

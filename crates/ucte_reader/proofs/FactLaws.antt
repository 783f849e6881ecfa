-- What one more line adds to what the lines say.
use Rattle.std.proofs.Common.{◌≡◌, ℕ, ℤ, Bool, true, false, cond, List, [], ◌∷◌, ◌++◌, Option, Some, None, refl, ap, ◌∙◌}
use Rattle.std.specs.Option.{option_to_list, option_map}
use Rattle.std.specs.List.{filter_map, cons_option}
use Rattle.std.proofs.lemmas.List.Elements.{filter_map-append}
use Rattle.fb_types.specs.declared.grid.Branch.{Branch}
use Rattle.ucte_reader.specs.Blocks.{Placed, is_entry}
use Rattle.ucte_reader.specs.Codes.{id_text}
use Rattle.ucte_reader.specs.Branches.{branch_of}
use Rattle.ucte_reader.specs.Facts.{branch_in, id_in, branches_by, ids_of}
use Rattle.ucte_reader.specs.Steps.{branch_ids}
use Rattle.ucte_reader.specs.declared.block.Form.{Form}
use Rattle.ucte_reader.specs.declared.block.Block.{Block}
use Rattle.ucte_reader.specs.declared.block.Block.TheVariants.{Outside, Skipped, Nodes, Zone, Branches, Regulations}
use Rattle.ucte_reader.proofs.BranchLaws.{branch_of-id}

pub filter_map-push : {X Y : Type 0} (f : X → Option Y) (xs : List X) (x : X) → filter_map f (xs ++ x ∷ []) ≡ filter_map f xs ++ option_to_list (f x)
filter_map-push {X} {Y} f xs x = filter_map-append f xs (x ∷ []) ∙ ap (λ (ys : List Y). filter_map f xs ++ ys) (one (f x))
  where
    one : (o : Option Y) → cons_option o [] ≡ option_to_list o
    one None = refl
    one (Some y) = refl

id_of_entry : (place : List ℕ → ℕ) (shift : List ℕ → ℤ) (form : Form) (text : List ℕ) (b : Bool)
    → option_map (λ (x : Branch). x.id) (cond b (Some (branch_of place shift form text)) None) ≡ cond b (Some (id_text text)) None
id_of_entry place shift form text true = ap (λ (i : List ℕ). Some i) (branch_of-id place shift form text)
id_of_entry place shift form text false = refl

id_in-branch_in : (place : List ℕ → ℕ) (shift : List ℕ → ℤ) (block : Block) (text : List ℕ) → option_map (λ (x : Branch). x.id) (branch_in place shift block text) ≡ id_in block text
id_in-branch_in place shift Outside text = refl
id_in-branch_in place shift Skipped text = refl
id_in-branch_in place shift Nodes text = refl
id_in-branch_in place shift (Zone z) text = refl
id_in-branch_in place shift (Branches form) text = id_of_entry place shift form text (is_entry text)
id_in-branch_in place shift Regulations text = refl

ids_of_option : (o : Option Branch) (branches : List Branch) → branch_ids (cons_option o branches) ≡ cons_option (option_map (λ (x : Branch). x.id) o) (branch_ids branches)
ids_of_option None branches = refl
ids_of_option (Some b) branches = refl

pub branch_ids-branches_by : (place : List ℕ → ℕ) (shift : List ℕ → ℤ) (lines : List Placed) → branch_ids (branches_by place shift lines) ≡ ids_of lines
branch_ids-branches_by place shift [] = refl
branch_ids-branches_by place shift (p ∷ ps) =
    ids_of_option (branch_in place shift p.block p.text) (branches_by place shift ps)
    ∙ ap (λ (o : Option (List ℕ)). cons_option o (branch_ids (branches_by place shift ps))) (id_in-branch_in place shift p.block p.text)
    ∙ ap (cons_option (id_in p.block p.text)) (branch_ids-branches_by place shift ps)

-- A node line that has no fault, and the node that it adds.
use Rattle.std.proofs.Common.{◌≡◌, ℕ, ℤ, pos, ◌+◌, ◌^◌, Bool, true, false, cond, not, ◌||◌, List, [], ◌∷◌, ◌++◌, length, Option, Some, None, refl, sym, ap, ◌∙◌}
use Rattle.std.specs.Prelude.{is_none, unwrap_or, nat_lt, sum_by}
use Rattle.std.specs.Option.{option_or}
use Rattle.fb_types.specs.GridRanges.{exchange_of}
use Rattle.fb_types.specs.declared.grid.Node.{Node}
use Rattle.name_tables.specs.Names.{is_among}
use Rattle.name_tables.specs.Tables.{with_name}
use Rattle.ucte_reader.specs.Codes.{first_code, is_code, level_of, code_text}
use Rattle.first_fault.specs.Checks.{first_failing}
use Rattle.ucte_reader.specs.Nodes.{zone_text, kind_in, load_in, generation_in, node_of, node_codes, node_fault}
use Rattle.ucte_reader.specs.Steps.{power_fault, node_field_fault, node_limit_fault, ArePowers}
use Rattle.ucte_reader.specs.declared.block.ZoneCode.{ZoneCode}
use Rattle.ucte_reader.specs.declared.kind.GridKind.{GridKind}
use Rattle.ucte_reader.specs.declared.kind.GridKind.TheVariants.{BadCode, DuplicateNode, BadStatus, BadNumber, InjectionOutOfRange, TooMany}
use Rattle.first_fault.proofs.CheckLaws.{first_failing-append}

pub node_field_fault-none : (line : List ℕ) (kind : ℕ) → kind_in line ≡ Some kind → power_fault line ≡ None → node_field_fault line ≡ None
node_field_fault-none line kind known none = ap (λ (o : Option ℕ). cond (is_none o) (Some BadStatus) (power_fault line)) known ∙ none

pub node_of-is : (zone : ZoneCode) (line : List ℕ) (n : Node) → n.code ≡ code_text (first_code line) → n.zone ≡ zone_text zone → n.level ≡ level_of (first_code line)
    → kind_in line ≡ Some n.kind → ArePowers line n.load n.generation → n ≡ node_of zone line
unfolding node_of
node_of-is zone line n code_is zone_is level_is kind_is powers =
    let kind : n.kind ≡ unwrap_or (kind_in line) 0 = sym (ap (λ (o : Option ℕ). unwrap_or o 0) kind_is) in
    let load : n.load ≡ unwrap_or (load_in line) (pos 0) = sym (ap (λ (o : Option ℤ). unwrap_or o (pos 0)) powers.load_is) in
    let generation : n.generation ≡ unwrap_or (generation_in line) (pos 0) = sym (ap (λ (o : Option ℤ). unwrap_or o (pos 0)) powers.generation_is) in
    λ i. record { code = code_is i; zone = zone_is i; level = level_is i; kind = kind i; load = load i; generation = generation i }

-- behind the checks of the code
pub node_fault-behind : (earlier : List Node) (zone : ZoneCode) (line : List ℕ) → is_code (first_code line) ≡ true → is_among (node_codes earlier) (code_text (first_code line)) ≡ false
    → node_fault earlier zone line ≡ option_or (node_field_fault line) (node_limit_fault earlier (node_of zone line))
unfolding node_fault
node_fault-behind earlier zone line good fresh =
    ap (λ (b : Bool). cond (not b) (Some BadCode) (cond (is_among (node_codes earlier) (code_text (first_code line))) (Some DuplicateNode) (first_failing rest))) good
    ∙ ap (λ (b : Bool). cond b (Some DuplicateNode) (first_failing rest)) fresh
    ∙ first_failing-append fields limits
  where
    fields : List (Bool × GridKind)
    fields = (is_none (kind_in line), BadStatus) ∷ (is_none (load_in line) || is_none (generation_in line), BadNumber) ∷ []

    limits : List (Bool × GridKind)
    limits = (nat_lt (10 ^ 12) (sum_by exchange_of earlier + exchange_of (node_of zone line)), InjectionOutOfRange) ∷ (nat_lt 4096 (length earlier + 1), TooMany) ∷ []

    rest : List (Bool × GridKind)
    rest = fields ++ limits

-- a new name goes behind the codes
pub codes_with_name : (old new : List (List ℕ)) (nodes : List Node) (name code : List ℕ) → old ≡ node_codes nodes → is_among old name ≡ false → new ≡ with_name old name → code ≡ name
    → new ≡ node_codes nodes ++ code ∷ []
codes_with_name old new nodes name code old_is fresh new_is same =
    new_is ∙ ap (λ (b : Bool). cond b old (old ++ name ∷ [])) fresh ∙ ap (λ (xs : List (List ℕ)). xs ++ name ∷ []) old_is ∙ ap (λ (c : List ℕ). node_codes nodes ++ c ∷ []) (sym same)

pub node_of-code : (zone : ZoneCode) (line : List ℕ) → (node_of zone line).code ≡ code_text (first_code line)
unfolding node_of
node_of-code zone line = refl

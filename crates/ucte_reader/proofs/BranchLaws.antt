-- A line of a branch that has no fault, and the branch that it adds.
use Rattle.std.proofs.Common.{◌≡◌, ℕ, ℤ, pos, ◌+◌, ◌^◌, Bool, false, cond, not, ◌||◌, ◌&&◌, List, [], ◌∷◌, ◌++◌, length, Option, Some, None, refl, sym, ap, ◌∙◌}
use Rattle.std.specs.Prelude.{is_none, unwrap_or, nat_lt, nat_abs, int_lt, if◌then◌else◌}
use Rattle.std.specs.Option.{option_or}
use Rattle.fb_types.specs.declared.grid.Branch.{Branch}
use Rattle.name_tables.specs.Names.{is_among}
use Rattle.name_tables.specs.Tables.{with_name}
use Rattle.ucte_reader.specs.Codes.{first_code, second_code, code_text, id_text}
use Rattle.first_fault.specs.Checks.{first_failing}
use Rattle.ucte_reader.specs.Branches.{is_running, is_coupler, is_in_operation, branch_kind, status_in, reactance_in, voltage_in, current_limit_in, known_status, known_reactance, least_reactance, susceptance_in, phase_by, branch_of}
use Rattle.ucte_reader.specs.Steps.{IsElectrical, AreEnds, electrical_fault, joined_fault, branch_limit_fault, branch_ids, place_in}
use Rattle.ucte_reader.specs.declared.block.Form.{Form}
use Rattle.ucte_reader.specs.declared.status.Status.{Status}
use Rattle.ucte_reader.specs.declared.status.Status.TheVariants.{Out}
use Rattle.ucte_reader.specs.declared.known.Known.{Known}
use Rattle.ucte_reader.specs.declared.branches.Ends.{Ends}
use Rattle.ucte_reader.specs.declared.electrical.Electrical.{Electrical}
use Rattle.ucte_reader.specs.declared.kind.GridKind.{GridKind}
use Rattle.ucte_reader.specs.declared.kind.GridKind.TheVariants.{BadStatus, DuplicateBranch, BadNumber, NegativeReactance, SusceptanceOutOfRange, TooMany}
use Rattle.first_fault.proofs.CheckLaws.{first_failing-append}

known_status-is : (form : Form) (line : List ℕ) (status : Status) → status_in form line ≡ Some status → status ≡ known_status form line
known_status-is form line status known = sym (ap (λ (o : Option Status). unwrap_or o Out) known)

pub branch_of-is : (known : Known) (shift : List ℕ → ℤ) (form : Form) (status : Status) (line : List ℕ) (ends : Ends) (e : Electrical) (b : Branch)
    → status_in form line ≡ Some status → AreEnds known line ends → IsElectrical form status line e
    → b.id ≡ id_text line → b.kind ≡ branch_kind form status → b.from ≡ ends.from → b.to ≡ ends.to → b.in_operation ≡ is_in_operation status
    → b.b ≡ e.b → b.phi ≡ phase_by shift form (id_text line) → b.current ≡ e.current → b.floored ≡ e.floored
    → b ≡ branch_of (place_in known) shift form line
unfolding branch_of
branch_of-is known shift form status line ends e b status_is ends_are e_is id kind from to in_operation b_is phi current floored =
    let same = known_status-is form line status status_is in
    let kind_is : b.kind ≡ branch_kind form (known_status form line) = kind ∙ ap (branch_kind form) same in
    let from_is : b.from ≡ place_in known (code_text (first_code line)) = from ∙ ends_are.from_is in
    let to_is : b.to ≡ place_in known (code_text (second_code line)) = to ∙ ends_are.to_is in
    let operation_is : b.in_operation ≡ is_in_operation (known_status form line) = in_operation ∙ ap is_in_operation same in
    let b_same : b.b ≡ (if is_running (known_status form line) then pos (susceptance_in form line) else pos 0) = b_is ∙ e_is.b_is ∙ ap (λ (s : Status). if is_running s then pos (susceptance_in form line) else pos 0) same in
    let current_is : b.current ≡ unwrap_or (current_limit_in form line) None = current ∙ e_is.current_is in
    let floored_is : b.floored ≡ (is_running (known_status form line) && nat_lt (nat_abs (known_reactance form line)) least_reactance) = floored ∙ e_is.floored_is ∙ ap (λ (s : Status). is_running s && nat_lt (nat_abs (known_reactance form line)) least_reactance) same in
    λ i. record { id = id i; kind = kind_is i; from = from_is i; to = to_is i; in_operation = operation_is i; b = b_same i; phi = phi i; current = current_is i; floored = floored_is i }

pub branch_of-id : (place : List ℕ → ℕ) (shift : List ℕ → ℤ) (form : Form) (line : List ℕ) → (branch_of place shift form line).id ≡ id_text line
unfolding branch_of
branch_of-id place shift form line = refl

-- behind the checks of the status and the id
pub joined_fault-behind : (earlier : List (List ℕ)) (form : Form) (line : List ℕ) (status : Status) → status_in form line ≡ Some status → is_among earlier (id_text line) ≡ false
    → joined_fault earlier form line ≡ option_or (electrical_fault form status line) (branch_limit_fault earlier)
joined_fault-behind earlier form line status known fresh =
    ap (λ (o : Option Status). cond (is_none o) (Some BadStatus) (cond (is_among earlier (id_text line)) (Some DuplicateBranch) (first_failing (numbers (known_status form line) ++ limits)))) known
    ∙ ap (λ (b : Bool). cond b (Some DuplicateBranch) (first_failing (numbers (known_status form line) ++ limits))) fresh
    ∙ ap (λ (s : Status). first_failing (numbers s ++ limits)) (sym (known_status-is form line status known))
    ∙ first_failing-append (numbers status) limits
  where
    numbers : Status → List (Bool × GridKind)
    numbers s =
        ((is_none (reactance_in form line) && not (is_coupler s)) || is_none (voltage_in form line) || is_none (current_limit_in form line), BadNumber)
        ∷ (is_running s && int_lt (known_reactance form line) (pos 0), NegativeReactance)
        ∷ (is_running s && (nat_lt (susceptance_in form line) 1 || nat_lt (10 ^ 11) (susceptance_in form line)), SusceptanceOutOfRange)
        ∷ []

    limits : List (Bool × GridKind)
    limits = (nat_lt 16384 (length earlier + 1), TooMany) ∷ []

-- a new id goes behind the ids
pub ids_with_name : (old new : List (List ℕ)) (branches : List Branch) (name id : List ℕ) → old ≡ branch_ids branches → is_among old name ≡ false → new ≡ with_name old name → id ≡ name
    → new ≡ branch_ids branches ++ id ∷ []
ids_with_name old new branches name id old_is fresh new_is same =
    new_is ∙ ap (λ (b : Bool). cond b old (old ++ name ∷ [])) fresh ∙ ap (λ (xs : List (List ℕ)). xs ++ name ∷ []) old_is ∙ ap (λ (c : List ℕ). branch_ids branches ++ c ∷ []) (sym same)

-- What the passes found, told by the lines of the file alone.
use Rattle.std.proofs.Common.{◌≡◌, inl, inr, ℕ, ℤ, pos, ◌+◌, ◌<◌, ◌≤◌, Bool, true, false, cond, List, [], ◌∷◌, length, Option, Some, Result, Ok, Err, refl, sym, ap, subst, ◌∙◌, arith}
use Rattle.std.specs.Prelude.{is_some, unwrap_or}
use Rattle.std.specs.Str.{bytes_eq}
use Rattle.std.proofs.Math.Path.{fun_ext}
use Rattle.std.proofs.lemmas.List.{length-map}
use Rattle.fb_types.specs.GridRanges.{AreBranches}
use Rattle.fb_types.specs.declared.grid.Node.{Node}
use Rattle.fb_types.specs.declared.grid.Branch.{Branch}
use Rattle.fb_types.specs.declared.grid.Grid.{Grid}
use Rattle.first_fault.specs.FirstFault.{IsFirstFault, HasNoFault}
use Rattle.name_tables.specs.Names.{value_at, numbered_from}
use Rattle.ucte_reader.specs.Blocks.{Placed}
use Rattle.ucte_reader.specs.Nodes.{node_codes}
use Rattle.ucte_reader.specs.Facts.{Names, nodes_of, place_of, phase_of, names_of, branches_by, branches_of}
use Rattle.ucte_reader.specs.File.{file_of, fault_by, fault_among, IsGridFault, IsGridOf, Reads, IsFault, IsGrid}
use Rattle.ucte_reader.specs.Steps.{capped, names_in, place_in, shift_in}
use Rattle.ucte_reader.specs.Passes.{IsKnown, HasTaken, Finds}
use Rattle.ucte_reader.specs.declared.known.Known.{Known}
use Rattle.ucte_reader.specs.declared.passes.Draft.{Draft}
use Rattle.ucte_reader.specs.declared.kind.GridKind.{GridKind}
use Rattle.ucte_reader.specs.declared.kind.GridKind.TheVariants.{NoNodes}
use Rattle.ucte_reader.specs.declared.kind.GridError.{GridError}
use Rattle.ucte_reader.specs.declared.kind.GridError.TheVariants.{Fault, Memory}
use Rattle.ucte_reader.proofs.RangeLaws.{AreBranches-of}
use Rattle.first_fault.proofs.FirstFaultLaws.{IsFirstFault-same, IsFirstFault-fault}

-- ---- the tables are those of the file

pub names_in-known : (known : Known) (all : List Placed) → IsKnown known all → names_in known ≡ names_of all
names_in-known known all k =
    let nodes : (names_in known).is_node ≡ (names_of all).is_node = fun_ext (λ code. ap is_some (k.places code)) in
    let transformers : (names_in known).is_transformer ≡ (names_of all).is_transformer = fun_ext k.transformers in
    λ i. record { is_node = nodes i; is_transformer = transformers i }

numbered_within : (n : ℕ) (codes : List (List ℕ)) (code : List ℕ) → unwrap_or (value_at (numbered_from n codes) code) 0 ≤ n + length codes
numbered_within n [] code = omega arith
numbered_within n (c ∷ cs) code = by_test (bytes_eq code c) (numbered_within (n + 1) cs code)
  where
    by_test : (b : Bool) → unwrap_or (value_at (numbered_from (n + 1) cs) code) 0 ≤ n + 1 + length cs → unwrap_or (cond b (Some n) (value_at (numbered_from (n + 1) cs) code)) 0 ≤ n + length (c ∷ cs)
    by_test true h = omega arith
    by_test false h = omega (arith, h)

capped_small : (n : ℕ) → n ≤ 4096 → capped n ≡ n
capped_small n h = omega arith

place_in-known : (known : Known) (all : List Placed) → IsKnown known all → length (nodes_of all) ≤ 4096 → place_in known ≡ place_of all
place_in-known known all k few = fun_ext (λ code.
    ap (λ (o : Option ℕ). capped (unwrap_or o 0)) (k.places code)
    ∙ capped_small (place_of all code) (omega (arith, few, numbered_within 0 (node_codes (nodes_of all)) code, length-map (nodes_of all) (λ n. n.code))))

shift_in-known : (known : Known) (all : List Placed) → IsKnown known all → shift_in known ≡ phase_of all
shift_in-known known all k = fun_ext (λ id. ap (λ (o : Option ℤ). unwrap_or o (pos 0)) (k.shifts id))

pub branches_by-known : (known : Known) (all : List Placed) → IsKnown known all → length (nodes_of all) ≤ 4096 → branches_by (place_in known) (shift_in known) all ≡ branches_of all
branches_by-known known all k few =
    ap (λ (place : List ℕ → ℕ). branches_by place (shift_in known) all) (place_in-known known all k few)
    ∙ ap (λ (shift : List ℕ → ℤ). branches_by (place_of all) shift all) (shift_in-known known all k)

pub HasNoFault-known : (known : Known) (all : List Placed) → IsKnown known all → HasNoFault (fault_by (names_in known)) all → HasNoFault (fault_among all) all
HasNoFault-known known all k none = subst (λ (names : Names). HasNoFault (fault_by names) all) (names_in-known known all k) none

-- ---- the answer

pub Reads-error : (known : Known) (bytes : List ℕ) (e : GridError) → IsKnown known (file_of bytes) → (let r : Result Draft GridError = Err e in Finds known (file_of bytes) r) → Reads bytes (Err e)
Reads-error known bytes (Memory e) k found = tt
Reads-error known bytes (Fault line kind) k found = inl (subst (λ (names : Names). IsFirstFault (fault_by names) (file_of bytes) line kind) (names_in-known known (file_of bytes) k) found)

few_nodes : (known : Known) (all : List Placed) (draft : Draft) → HasTaken known all draft → length (nodes_of all) ≤ 4096
few_nodes known all draft taken = omega (arith, taken.kept.nodes.few, ap length taken.nodes)

branches_taken : (known : Known) (all : List Placed) (draft : Draft) → IsKnown known all → HasTaken known all draft → draft.branches.branches.items ≡ branches_of all
branches_taken known all draft k taken = taken.branches ∙ branches_by-known known all k (few_nodes known all draft taken)

pub ranges_taken : (known : Known) (all : List Placed) (draft : Draft) → IsKnown known all → HasTaken known all draft → AreBranches (length draft.nodes.nodes.items) draft.branches.branches.items
ranges_taken known all draft k taken =
    subst (λ (bs : List Branch). AreBranches (length draft.nodes.nodes.items) bs) (sym (branches_taken known all draft k taken))
    (subst (λ (n : ℕ). AreBranches n (branches_of all)) (sym (ap length taken.nodes)) (AreBranches-of all (HasNoFault-known known all k taken.no_fault)))

pub IsGridOf-taken : (known : Known) (bytes : List ℕ) (draft : Draft) (grid : Grid) → IsKnown known (file_of bytes) → HasTaken known (file_of bytes) draft → 0 < length draft.nodes.nodes.items
    → grid.nodes ≡ draft.nodes.nodes.items → grid.branches ≡ draft.branches.branches.items → IsGridOf bytes grid
IsGridOf-taken known bytes draft grid k taken some nodes branches = record {
  no_fault = HasNoFault-known known (file_of bytes) k taken.no_fault;
  some_node = omega (arith, some, ap length taken.nodes);
  nodes = nodes ∙ taken.nodes;
  branches = branches ∙ branches_taken known (file_of bytes) draft k taken;
}

nil_from : (nodes : List Node) → length nodes ≡ 0 → nodes ≡ []
nil_from [] e = refl
nil_from (n ∷ ns) e = absurd (omega arith)

pub IsGridFault-taken : (known : Known) (bytes : List ℕ) (draft : Draft) → IsKnown known (file_of bytes) → HasTaken known (file_of bytes) draft → length draft.nodes.nodes.items ≡ 0 → IsGridFault bytes 0 NoNodes
IsGridFault-taken known bytes draft k taken none = inr (HasNoFault-known known (file_of bytes) k taken.no_fault, sym taken.nodes ∙ nil_from draft.nodes.nodes.items none, refl, refl)

-- ---- both ways

pub fault_from : (bytes : List ℕ) (r : Result Grid GridError) → Reads bytes r → (line : ℕ) (kind : GridKind) → IsGridFault bytes line kind → IsFault line kind r
fault_from bytes (Ok grid) reads line kind (inl first) = absurd (IsFirstFault-fault (fault_among (file_of bytes)) (file_of bytes) line kind first reads.no_fault)
fault_from bytes (Ok grid) reads line kind (inr none) = absurd (omega (arith, reads.some_node, ap length none.1))
fault_from bytes (Err (Memory e)) reads line kind fault = tt
fault_from bytes (Err (Fault l k)) (inl found) line kind (inl first) = IsFirstFault-same (fault_among (file_of bytes)) (file_of bytes) l line k kind found first
fault_from bytes (Err (Fault l k)) (inl found) line kind (inr none) = absurd (IsFirstFault-fault (fault_among (file_of bytes)) (file_of bytes) l k found none.0)
fault_from bytes (Err (Fault l k)) (inr found) line kind (inl first) = absurd (IsFirstFault-fault (fault_among (file_of bytes)) (file_of bytes) line kind first found.0)
fault_from bytes (Err (Fault l k)) (inr found) line kind (inr none) = (found.2 ∙ sym none.2, found.3 ∙ sym none.3)

pub grid_from : (bytes : List ℕ) (r : Result Grid GridError) → Reads bytes r → HasNoFault (fault_among (file_of bytes)) (file_of bytes) → 0 < length (nodes_of (file_of bytes)) → IsGrid r
grid_from bytes (Ok grid) reads none some = tt
grid_from bytes (Err (Memory e)) reads none some = tt
grid_from bytes (Err (Fault l k)) (inl found) none some = IsFirstFault-fault (fault_among (file_of bytes)) (file_of bytes) l k found none
grid_from bytes (Err (Fault l k)) (inr found) none some = absurd (omega (arith, some, ap length found.1))

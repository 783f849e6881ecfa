-- The branches of a file without a fault keep the ranges of a grid.
use Rattle.std.proofs.Common.{◌≡◌, ℕ, pos, ◌+◌, ◌^◌, ◌<◌, ◌≤◌, ◌≢◌, Bool, true, false, cond, not, ◌||◌, ◌&&◌, List, [], ◌∷◌, ◌++◌, length, Option, Some, None, refl, sym, ap, subst, ◌∙◌, append_assoc, arith}
use Rattle.std.specs.Prelude.{◌==◌, is_some, unwrap_or, nat_lt, IsTrue}
use Rattle.std.specs.List.{filter_map, cons_option, All}
use Rattle.std.specs.Str.{bytes_eq}
use Rattle.std.proofs.lemmas.Bool.{ltb-false}
use Rattle.std.proofs.lemmas.Int.{ints}
use Rattle.std.proofs.lemmas.List.{length-map}
use Rattle.std.proofs.lemmas.List.Elements.{All-nil, All-cons}
use Rattle.fb_types.specs.GridRanges.{IsBranch, AreBranches}
use Rattle.fb_types.specs.declared.grid.Branch.{Branch}
use Rattle.fb_types.specs.declared.grid.BranchKind.TheVariants as kinds
use Rattle.name_tables.specs.Names.{value_at, numbered_from}
use Rattle.ucte_lines.specs.Lines.{is_heading, is_blank_line}
use Rattle.ucte_lines.specs.Fields.{field_of}
use Rattle.first_fault.specs.FirstFault.{HasNoFault}
use Rattle.ucte_reader.specs.Blocks.{Placed}
use Rattle.ucte_reader.specs.Codes.{first_code, second_code, code_text}
use Rattle.first_fault.specs.Checks.{first_failing}
use Rattle.ucte_reader.specs.Nodes.{node_codes}
use Rattle.ucte_reader.specs.Branches.{status_at, is_running, is_coupler, is_in_operation, branch_kind, known_status, susceptance_in, branch_of, branch_checks, branch_fault}
use Rattle.ucte_reader.specs.Facts.{branch_in, nodes_of, place_of, phase_of, names_of, branches_of}
use Rattle.ucte_reader.specs.File.{Earlier, earlier_of, line_fault, fault_among}
use Rattle.ucte_reader.specs.declared.block.Form.{Form}
use Rattle.ucte_reader.specs.declared.block.Form.TheVariants.{Line, Transformer}
use Rattle.ucte_reader.specs.declared.status.Status.{Status}
use Rattle.ucte_reader.specs.declared.status.Status.TheVariants.{Running, Out, ClosedCoupler, OpenCoupler}
use Rattle.ucte_reader.specs.declared.block.Block.{Block}
use Rattle.ucte_reader.specs.declared.block.Block.TheVariants.{Outside, Skipped, Nodes, Zone, Branches, Regulations}
use Rattle.ucte_reader.specs.declared.kind.GridKind.{GridKind}

-- ---- lists

-- what holds of each entry, by the item that it comes from and what stands before that
pub All-filter_map : {X Y : Type 0} (f : X → Option Y) (P : Y → Type 0) (before xs : List X)
    → ((front : List X) (x : X) (rest : List X) (y : Y) → before ++ xs ≡ front ++ x ∷ rest → f x ≡ Some y → P y) → All P (filter_map f xs)
All-filter_map f P before [] each = All-nil P
All-filter_map {X} {Y} f P before (x ∷ xs) each =
    with_first (f x) refl (All-filter_map f P (before ++ x ∷ []) xs (λ front z rest y e. each front z rest y (sym (append_assoc before (x ∷ []) xs) ∙ e)))
  where
    with_first : (o : Option Y) → f x ≡ o → All P (filter_map f xs) → All P (cons_option o (filter_map f xs))
    with_first None e others = others
    with_first (Some y) e others = All-cons P y (filter_map f xs) (each before x xs y refl e) others

numbered_below : (n : ℕ) (codes : List (List ℕ)) (code : List ℕ) → is_some (value_at (numbered_from n codes) code) ≡ true → unwrap_or (value_at (numbered_from n codes) code) 0 < n + length codes
numbered_below n [] code e = absurd cc
numbered_below n (c ∷ cs) code e = by_test (bytes_eq code c) e (numbered_below (n + 1) cs code)
  where
    by_test : (b : Bool) → is_some (cond b (Some n) (value_at (numbered_from (n + 1) cs) code)) ≡ true
        → (is_some (value_at (numbered_from (n + 1) cs) code) ≡ true → unwrap_or (value_at (numbered_from (n + 1) cs) code) 0 < n + 1 + length cs)
        → unwrap_or (cond b (Some n) (value_at (numbered_from (n + 1) cs) code)) 0 < n + length (c ∷ cs)
    by_test true h later = omega arith
    by_test false h later = omega (arith, later h)

pub place_of-below : (all : List Placed) (code : List ℕ) → (names_of all).is_node code ≡ true → place_of all code < length (nodes_of all)
place_of-below all code known = omega (arith, numbered_below 0 (node_codes (nodes_of all)) code known, length-map (nodes_of all) (λ n. n.code))

-- ---- tests

-- no test of these checks holds
abbrev NoneHold : List (Bool × GridKind) → Type 0
NoneHold [] = Unit {0}
NoneHold (check ∷ checks) = (check.0 ≡ false) × NoneHold checks

none_hold : (checks : List (Bool × GridKind)) → first_failing checks ≡ None → NoneHold checks
none_hold [] e = tt
none_hold (check ∷ checks) e = let h = by_test check.0 e in (h.0, none_hold checks h.1)
  where
    by_test : (b : Bool) → cond b (Some check.1) (first_failing checks) ≡ None → (b ≡ false) × (first_failing checks ≡ None)
    by_test true h = absurd cc
    by_test false h = (refl, h)

neither : (a b : Bool) → (a || b) ≡ false → (a ≡ false) × (b ≡ false)
neither true b e = absurd cc
neither false b e = (refl, e)

not_false : (b : Bool) → not b ≡ false → b ≡ true
not_false true e = refl
not_false false e = absurd cc

-- ---- statuses

transformer_status : (text : List ℕ) → is_coupler (unwrap_or (status_at Transformer text) Out) ≡ false
transformer_status [] = refl
transformer_status (c ∷ []) = by_tests ((c == 48) || (c == 49)) ((c == 56) || (c == 57))
  where
    by_tests : (a b : Bool) → is_coupler (unwrap_or (cond a (Some Running) (cond b (Some Out) None)) Out) ≡ false
    by_tests true b = refl
    by_tests false true = refl
    by_tests false false = refl
transformer_status (c ∷ d ∷ cs) = refl

line_runs : (s : Status) → IsTrue (is_in_operation s) → branch_kind Line s ≢ kinds.Coupler → is_running s ≡ true
line_runs Running operating kind = refl
line_runs Out operating kind = absurd cc
line_runs ClosedCoupler operating kind = absurd (kind refl)
line_runs OpenCoupler operating kind = absurd cc

transformer_runs : (s : Status) → is_coupler s ≡ false → IsTrue (is_in_operation s) → is_running s ≡ true
transformer_runs Running none operating = refl
transformer_runs Out none operating = absurd cc
transformer_runs ClosedCoupler none operating = absurd cc
transformer_runs OpenCoupler none operating = absurd cc

runs : (form : Form) (line : List ℕ) → IsTrue (is_in_operation (known_status form line)) → branch_kind form (known_status form line) ≢ kinds.Coupler → is_running (known_status form line) ≡ true
runs Line line operating kind = line_runs (known_status Line line) operating kind
runs Transformer line operating kind = transformer_runs (known_status Transformer line) (transformer_status (field_of line 21 21)) operating

-- ---- one branch

-- what a line without a fault says of its ends and its susceptance
record HasRanges (is_node : List ℕ → Bool) (form : Form) (line : List ℕ) : Type 0 where
  first : is_node (code_text (first_code line)) ≡ true
  second : is_node (code_text (second_code line)) ≡ true
  susceptance : (is_running (known_status form line) && (nat_lt (susceptance_in form line) 1 || nat_lt (10 ^ 11) (susceptance_in form line))) ≡ false

ranges_from : (is_node : List ℕ → Bool) (earlier : List (List ℕ)) (form : Form) (line : List ℕ) → branch_fault is_node earlier form line ≡ None → HasRanges is_node form line
unfolding branch_fault
ranges_from is_node earlier form line e =
    let tests = none_hold (branch_checks is_node earlier form line) e in
    let known = neither (not (is_node (code_text (first_code line)))) (not (is_node (code_text (second_code line)))) tests.1.0 in
    record {
      first = not_false (is_node (code_text (first_code line))) known.0;
      second = not_false (is_node (code_text (second_code line))) known.1;
      susceptance = tests.1.1.1.1.1.1.0;
    }

in_range : (running : Bool) (b : ℕ) → running ≡ true → (running && (nat_lt b 1 || nat_lt (10 ^ 11) b)) ≡ false → (1 ≤ b) × (b ≤ 10 ^ 11)
in_range true b e h = let both = neither (nat_lt b 1) (nat_lt (10 ^ 11) b) h in (ltb-false b 1 both.0, ltb-false (10 ^ 11) b both.1)
in_range false b e h = absurd cc

branch_range : (all : List Placed) (earlier : List (List ℕ)) (form : Form) (line : List ℕ) → branch_fault (names_of all).is_node earlier form line ≡ None → IsBranch (length (nodes_of all)) (branch_of (place_of all) (phase_of all) form line)
unfolding branch_of
branch_range all earlier form line none =
    let ranges = ranges_from (names_of all).is_node earlier form line none in
    let b_is = λ (run : is_running (known_status form line) ≡ true). ap (λ (r : Bool). cond r (pos (susceptance_in form line)) (pos 0)) run in
    let within = λ (run : is_running (known_status form line) ≡ true). in_range (is_running (known_status form line)) (susceptance_in form line) run ranges.susceptance in
    record {
      from = place_of-below all (code_text (first_code line)) ranges.first;
      to = place_of-below all (code_text (second_code line)) ranges.second;
      some = λ running. let run = runs form line running.in_operation running.no_coupler in rw (b_is run) (omega (arith, ints, (within run).0));
      small = λ running. let run = runs form line running.in_operation running.no_coupler in rw (b_is run) (omega (arith, ints, (within run).1));
    }

-- ---- all branches

-- the branch of an entry, and that it has no fault
entry_cases : (heading blank : Bool) (f fault : Option GridKind) (b c : Branch) → cond (not heading && not blank) (Some c) None ≡ Some b → cond heading f (cond blank None fault) ≡ None → (c ≡ b) × (fault ≡ None)
entry_cases true blank f fault b c e h = absurd cc
entry_cases false true f fault b c e h = absurd cc
entry_cases false false f fault b c e h = (cc, h)

line_range : (all : List Placed) (earlier : Earlier) (block : Block) (text : List ℕ) (b : Branch) → branch_in (place_of all) (phase_of all) block text ≡ Some b
    → line_fault (names_of all) earlier block text ≡ None → IsBranch (length (nodes_of all)) b
line_range all earlier Outside text b e none = absurd cc
line_range all earlier Skipped text b e none = absurd cc
line_range all earlier Nodes text b e none = absurd cc
line_range all earlier (Zone zone) text b e none = absurd cc
line_range all earlier (Branches form) text b e none =
    let entry = entry_cases (is_heading text) (is_blank_line text) _ (branch_fault (names_of all).is_node earlier.ids form text) b (branch_of (place_of all) (phase_of all) form text) e none in
    subst (λ (x : Branch). IsBranch (length (nodes_of all)) x) entry.0 (branch_range all earlier.ids form text entry.1)
line_range all earlier Regulations text b e none = absurd cc

pub AreBranches-of : (all : List Placed) → HasNoFault (fault_among all) all → AreBranches (length (nodes_of all)) (branches_of all)
AreBranches-of all none = record {
  each = All-filter_map (λ (p : Placed). branch_in (place_of all) (phase_of all) p.block p.text) (IsBranch (length (nodes_of all))) [] all
      (λ front p rest b split e. line_range all (earlier_of front) p.block p.text b e (none front p rest split));
}

-- The second pass, from line to line.
use Rattle.std.proofs.Common.{◌≡◌, ℕ, ℤ, ◌+◌, List, [], ◌∷◌, ◌++◌, map, Option, Some, None, Result, Err, refl, sym, ap, subst, ◌∙◌, append_assoc, arith}
use Rattle.std.specs.Option.{option_to_list}
use Rattle.std.proofs.lemmas.List.{append-nil, length-append, map-append}
use Rattle.fb_types.specs.declared.grid.Node.{Node}
use Rattle.fb_types.specs.declared.grid.Branch.{Branch}
use Rattle.first_fault.specs.FirstFault.{IsFirstFault}
use Rattle.ucte_reader.specs.Blocks.{Placed}
use Rattle.ucte_reader.specs.Facts.{node_in, branch_in, regulation_in, regulations_of}
use Rattle.ucte_reader.specs.File.{Earlier, earlier_of, line_fault, fault_by}
use Rattle.ucte_reader.specs.Steps.{Judges, branch_ids, names_in, place_in, shift_in}
use Rattle.ucte_reader.specs.Passes.{IsDraft, earlier_in, HasTaken, Stands, error_at, Finds}
use Rattle.ucte_reader.specs.declared.known.Known.{Known}
use Rattle.ucte_reader.specs.declared.passes.Draft.{Draft}
use Rattle.ucte_reader.specs.declared.block.Block.{Block}
use Rattle.ucte_reader.specs.declared.kind.GridKind.{GridKind}
use Rattle.ucte_reader.specs.declared.kind.GridError.{GridError}
use Rattle.ucte_reader.specs.declared.kind.LineError.{LineError}
use Rattle.ucte_reader.specs.declared.kind.LineError.TheVariants as lines
use Rattle.first_fault.proofs.FirstFaultLaws.{HasNoFault-nil, HasNoFault-push}
use Rattle.ucte_reader.proofs.FactLaws.{filter_map-push, branch_ids-branches_by}

earlier_in-taken : (known : Known) (lines : List Placed) (draft : Draft) → HasTaken known lines draft → earlier_in draft ≡ earlier_of lines
earlier_in-taken known lines draft taken =
    let ids = ap branch_ids taken.branches ∙ branch_ids-branches_by (place_in known) (shift_in known) lines in
    λ i. record { nodes = taken.nodes i; ids = ids i; regulated = taken.regulated i }

-- the line's fault, as it was judged, is its fault behind the lines
fault_is : (known : Known) (lines : List Placed) (draft : Draft) (p : Placed) (fault : Option GridKind) → HasTaken known lines draft
    → line_fault (names_in known) (earlier_in draft) p.block p.text ≡ fault → fault_by (names_in known) lines p ≡ fault
fault_is known lines draft p fault taken e = ap (λ (earlier : Earlier). line_fault (names_in known) earlier p.block p.text) (sym (earlier_in-taken known lines draft taken)) ∙ e

HasTaken-push : (known : Known) (lines : List Placed) (p : Placed) (old new : Draft) → HasTaken known lines old → IsDraft new
    → line_fault (names_in known) (earlier_in old) p.block p.text ≡ None
    → new.nodes.nodes.items ≡ old.nodes.nodes.items ++ option_to_list (node_in p.block p.text)
    → new.branches.branches.items ≡ old.branches.branches.items ++ option_to_list (branch_in (place_in known) (shift_in known) p.block p.text)
    → new.regulated ≡ old.regulated ++ map (λ (r : List ℕ × ℤ). r.0) (option_to_list (regulation_in p.block p.text))
    → HasTaken known (lines ++ p ∷ []) new
HasTaken-push known lines p old new taken kept fault nodes branches regulated = record {
  kept = kept;
  no_fault = HasNoFault-push (fault_by (names_in known)) lines p taken.no_fault (fault_is known lines old p None taken fault);
  nodes = nodes ∙ ap (λ (ns : List Node). ns ++ option_to_list (node_in p.block p.text)) taken.nodes ∙ sym (filter_map-push (λ (q : Placed). node_in q.block q.text) lines p);
  branches = branches ∙ ap (λ (bs : List Branch). bs ++ option_to_list (branch_in (place_in known) (shift_in known) p.block p.text)) taken.branches ∙ sym (filter_map-push (λ (q : Placed). branch_in (place_in known) (shift_in known) q.block q.text) lines p);
  regulated =
      regulated ∙ ap (λ (ids : List (List ℕ)). ids ++ map (λ (r : List ℕ × ℤ). r.0) (option_to_list (regulation_in p.block p.text))) taken.regulated
      ∙ sym (map-append (λ (r : List ℕ × ℤ). r.0) (regulations_of lines) (option_to_list (regulation_in p.block p.text)))
      ∙ ap (map (λ (r : List ℕ × ℤ). r.0)) (sym (filter_map-push (λ (q : Placed). regulation_in q.block q.text) lines p));
}

pub Stands-begin : (known : Known) (all : List Placed) (draft : Draft) → IsDraft draft → draft.nodes.nodes.items ≡ [] → draft.branches.branches.items ≡ [] → draft.regulated ≡ [] → Stands known all all 0 draft
Stands-begin known all draft kept nodes branches regulated = record {
  before = [];
  split = refl;
  count = refl;
  taken = record { kept = kept; no_fault = HasNoFault-nil (fault_by (names_in known)); nodes = nodes; branches = branches; regulated = regulated };
}

pub Stands-step : (known : Known) (all rest : List Placed) (p : Placed) (number : ℕ) (old new : Draft) → Stands known all (p ∷ rest) number old → IsDraft new
    → line_fault (names_in known) (earlier_in old) p.block p.text ≡ None
    → new.nodes.nodes.items ≡ old.nodes.nodes.items ++ option_to_list (node_in p.block p.text)
    → new.branches.branches.items ≡ old.branches.branches.items ++ option_to_list (branch_in (place_in known) (shift_in known) p.block p.text)
    → new.regulated ≡ old.regulated ++ map (λ (r : List ℕ × ℤ). r.0) (option_to_list (regulation_in p.block p.text))
    → Stands known all rest (number + 1) new
Stands-step known all rest p number old new stands kept fault nodes branches regulated = record {
  before = stands.before ++ p ∷ [];
  split = stands.split ∙ sym (append_assoc stands.before (p ∷ []) rest);
  count = omega (arith, stands.count, length-append stands.before (p ∷ []));
  taken = HasTaken-push known stands.before p old new stands.taken kept fault nodes branches regulated;
}

pub IsFirstFault-stands : (known : Known) (all rest : List Placed) (p : Placed) (number : ℕ) (draft : Draft) (kind : GridKind) → Stands known all (p ∷ rest) number draft
    → line_fault (names_in known) (earlier_in draft) p.block p.text ≡ Some kind → IsFirstFault (fault_by (names_in known)) all (number + 1) kind
IsFirstFault-stands known all rest p number draft kind stands fault = record {
  before = stands.before;
  here = p;
  after = rest;
  split = stands.split;
  number_is = ap (λ (n : ℕ). n + 1) stands.count;
  fault = fault_is known stands.before draft p (Some kind) stands.taken fault;
  none_before = stands.taken.no_fault;
}

pub HasTaken-all : (known : Known) (all : List Placed) (number : ℕ) (draft : Draft) → Stands known all [] number draft → HasTaken known all draft
HasTaken-all known all number draft stands = subst (λ (lines : List Placed). HasTaken known lines draft) (sym (stands.split ∙ append-nil stands.before)) stands.taken

pub Finds-fault : (known : Known) (all rest : List Placed) (p : Placed) (number : ℕ) (draft : Draft) (e : LineError) → Stands known all (p ∷ rest) number draft
    → (let r : Result Block LineError = Err e in Judges r (line_fault (names_in known) (earlier_in draft) p.block p.text)) → (let r : Result Draft GridError = Err (error_at (number + 1) e) in Finds known all r)
Finds-fault known all rest p number draft (lines.Memory e) stands judged = tt
Finds-fault known all rest p number draft (lines.Fault kind) stands judged = IsFirstFault-stands known all rest p number draft kind stands judged

-- Places of names are below the number of names.
use Rattle.std.proofs.Common.{◌≡◌, ℕ, suc, ◌+◌, ◌<◌, ◌≤◌, Bool, true, false, cond, List, [], ◌∷◌, ◌++◌, length, Option, Some, None, refl, ap, subst, arith}
use Rattle.std.specs.Prelude.{is_some, IfSome}
use Rattle.std.specs.List.{All, flat_map}
use Rattle.std.specs.Option.{option_map, option_or, option_to_list}
use Rattle.std.specs.Str.{chars}
use Rattle.std.proofs.lemmas.List.Elements.{All-push, All-nil, All-cons, All-map, All-append, All-head, All-tail}
use Rattle.std.proofs.lemmas.Map.Views.{IfSome-lookup_from_All}
use Rattle.std.specs.Str.{bytes_eq}
use Rattle.name_tables.specs.Names.{value_at, numbered_from}
use Rattle.name_tables.specs.Padding.{padded_name}
use Rattle.name_tables.specs.Tables.{with_entry, with_entries}
use Rattle.fb_types.specs.declared.grid.Node.{Node}
use Rattle.fb_types.specs.declared.grid.Branch.{Branch}
use Rattle.fb_types.specs.declared.crac.Contingency.{Contingency}
use Rattle.crac_model.specs.Naming.{places_of, branch_ids, branch_places, NamedGrid, is_tie, is_joint, tie_between, tie_found, tie_of, tie_named, halves_of, single, branch_named}
use Rattle.crac_model.specs.Crac.{contingency_ids, branches_named}
use Rattle.crac_model.specs.declared.names.Named.{Named}
use Rattle.crac_model.specs.declared.names.Halves.{Halves}

-- ---- tables of places

abbrev AreBelow : ℕ → List (List ℕ × ℕ) → Type 0
AreBelow limit entries = All (λ e. e.1 < limit) entries

one_more : (limit : ℕ) (entries : List (List ℕ × ℕ)) (name : List ℕ) (place : ℕ) → place < limit → AreBelow limit entries → AreBelow limit (with_entry entries name place)
one_more limit entries name place below so_far = by_test (is_some (value_at entries name))
  where
    by_test : (b : Bool) → AreBelow limit (cond b entries (entries ++ (name, place) ∷ []))
    by_test true = so_far
    by_test false = All-push (λ (e : List ℕ × ℕ). e.1 < limit) entries (name, place) so_far below

all_below : (limit place : ℕ) (names : List (List ℕ)) (entries : List (List ℕ × ℕ)) → place + length names ≤ limit → AreBelow limit entries → AreBelow limit (with_entries entries (numbered_from place names))
all_below limit place [] entries room so_far = so_far
all_below limit place (name ∷ names) entries room so_far =
    all_below limit (place + 1) names (with_entry entries name place) (omega (arith, room)) (one_more limit entries name place (omega (arith, room)) so_far)

-- the place of a name, if it has one, is below the number of names
pub place_below : (names : List (List ℕ)) (name : List ℕ) → IfSome (value_at (places_of names) name) (λ place. place < length names)
place_below names name =
    let all = all_below (length names) 0 names [] (omega arith) (All-nil (λ (e : List ℕ × ℕ). e.1 < length names)) in
    let values = All-map (λ (place : ℕ). place < length names) (λ (e : List ℕ × ℕ). e.1) (places_of names) all in
    IfSome-lookup_from_All (λ (place : ℕ). place < length names) (λ n. bytes_eq name n) (places_of names) values

branches_length : (branches : List Branch) → length (branch_ids branches) ≡ length branches
branches_length [] = refl
branches_length (b ∷ bs) = ap suc (branches_length bs)

contingencies_length : (contingencies : List Contingency) → length (contingency_ids contingencies) ≡ length contingencies
contingencies_length [] = refl
contingencies_length (c ∷ cs) = ap suc (contingencies_length cs)

pub contingency_below : (contingencies : List Contingency) (name : List ℕ) → IfSome (value_at (places_of (contingency_ids contingencies)) name) (λ place. place < length contingencies)
contingency_below contingencies name =
    subst (λ (n : ℕ). IfSome (value_at (places_of (contingency_ids contingencies)) name) (λ place. place < n)) (contingencies_length contingencies) (place_below (contingency_ids contingencies) name)

-- ---- what a text names

-- each place that the grid has for a name is one of its branches
pub record HasPlaces (grid : NamedGrid) : Type 0 where
  pub below : (name : List ℕ) → IfSome (value_at grid.places name) (λ place. place < length grid.branches)

pub grid_places : (nodes : List Node) (branches : List Branch) → (let grid : NamedGrid = record { nodes = nodes; branches = branches; places = branch_places branches } in HasPlaces grid)
grid_places nodes branches = record {
  below = λ name.
      subst (λ (n : ℕ). IfSome (value_at (branch_places branches) name) (λ place. place < n)) (branches_length branches) (place_below (branch_ids branches) name);
}

pub record IsNamed (branches : ℕ) (found : Named) : Type 0 where
  pub first : found.branch < branches
  pub second : IfSome found.other (λ place. place < branches)

tie_between_ok : (nodes : List Node) (n first second : ℕ) (a b : Option Branch) → first < n → second < n → IfSome (tie_between nodes first second a b) (IsNamed n)
tie_between_ok nodes n first second None b f s = tt
tie_between_ok nodes n first second (Some a) None f s = tt
tie_between_ok nodes n first second (Some a) (Some b) f s = by_test (is_tie nodes first a second b)
  where
    by_test : (t : Bool) → IfSome (cond t (Some (record { branch = first; other = Some second; turned = is_joint nodes b a.from })) None) (IsNamed n)
    by_test true = record { first = f; second = s }
    by_test false = tt

tie_found_ok : (grid : NamedGrid) (first second : Option ℕ) → IfSome first (λ place. place < length grid.branches) → IfSome second (λ place. place < length grid.branches)
    → IfSome (tie_found grid first second) (IsNamed (length grid.branches))
tie_found_ok grid None second f s = tt
tie_found_ok grid (Some first) None f s = tt
tie_found_ok grid (Some first) (Some second) f s = tie_between_ok grid.nodes (length grid.branches) first second _ _ f s

tie_of_ok : (grid : NamedGrid) (halves : Option Halves) → HasPlaces grid → IfSome (tie_of grid halves) (IsNamed (length grid.branches))
tie_of_ok grid None h = tt
tie_of_ok grid (Some halves) h = tie_found_ok grid (value_at grid.places halves.first) (value_at grid.places halves.second) (h.below halves.first) (h.below halves.second)

single_or : (n : ℕ) (place : Option ℕ) (tie : Option Named) → IfSome place (λ p. p < n) → IfSome tie (IsNamed n) → IfSome (option_or (option_map single place) tie) (IsNamed n)
single_or n None tie p t = t
single_or n (Some place) tie p t = record { first = p; second = tt }

-- what a text names are branches of the grid
pub named_ok : (grid : NamedGrid) (name : List ℕ) → HasPlaces grid → IfSome (branch_named grid name) (IsNamed (length grid.branches))
unfolding branch_named
named_ok grid name h = single_or (length grid.branches) (value_at grid.places (padded_name 19 name)) (tie_named grid name) (h.below (padded_name 19 name)) (tie_of_ok grid (halves_of (chars name)) h)

-- ---- the branches of all names

other_ok : (n : ℕ) (other : Option ℕ) → IfSome other (λ place. place < n) → All (λ place. place < n) (option_to_list other)
other_ok n None h = All-nil (λ (place : ℕ). place < n)
other_ok n (Some place) h = All-cons (λ (p : ℕ). p < n) place [] h (All-nil (λ (p : ℕ). p < n))

pub branches_ok : (n : ℕ) (outages : List Named) → All (IsNamed n) outages → All (λ place. place < n) (flat_map branches_named outages)
branches_ok n [] all = All-nil (λ (place : ℕ). place < n)
branches_ok n (o ∷ os) all =
    let one = All-head (IsNamed n) o os all in
    let both = All-cons (λ (place : ℕ). place < n) o.branch (option_to_list o.other) one.first (other_ok n o.other one.second) in
    All-append (λ (place : ℕ). place < n) (branches_named o) (flat_map branches_named os) both (branches_ok n os (All-tail (IsNamed n) o os all))

-- What holds of a CRAC that was read.
use Rattle.std.proofs.Common.{◌≡◌, ◌≢◌, ℕ, ◌<◌, ◌≤◌, Bool, true, false, cond, List, [], ◌∷◌, ◌++◌, length, get_or, Option, Some, None, Ok, sym, subst, arith, length-append, append-nil}
use Rattle.std.specs.Prelude.{codes, nat_lt, nat_le, IfSome}
use Rattle.std.specs.List.{All, flat_map}
use Rattle.std.specs.Option.{option_to_list}
use Rattle.std.specs.Str.{bytes_eq}
use Rattle.std.proofs.lemmas.List.Elements.{All-push, All-nil}
use Rattle.std.proofs.lemmas.List.Folds.{list_any_at}
use Rattle.std.proofs.lemmas.List.Quantifiers.{all_pairs_push}
use Rattle.std.proofs.lemmas.Slice.Eq.{bytes_eq-Decides}
use Rattle.serde_json.specs.Data.{Data}
use Rattle.fb_json.specs.Tree.{text_of, length_of}
use Rattle.json_reading.specs.Place.{in_member}
use Rattle.json_reading.specs.Reading.{At, fault_here, fault_in, refuse_if, found_or, is_true, absent, required, required_array, here, spot}
use Rattle.json_reading.proofs.Kept.{bind_ok, refuse_if_ok, found_or_ok, array_keeps, required_array_keeps}
use Rattle.fb_types.specs.declared.grid.Node.{Node}
use Rattle.fb_types.specs.declared.grid.Branch.{Branch}
use Rattle.fb_types.specs.declared.crac.Contingency.{Contingency}
use Rattle.fb_types.specs.declared.crac.Element.{Element}
use Rattle.fb_types.specs.declared.crac.Crac.{Crac}
use Rattle.name_tables.specs.Names.{is_among, value_at}
use Rattle.crac_model.specs.Words.{word_is, is_preventive}
use Rattle.crac_model.specs.Naming.{NamedGrid, places_of, branch_named}
use Rattle.crac_model.specs.Crac.{instants_of, outage_of, branches_named, contingency_ids, contingency_of, contingency_list, contingencies_if, contingencies_of, Facts, is_coupler_at, monitored_of, contingency_for, State, state_of, margin_of, rated_limits, element_ids, element, entered_of, entry_of, crac_at, crac_of}
use Rattle.crac_model.specs.Laws.{AreDistinct, IsElement, IsContingency, IsCracOver}
use Rattle.crac_model.specs.declared.fault.CracKind.{CracKind}
use Rattle.crac_model.specs.declared.fault.CracKind.TheVariants.{WrongType, UnknownInstant, UnknownContingency, UnknownElement, CouplerMonitored, DuplicateId, TooMany}
use Rattle.crac_model.specs.declared.names.Named.{Named}
use Rattle.crac_model.proofs.TableLaws.{push_contingency, push_element}
use Rattle.crac_model.proofs.TestLaws.{is_there, same_value}
use Rattle.crac_model.proofs.CountLaws.{array_few}
use Rattle.crac_model.proofs.PlaceLaws.{contingency_below, HasPlaces, grid_places, IsNamed, named_ok, branches_ok}
use Rattle.crac_model.proofs.RangeLaws.{margin_ok, rated_ok}

-- ---- ids

differs : (ids : List (List ℕ)) (id : List ℕ) → is_among ids id ≡ false → (k : ℕ) (d : List ℕ) → k < length ids → get_or ids k d ≢ id
differs ids id new k d lt = λ same.
    let here : bytes_eq id (get_or ids k d) ≡ true = (bytes_eq-Decides id (get_or ids k d)).1 (sym same) in
    let found = list_any_at (λ (n : List ℕ). bytes_eq id n) ids k d lt here in
    absurd cc

-- one more id that is not among the ids
one_distinct : (ids : List (List ℕ)) (id : List ℕ) → is_among ids id ≡ false → AreDistinct ids → AreDistinct (ids ++ id ∷ [])
one_distinct ids id new distinct = all_pairs_push (λ (a b : List ℕ). a ≢ b) ids id distinct (differs ids id new)

none_distinct : (let none : List (List ℕ) = [] in AreDistinct none)
none_distinct = λ i j d below within. absurd (omega arith)

-- ---- contingencies

outage_step : (grid : NamedGrid) → HasPlaces grid → (before : List Named) (at : At CracKind) (item : Option Named) → outage_of grid before at ≡ Ok item
    → All (IsNamed (length grid.branches)) before → All (IsNamed (length grid.branches)) (before ++ option_to_list item)
unfolding outage_of
outage_step grid places before at item e so_far =
    let name = bind_ok (here text_of at) _ item e in
    let found = bind_ok (found_or (branch_named grid name.0) (fault_here UnknownElement at)) _ item name.2 in
    let same : Some found.0 ≡ item = cc in
    let is = found_or_ok (branch_named grid name.0) at.place UnknownElement found.0 found.1 in
    let one = is_there (IsNamed (length grid.branches)) (branch_named grid name.0) found.0 is (named_ok grid name.0 places) in
    subst (λ (o : Option Named). All (IsNamed (length grid.branches)) (before ++ option_to_list o)) {x = Some found.0} same (All-push (IsNamed (length grid.branches)) before found.0 so_far one)

record AreContingencies (branches : ℕ) (cs : List Contingency) : Type 0 where
  each : All (IsContingency branches) cs
  ids : AreDistinct (contingency_ids cs)

contingency_step : (grid : NamedGrid) → HasPlaces grid → (before : List Contingency) (at : At CracKind) (item : Option Contingency) → contingency_of grid before at ≡ Ok item
    → AreContingencies (length grid.branches) before → AreContingencies (length grid.branches) (before ++ option_to_list item)
unfolding contingency_of
contingency_step grid places before at item e so_far =
    let n : ℕ = length grid.branches in
    let id = bind_ok (required text_of (codes "id") at) _ item e in
    let new = bind_ok (refuse_if (is_among (contingency_ids before) id.0) (fault_in (codes "id") DuplicateId at)) _ item id.2 in
    let outages = bind_ok (required_array (outage_of grid) (codes "networkElementsIds") at) _ item new.2 in
    let read : Contingency = record { id = id.0; branches = flat_map branches_named outages.0 } in
    let same : Some read ≡ item = cc in
    let fresh = refuse_if_ok (is_among (contingency_ids before) id.0) (in_member at.place (codes "id")) DuplicateId new.0 new.1 in
    let all = required_array_keeps (All (IsNamed n)) (outage_of grid) (outage_step grid places) (codes "networkElementsIds") at outages.0 (All-nil (IsNamed n)) outages.1 in
    subst (λ (o : Option Contingency). AreContingencies n (before ++ option_to_list o)) {x = Some read} same (record {
      each = All-push (IsContingency n) before read so_far.each (branches_ok n outages.0 all);
      ids = subst AreDistinct (sym (push_contingency before read)) (one_distinct (contingency_ids before) id.0 fresh so_far.ids);
    })

no_contingencies : (n : ℕ) → AreContingencies n []
no_contingencies n = record { each = All-nil (IsContingency n); ids = none_distinct }

contingency_list_ok : (grid : NamedGrid) → HasPlaces grid → (at : At CracKind) (cs : List Contingency) → contingency_list grid at ≡ Ok cs → AreContingencies (length grid.branches) cs
unfolding contingency_list
contingency_list_ok grid places at cs e =
    let count = bind_ok (here length_of at) _ cs e in
    let few = bind_ok (refuse_if (nat_lt 512 count.0) (fault_here TooMany at)) _ cs count.2 in
    array_keeps (AreContingencies (length grid.branches)) (contingency_of grid) (contingency_step grid places) at cs (no_contingencies (length grid.branches)) few.2

few_contingencies : (grid : NamedGrid) (name : List ℕ) (at there : At CracKind) (cs : List Contingency) → spot name at ≡ Ok (Some there) → contingency_list grid there ≡ Ok cs → length cs ≤ 512
unfolding contingency_list
few_contingencies grid name at there cs s e =
    let count = bind_ok (here length_of there) _ cs e in
    let few = bind_ok (refuse_if (nat_lt 512 count.0) (fault_here TooMany there)) _ cs count.2 in
    let most = array_few (contingency_of grid) name at there count.0 cs s count.1 few.2 in
    let test = refuse_if_ok (nat_lt 512 count.0) there.place TooMany few.0 few.1 in
    grind arith

record ContingenciesHold (branches : ℕ) (cs : List Contingency) : Type 0 where
  few : length cs ≤ 512
  all : AreContingencies branches cs

contingencies_ok : (grid : NamedGrid) → HasPlaces grid → (at : At CracKind) (cs : List Contingency) → contingencies_of grid at ≡ Ok cs → ContingenciesHold (length grid.branches) cs
unfolding contingencies_of
contingencies_ok grid places at cs e =
    let found = bind_ok (spot (codes "contingencies") at) _ cs e in
    by_found found.0 found.1 found.2
  where
    by_found : (o : Option (At CracKind)) → spot (codes "contingencies") at ≡ Ok o → contingencies_if grid o ≡ Ok cs → ContingenciesHold (length grid.branches) cs
    by_found None s f =
        let same : [] ≡ cs = cc in
        subst (ContingenciesHold (length grid.branches)) same (record { few = omega arith; all = no_contingencies (length grid.branches) })
    by_found (Some there) s f = record {
      few = few_contingencies grid (codes "contingencies") at there cs s f;
      all = contingency_list_ok grid places there cs f;
    }

-- ---- elements

-- what is known when the elements are read
record AreFacts (contingencies : ℕ) (facts : Facts) : Type 0 where
  places : HasPlaces facts.grid
  below : (id : List ℕ) → IfSome (value_at facts.contingencies id) (λ place. place < contingencies)

monitored_ok : (grid : NamedGrid) → HasPlaces grid → (at : At CracKind) (found : Named) → monitored_of grid at ≡ Ok found → found.branch < length grid.branches
unfolding monitored_of
monitored_ok grid places at found e =
    let name = bind_ok (required text_of (codes "networkElementId") at) _ found e in
    let one = bind_ok (found_or (branch_named grid name.0) (fault_in (codes "networkElementId") UnknownElement at)) _ found name.2 in
    let line = bind_ok (refuse_if (is_coupler_at grid one.0.branch) (fault_in (codes "networkElementId") CouplerMonitored at)) _ found one.2 in
    let same : one.0 ≡ found = cc in
    let is = found_or_ok (branch_named grid name.0) (in_member at.place (codes "networkElementId")) UnknownElement one.0 one.1 in
    subst (λ (f : Named). f.branch < length grid.branches) same (is_there (IsNamed (length grid.branches)) (branch_named grid name.0) one.0 is (named_ok grid name.0 places)).first

contingency_for_ok : (n : ℕ) (preventive : Bool) (contingencies : List (List ℕ × ℕ)) (at : At CracKind) (found : Option ℕ) → ((id : List ℕ) → IfSome (value_at contingencies id) (λ place. place < n))
    → contingency_for preventive contingencies at ≡ Ok found → IfSome found (λ place. place < n)
unfolding contingency_for
contingency_for_ok n true contingencies at found below e =
    let none = bind_ok (absent (codes "contingencyId") at) _ found e in
    let same : None ≡ found = cc in
    subst (λ (o : Option ℕ). IfSome o (λ place. place < n)) same tt
contingency_for_ok n false contingencies at found below e =
    let id = bind_ok (required text_of (codes "contingencyId") at) _ found e in
    let place = bind_ok (found_or (value_at contingencies id.0) (fault_in (codes "contingencyId") UnknownContingency at)) _ found id.2 in
    let same : Some place.0 ≡ found = cc in
    let is = found_or_ok (value_at contingencies id.0) (in_member at.place (codes "contingencyId")) UnknownContingency place.0 place.1 in
    subst (λ (o : Option ℕ). IfSome o (λ p. p < n)) same (is_there (λ p. p < n) (value_at contingencies id.0) place.0 is (below id.0))

state_ok : (n : ℕ) (facts : Facts) (at : At CracKind) (state : State) → AreFacts n facts → state_of facts at ≡ Ok state → IfSome state.contingency (λ place. place < n)
unfolding state_of
state_ok n facts at state h e =
    let instant = bind_ok (required text_of (codes "instant") at) _ state e in
    let kind = bind_ok (found_or (value_at facts.instants instant.0) (fault_in (codes "instant") UnknownInstant at)) _ state instant.2 in
    let contingency = bind_ok (contingency_for (is_preventive kind.0) facts.contingencies at) _ state kind.2 in
    let read : State = record { instant = instant.0; contingency = contingency.0 } in
    let same : read ≡ state = cc in
    subst (λ (s : State). IfSome s.contingency (λ place. place < n)) same (contingency_for_ok n (is_preventive kind.0) facts.contingencies at contingency.0 h.below contingency.1)

record AreElements (branches contingencies : ℕ) (es : List Element) : Type 0 where
  few : length es ≤ 20000
  each : All (IsElement branches contingencies) es
  ids : AreDistinct (element_ids es)

push_few : (before : List Element) (e : Element) → nat_le 20000 (length before) ≡ false → length (before ++ e ∷ []) ≤ 20000
push_few before e room =
    let long = length-append before (e ∷ []) in
    let below : length before < 20000 = grind arith in
    omega (arith, long, below)

entered_step : (n : ℕ) (facts : Facts) → AreFacts n facts → (before : List Element) (at : At CracKind) (item : Option Element) → entered_of facts before at ≡ Ok item
    → AreElements (length facts.grid.branches) n before → AreElements (length facts.grid.branches) n (before ++ option_to_list item)
unfolding entered_of
entered_step n facts h before at item e so_far =
    let room = bind_ok (refuse_if (nat_le 20000 (length before)) (fault_here TooMany at)) _ item e in
    let id = bind_ok (required text_of (codes "id") at) _ item room.2 in
    let new = bind_ok (refuse_if (is_among (element_ids before) id.0) (fault_in (codes "id") DuplicateId at)) _ item id.2 in
    let found = bind_ok (monitored_of facts.grid at) _ item new.2 in
    let state = bind_ok (state_of facts at) _ item found.2 in
    let margin = bind_ok (margin_of at) _ item state.2 in
    let limits = bind_ok (rated_limits facts.grid found.0.branch at) _ item margin.2 in
    let read : Element = element id.0 state.0 found.0 margin.0 limits.0 in
    let same : Some read ≡ item = same_value (Some read) item limits.2 in
    let fresh = refuse_if_ok (is_among (element_ids before) id.0) (in_member at.place (codes "id")) DuplicateId new.0 new.1 in
    let rated = rated_ok facts.grid found.0.branch at limits.0 limits.1 in
    let is : IsElement (length facts.grid.branches) n read = record {
      branch = monitored_ok facts.grid h.places at found.0 found.1;
      contingency = state_ok n facts at state.0 h state.1;
      margin = margin_ok at margin.0 margin.1;
      direct = rated.direct;
      opposite = rated.opposite;
      limited = rated.limited;
    } in
    subst (λ (o : Option Element). AreElements (length facts.grid.branches) n (before ++ option_to_list o)) {x = Some read} same (record {
      few = push_few before read (refuse_if_ok (nat_le 20000 (length before)) at.place TooMany room.0 room.1);
      each = All-push (IsElement (length facts.grid.branches) n) before read so_far.each is;
      ids = subst AreDistinct (sym (push_element before read)) (one_distinct (element_ids before) id.0 fresh so_far.ids);
    })

element_step : (n : ℕ) (facts : Facts) → AreFacts n facts → (before : List Element) (at : At CracKind) (item : Option Element) → entry_of facts before at ≡ Ok item
    → AreElements (length facts.grid.branches) n before → AreElements (length facts.grid.branches) n (before ++ option_to_list item)
unfolding entry_of
element_step n facts h before at item e so_far =
    let optimized = bind_ok (is_true (codes "optimized") at) _ item e in
    by_test optimized.0 optimized.2
  where
    by_test : (b : Bool) → cond b (entered_of facts before at) (Ok None) ≡ Ok item → AreElements (length facts.grid.branches) n (before ++ option_to_list item)
    by_test true f = entered_step n facts h before at item f so_far
    by_test false f =
        let same : None ≡ item = cc in
        subst (λ (o : Option Element). AreElements (length facts.grid.branches) n (before ++ option_to_list o)) same (subst (AreElements (length facts.grid.branches) n) (sym (append-nil before)) so_far)

no_elements : (branches contingencies : ℕ) → AreElements branches contingencies []
no_elements branches contingencies = record { few = omega arith; each = All-nil (IsElement branches contingencies); ids = none_distinct }

-- ---- the whole

crac_at_ok : (grid : NamedGrid) → HasPlaces grid → (at : At CracKind) (crac : Crac) → crac_at grid at ≡ Ok crac → IsCracOver grid.branches crac
unfolding crac_at
crac_at_ok grid places at crac e =
    let word = bind_ok (required text_of (codes "type") at) _ crac e in
    let is_crac = bind_ok (found_or (word_is (codes "CRAC") word.0) (fault_in (codes "type") WrongType at)) _ crac word.2 in
    let instants = bind_ok (instants_of at) _ crac is_crac.2 in
    let contingencies = bind_ok (contingencies_of grid at) _ crac instants.2 in
    let n : ℕ = length contingencies.0 in
    let facts : Facts = record { grid = grid; instants = instants.0; contingencies = places_of (contingency_ids contingencies.0) } in
    let elements = bind_ok (required_array (entry_of facts) (codes "flowCnecs") at) _ crac contingencies.2 in
    let read : Crac = record { contingencies = contingencies.0; elements = elements.0 } in
    let same : read ≡ crac = cc in
    let known : AreFacts n facts = record { places = places; below = contingency_below contingencies.0 } in
    let first = contingencies_ok grid places at contingencies.0 contingencies.1 in
    let all = required_array_keeps (AreElements (length grid.branches) n) (entry_of facts) (element_step n facts known) (codes "flowCnecs") at elements.0 (no_elements (length grid.branches) n) elements.1 in
    subst (IsCracOver grid.branches) same (record {
      contingencies = first.few;
      outages = first.all.each;
      distinct_contingencies = first.all.ids;
      elements = all.few;
      each = all.each;
      distinct_elements = all.ids;
    })

pub crac_holds : (nodes : List Node) (branches : List Branch) (tree : Data) (crac : Crac) → crac_of nodes branches tree ≡ Ok crac → IsCracOver branches crac
unfolding crac_of
crac_holds nodes branches tree crac e = crac_at_ok _ (grid_places nodes branches) _ crac e

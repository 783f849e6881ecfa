-- Readings step by step, at any place: what they give once the first steps are known.
use Rattle.std.proofs.Common.{◌≡◌, ℕ, Bool, true, false, not, List, Some, None, Ok, refl, sym, ap, ◌∙◌}
use Rattle.std.specs.Prelude.{⊤, codes}
use Rattle.std.specs.List.{flat_map}
use Rattle.fb_types.specs.declared.crac.Contingency.{Contingency}
use Rattle.fb_json.specs.Tree.{text_of}
use Rattle.json_reading.specs.Outcome.{Fails, Refuses}
use Rattle.json_reading.specs.Reading.{At, absent, fault_in, found_or, required, required_array}
use Rattle.json_reading.specs.Place.{in_member}
use Rattle.json_reading.specs.declared.fault.ReadError.{ReadError}
use Rattle.json_reading.specs.declared.fault.ReadError.TheVariants as errors
use Rattle.json_reading.proofs.Refused.{refused}
use Rattle.name_tables.specs.Names.{is_among, value_at}
use Rattle.crac_model.specs.Crac.{branches_named, contingency_for, contingency_ids, contingency_of, is_coupler_at, monitored_of, outage_of}
use Rattle.crac_model.specs.Naming.{NamedGrid, branch_named}
use Rattle.crac_model.specs.declared.fault.CracKind.{CracKind}
use Rattle.crac_model.specs.declared.fault.CracKind.TheVariants.{CouplerMonitored, UnknownContingency, UnknownElement}
use Rattle.crac_model.specs.declared.names.Named.{Named}

-- ---- The contingency of an element

pub absent_failed : (known : List (List ℕ × ℕ)) (at : At CracKind) (e : ReadError CracKind) → Fails e (absent (codes "contingencyId") at) → Fails e (contingency_for true known at)
unfolding contingency_for
absent_failed known at (errors.Memory m) h = tt
absent_failed known at (errors.Fault p k) h = rw h refl

pub none_there : (known : List (List ℕ × ℕ)) (at : At CracKind) (found : ⊤) → absent (codes "contingencyId") at ≡ Ok found → contingency_for true known at ≡ Ok None
unfolding contingency_for
none_there known at found h = rw h refl

pub id_failed : (known : List (List ℕ × ℕ)) (at : At CracKind) (e : ReadError CracKind) → Fails e (required text_of (codes "contingencyId") at) → Fails e (contingency_for false known at)
unfolding contingency_for
id_failed known at (errors.Memory m) h = tt
id_failed known at (errors.Fault p k) h = rw h refl

pub place_failed : (known : List (List ℕ × ℕ)) (at : At CracKind) (id : List ℕ) (e : ReadError CracKind) → required text_of (codes "contingencyId") at ≡ Ok id
    → Fails e (found_or (value_at known id) (fault_in (codes "contingencyId") UnknownContingency at)) → Fails e (contingency_for false known at)
unfolding contingency_for
place_failed known at id (errors.Memory m) first h = tt
place_failed known at id (errors.Fault p k) first h = rw (first, h) refl

pub place_there : (known : List (List ℕ × ℕ)) (at : At CracKind) (id : List ℕ) (place : ℕ) → required text_of (codes "contingencyId") at ≡ Ok id
    → found_or (value_at known id) (fault_in (codes "contingencyId") UnknownContingency at) ≡ Ok place → contingency_for false known at ≡ Ok (Some place)
unfolding contingency_for
place_there known at id place first h = rw (first, h) refl

-- ---- The branch of an element

pub branch_failed : (grid : NamedGrid) (at : At CracKind) (name : List ℕ) (e : ReadError CracKind) → required text_of (codes "networkElementId") at ≡ Ok name
    → Fails e (found_or (branch_named grid name) (fault_in (codes "networkElementId") UnknownElement at)) → Fails e (monitored_of grid at)
unfolding monitored_of
branch_failed grid at name (errors.Memory m) first h = tt
branch_failed grid at name (errors.Fault p k) first h = rw (first, h) refl

pub coupler_refused : (grid : NamedGrid) (at : At CracKind) (name : List ℕ) (found : Named) (e : ReadError CracKind) → required text_of (codes "networkElementId") at ≡ Ok name
    → found_or (branch_named grid name) (fault_in (codes "networkElementId") UnknownElement at) ≡ Ok found → is_coupler_at grid found.branch ≡ true
    → Refuses e (in_member at.place (codes "networkElementId")) CouplerMonitored → Fails e (monitored_of grid at)
unfolding monitored_of
coupler_refused grid at name found e first second coupler r = refused e (monitored_of grid at) (in_member at.place (codes "networkElementId")) CouplerMonitored r (rw (first, second, coupler) refl)

pub branch_there : (grid : NamedGrid) (at : At CracKind) (name : List ℕ) (found : Named) → required text_of (codes "networkElementId") at ≡ Ok name
    → found_or (branch_named grid name) (fault_in (codes "networkElementId") UnknownElement at) ≡ Ok found → is_coupler_at grid found.branch ≡ false → monitored_of grid at ≡ Ok found
unfolding monitored_of
branch_there grid at name found first second coupler = rw (first, second, coupler) refl

-- ---- A contingency

pub no_name : (names ids : List (List ℕ)) (id : List ℕ) (is_new : Bool) → names ≡ ids → is_new ≡ not (is_among names id) → is_new ≡ true → is_among ids id ≡ false
no_name names ids id is_new same added holds = sym (ap (λ ns. is_among ns id) same) ∙ by_test (is_among names id) (sym added ∙ holds)
  where
    by_test : (b : Bool) → not b ≡ true → b ≡ false
    by_test true h = sym h
    by_test false h = refl

pub outages_failed : (grid : NamedGrid) (before : List Contingency) (at : At CracKind) (id : List ℕ) (e : ReadError CracKind) → required text_of (codes "id") at ≡ Ok id → is_among (contingency_ids before) id ≡ false
    → Fails e (required_array (outage_of grid) (codes "networkElementsIds") at) → Fails e (contingency_of grid before at)
unfolding contingency_of
outages_failed grid before at id (errors.Memory m) first new h = tt
outages_failed grid before at id (errors.Fault p k) first new h = rw (first, new, h) refl

pub contingency_there : (grid : NamedGrid) (before : List Contingency) (at : At CracKind) (id : List ℕ) (outages : List Named) → required text_of (codes "id") at ≡ Ok id → is_among (contingency_ids before) id ≡ false
    → required_array (outage_of grid) (codes "networkElementsIds") at ≡ Ok outages → contingency_of grid before at ≡ Ok (Some (record { id = id; branches = flat_map branches_named outages }))
unfolding contingency_of
contingency_there grid before at id outages first new h = rw (first, new, h) refl

-- What a reading that gives a value went through, and what holds of each array that it gives.
use Rattle.std.proofs.Common.{◌≡◌, ℕ, suc, ◌+◌, ◌≤◌, Bool, true, false, List, [], ◌∷◌, ◌++◌, length, Option, Some, None, Result, Ok, Err, refl, sym, ap, ◌∙◌, subst, arith, length-append}
use Rattle.std.specs.Prelude.{⊤}
use Rattle.std.specs.Option.{option_map_or, option_to_list}
use Rattle.serde_json.specs.Data.{Data}
use Rattle.fb_json.specs.Tree.{length_of}
use Rattle.fb_json.specs.declared.document.Got.{Got}
use Rattle.fb_json.specs.declared.document.Got.TheVariants.{Absent, Wrong, Value}
use Rattle.json_reading.specs.Place.{in_member}
use Rattle.json_reading.specs.Reading.{Fault, At, ◌>>=◌, refuse, refuse_if, found_or, member, form_read, form_of, found_or_missing, optional, required, spot, entries_of, list_of, spots_from, each, each_read, array, array_if, optional_array, required_array}
use Rattle.json_reading.proofs.Entries.{counted}

pub bind_ok : {K A B : Type 0} (r : Result A (Fault K)) (f : A → Result B (Fault K)) (y : B) → (r >>= f) ≡ Ok y → (x : A) × (r ≡ Ok x) × (f x ≡ Ok y)
bind_ok (Ok x) f y e = (x, refl, e)
bind_ok (Err k) f y e = absurd cc

pub refuse_if_ok : {K : Type 0} (test : Bool) (place : List ℕ) (kind : K) (t : ⊤) → refuse_if test (refuse place kind) ≡ Ok t → test ≡ false
refuse_if_ok true place kind t e = absurd cc
refuse_if_ok false place kind t e = refl

pub found_or_ok : {K B : Type 0} (found : Option B) (place : List ℕ) (kind : K) (x : B) → found_or found (refuse place kind) ≡ Ok x → found ≡ Some x
found_or_ok None place kind x e = absurd cc
found_or_ok (Some y) place kind x e = cc

-- ---- members

form_of_ok : {K B : Type 0} (name : List ℕ) (at : At K) (got : Got B) (x : B) → form_read name at got ≡ Ok (Some x) → got ≡ Value x
form_of_ok name at Absent x e = absurd cc
form_of_ok name at Wrong x e = absurd cc
form_of_ok name at (Value y) x e = cc

member_ok : {K B : Type 0} (form : Data → Got B) (name : List ℕ) (at : At K) (found : Option Data) (x : B) → form_of form name at found ≡ Ok (Some x) → (d : Data) × (found ≡ Some d) × (form d ≡ Value x)
member_ok form name at None x e = absurd cc
member_ok form name at (Some d) x e = (d, refl, form_of_ok name at (form d) x e)

pub optional_ok : {K B : Type 0} (form : Data → Got B) (name : List ℕ) (at : At K) (x : B) → optional form name at ≡ Ok (Some x) → (d : Data) × (member name at ≡ Ok (Some d)) × (form d ≡ Value x)
unfolding optional
optional_ok form name at x e =
    let h = bind_ok (member name at) (λ found. form_of form name at found) (Some x) e in
    let g = member_ok form name at h.0 x h.2 in
    (g.0, h.1 ∙ ap Ok g.1, g.2)

found_or_missing_ok : {K B : Type 0} (name : List ℕ) (at : At K) (found : Option B) (x : B) → found_or_missing name at found ≡ Ok x → found ≡ Some x
found_or_missing_ok name at None x e = absurd cc
found_or_missing_ok name at (Some y) x e = cc

pub required_ok : {K B : Type 0} (form : Data → Got B) (name : List ℕ) (at : At K) (x : B) → required form name at ≡ Ok x → (d : Data) × (member name at ≡ Ok (Some d)) × (form d ≡ Value x)
unfolding required
required_ok form name at x e =
    let h = bind_ok (optional form name at) (λ found. found_or_missing name at found) x e in
    optional_ok form name at x (h.1 ∙ ap Ok (found_or_missing_ok name at h.0 x h.2))

-- ---- arrays

-- what each item keeps, all items keep
pub each_keeps : {K B : Type 0} (P : List B → Type 0) (read : List B → At K → Result (Option B) (Fault K))
    → ((before : List B) (at : At K) (item : Option B) → read before at ≡ Ok item → P before → P (before ++ option_to_list item))
    → (spots : List (At K)) (before items : List B) → P before → each read before spots ≡ Ok items → P items
unfolding each
each_keeps {K} {B} P read step [] before items p e = let same : before ≡ items = cc in subst P same p
each_keeps P read step (at ∷ more) before items p e =
    let h = bind_ok (read before at) (λ item. each read (before ++ option_to_list item) more) items e in
    each_keeps P read step more (before ++ option_to_list h.0) items (step before at h.0 h.1 p) h.2

each_read_keeps : {K B : Type 0} (P : List B → Type 0) (read : List B → At K → Result (Option B) (Fault K))
    → ((before : List B) (at : At K) (item : Option B) → read before at ≡ Ok item → P before → P (before ++ option_to_list item))
    → (at : At K) (got : Got (List Data)) (items : List B) → P [] → each_read read at got ≡ Ok items → P items
each_read_keeps P read step at Absent items p e = absurd cc
each_read_keeps P read step at Wrong items p e = absurd cc
each_read_keeps P read step at (Value ds) items p e = each_keeps P read step (spots_from 0 at ds) [] items p e

pub array_keeps : {K B : Type 0} (P : List B → Type 0) (read : List B → At K → Result (Option B) (Fault K))
    → ((before : List B) (at : At K) (item : Option B) → read before at ≡ Ok item → P before → P (before ++ option_to_list item))
    → (at : At K) (items : List B) → P [] → array read at ≡ Ok items → P items
unfolding array
array_keeps P read step at items p e = each_read_keeps P read step at (list_of at.tree) items p e

array_if_ok : {K B : Type 0} (read : List B → At K → Result (Option B) (Fault K)) (found : Option (At K)) (items : List B) → array_if read found ≡ Ok (Some items) → (at : At K) × (found ≡ Some at) × (array read at ≡ Ok items)
array_if_ok read None items e = absurd cc
array_if_ok {K} {B} read (Some at) items e =
    let h = bind_ok (array read at) (λ (xs : List B). Ok (Some xs)) (Some items) e in
    let same : h.0 ≡ items = cc in
    (at, refl, h.1 ∙ ap Ok same)

pub optional_array_keeps : {K B : Type 0} (P : List B → Type 0) (read : List B → At K → Result (Option B) (Fault K))
    → ((before : List B) (at : At K) (item : Option B) → read before at ≡ Ok item → P before → P (before ++ option_to_list item))
    → (name : List ℕ) (at : At K) (items : List B) → P [] → optional_array read name at ≡ Ok (Some items) → P items
unfolding optional_array
optional_array_keeps P read step name at items p e =
    let h = bind_ok (spot name at) (λ found. array_if read found) (Some items) e in
    let g = array_if_ok read h.0 items h.2 in
    array_keeps P read step g.0 items p g.2

given_array : {K B : Type 0} (read : List B → At K → Result (Option B) (Fault K)) (name : List ℕ) (at : At K) (items : List B) → required_array read name at ≡ Ok items → optional_array read name at ≡ Ok (Some items)
unfolding required_array
given_array read name at items e =
    let h = bind_ok (optional_array read name at) (λ found. found_or_missing name at found) items e in
    h.1 ∙ ap Ok (found_or_missing_ok name at h.0 items h.2)

pub required_array_keeps : {K B : Type 0} (P : List B → Type 0) (read : List B → At K → Result (Option B) (Fault K))
    → ((before : List B) (at : At K) (item : Option B) → read before at ≡ Ok item → P before → P (before ++ option_to_list item))
    → (name : List ℕ) (at : At K) (items : List B) → P [] → required_array read name at ≡ Ok items → P items
required_array_keeps P read step name at items p e = optional_array_keeps P read step name at items p (given_array read name at items e)

-- ---- lengths

few_more : {B : Type 0} (before : List B) (item : Option B) → length (before ++ option_to_list item) ≤ length before + 1
few_more before None = omega (arith, length-append before [])
few_more {B} before (Some b) = let e = length-append before (b ∷ []) in omega arith

each_few : {K B : Type 0} (read : List B → At K → Result (Option B) (Fault K)) (spots : List (At K)) (before items : List B) → each read before spots ≡ Ok items → length items ≤ length before + length spots
unfolding each
each_few {K} {B} read [] before items e = let same : before ≡ items = cc in let n = ap (λ (xs : List B). length xs) same in omega arith
each_few read (at ∷ more) before items e =
    let h = bind_ok (read before at) (λ item. each read (before ++ option_to_list item) more) items e in
    let rest = each_few read more (before ++ option_to_list h.0) items h.2 in
    let one = few_more before h.0 in
    omega arith

spots_length : {K : Type 0} (k : ℕ) (at : At K) (ds : List Data) → length (spots_from k at ds) ≡ length ds
spots_length k at [] = refl
spots_length k at (d ∷ ds) = ap suc (spots_length (k + 1) at ds)

array_few : {K B : Type 0} (read : List B → At K → Result (Option B) (Fault K)) (at : At K) (n : ℕ) (items : List B) → length_of at.tree ≡ Value n → array read at ≡ Ok items → length items ≤ n
unfolding array
array_few read at n items long e =
    let c = counted at.tree n long in
    let given : each_read read at (Value (entries_of at.tree)) ≡ Ok items = ap (each_read read at) (sym c.1) ∙ e in
    let few = each_few read (spots_from 0 at (entries_of at.tree)) [] items given in
    let all = spots_length 0 at (entries_of at.tree) in
    omega (arith, c.0)

-- an array of n items gives at most n
pub required_array_few : {K B : Type 0} (read : List B → At K → Result (Option B) (Fault K)) (name : List ℕ) (at : At K) (n : ℕ) (items : List B)
    → required length_of name at ≡ Ok n → required_array read name at ≡ Ok items → length items ≤ n
unfolding optional_array spot
required_array_few {K} {B} read name at n items long e =
    let g = required_ok length_of name at n long in
    let there : At K = record at { place = in_member at.place name; tree = g.0 } in
    let h = bind_ok (spot name at) (λ found. array_if read found) (Some items) (given_array read name at items e) in
    let found : spot name at ≡ Ok (Some there) =
    ap (λ (r : Result (Option Data) (Fault K)). r >>= λ found. Ok (option_map_or (λ d. Some (record at { place = in_member at.place name; tree = d })) found None)) g.1 in
    let same : Some there ≡ h.0 = cc in
    let a = array_if_ok read h.0 items h.2 in
    let at_there : there ≡ a.0 = cc in
    array_few read there n items g.2 (ap (λ (x : At K). array read x) at_there ∙ a.2)

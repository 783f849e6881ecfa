-- What the reading of a document is made of: members of a form, arrays of items, checks in order. A reading is a
-- value, or the one first fault. A description is read from top to bottom, and the first fault in it counts.
use Rattle.std.specs.Prelude.{ℕ, ◌+◌, Bool, true, false, List, [], ◌∷◌, ◌++◌, Option, Some, None, Result, Ok, Err, ⊤, is_some}
use Rattle.std.specs.Option.{option_map_or, option_to_list}
use Rattle.serde_json.specs.Data.{Data}
use Rattle.serde_json.specs.Find.{as_array}
use Rattle.fb_json.specs.Tree.{listed, member_of, truth_of}
use Rattle.fb_json.specs.declared.document.Got.{Got}
use Rattle.fb_json.specs.declared.document.Got.TheVariants.{Absent, Wrong, Value}
use Rattle.json_reading.specs.Place.{in_member, in_item}

pub record Fault (K : Type 0) : Type 0 where
  pub place : List ℕ
  pub kind : K

-- A spot of a document: its place, the tree there, and how the document's faults of form are called.
pub record At (K : Type 0) : Type 0 where
  pub place : List ℕ
  pub tree : Data
  pub missing : K
  pub wrong : K

abbrev pub Reading : Type 0 → Type 0 → Type 0
Reading K A = Result A (Fault K)

infixl 10 ◌>>=◌
abbrev pub ◌>>=◌ : {K A B : Type 0} → Result A (Fault K) → (A → Result B (Fault K)) → Result B (Fault K)
(Ok x) >>= f = f x
(Err e) >>= f = Err e

-- ---- faults and checks

-- a fault of this kind at this place
abbrev pub refuse : {K A : Type 0} → List ℕ → K → Result A (Fault K)
refuse place kind = Err (record { place = place; kind = kind })

-- a fault at the spot itself, and at a member of it
abbrev pub fault_here : {K A : Type 0} → K → At K → Result A (Fault K)
fault_here kind at = refuse at.place kind

abbrev pub fault_in : {K A : Type 0} → List ℕ → K → At K → Result A (Fault K)
fault_in name kind at = refuse (in_member at.place name) kind

-- a check: where the test holds, this fault
abbrev pub refuse_if : {K : Type 0} → Bool → Result ⊤ (Fault K) → Result ⊤ (Fault K)
refuse_if true fault = fault
refuse_if false fault = Ok tt

-- what was looked up, or this fault
abbrev pub found_or : {K B : Type 0} → Option B → Result B (Fault K) → Result B (Fault K)
found_or None fault = fault
found_or (Some x) fault = Ok x

-- ---- members

-- the tree of a member, where the spot is an object
abbrev pub member_read : {K : Type 0} → At K → Got Data → Result (Option Data) (Fault K)
member_read at Absent = Ok None
member_read at Wrong = fault_here at.wrong at
member_read at (Value d) = Ok (Some d)

unfoldable pub member : {K : Type 0} → List ℕ → At K → Result (Option Data) (Fault K)
member name at = member_read at (member_of name at.tree)

abbrev pub form_read : {K B : Type 0} → List ℕ → At K → Got B → Result (Option B) (Fault K)
form_read name at Absent = fault_in name at.wrong at
form_read name at Wrong = fault_in name at.wrong at
form_read name at (Value x) = Ok (Some x)

abbrev pub form_of : {K B : Type 0} → (Data → Got B) → List ℕ → At K → Option Data → Result (Option B) (Fault K)
form_of form name at None = Ok None
form_of form name at (Some d) = form_read name at (form d)

-- a member of this form, if it is there
unfoldable pub optional : {K B : Type 0} → (Data → Got B) → List ℕ → At K → Result (Option B) (Fault K)
optional form name at = member name at >>= λ found. form_of form name at found

abbrev pub found_or_missing : {K B : Type 0} → List ℕ → At K → Option B → Result B (Fault K)
found_or_missing name at None = fault_in name at.missing at
found_or_missing name at (Some x) = Ok x

-- a member of this form, which must be there
unfoldable pub required : {K B : Type 0} → (Data → Got B) → List ℕ → At K → Result B (Fault K)
required form name at = optional form name at >>= λ found. found_or_missing name at found

-- the spot of a member, of any form
unfoldable pub spot : {K : Type 0} → List ℕ → At K → Result (Option (At K)) (Fault K)
spot name at = member name at >>= λ found. Ok (option_map_or (λ d. Some (record at { place = in_member at.place name; tree = d })) found None)

-- the spot itself is of this form
abbrev pub here_read : {K B : Type 0} → At K → Got B → Result B (Fault K)
here_read at Absent = fault_here at.wrong at
here_read at Wrong = fault_here at.wrong at
here_read at (Value x) = Ok x

unfoldable pub here : {K B : Type 0} → (Data → Got B) → At K → Result B (Fault K)
here form at = here_read at (form at.tree)

-- whether a member is there and true; any other form of it is as good as none
abbrev pub got_true : Got Bool → Bool
got_true Absent = false
got_true Wrong = false
got_true (Value b) = b

unfoldable pub is_true : {K : Type 0} → List ℕ → At K → Result Bool (Fault K)
is_true name at = member name at >>= λ found. Ok (option_map_or (λ d. got_true (truth_of d)) found false)

-- whether a member is there, of any form
unfoldable pub has : {K : Type 0} → List ℕ → At K → Result Bool (Fault K)
has name at = member name at >>= λ found. Ok (is_some found)

-- a member that must not be there
abbrev pub none_there : {K : Type 0} → List ℕ → At K → Option Data → Result ⊤ (Fault K)
none_there name at None = Ok tt
none_there name at (Some d) = fault_in name at.wrong at

unfoldable pub absent : {K : Type 0} → List ℕ → At K → Result ⊤ (Fault K)
absent name at = member name at >>= λ found. none_there name at found

-- ---- arrays

-- the items that stand in a tree: none where it is no array
unfoldable pub entries_of : Data → List Data
entries_of d = option_map_or listed (as_array d) []

-- the items of an array
unfoldable pub list_of : Data → Got (List Data)
list_of d = option_map_or (λ ds. Value (listed ds)) (as_array d) Wrong

-- the spots of items, from number k on
abbrev pub spots_from : {K : Type 0} → ℕ → At K → List Data → List (At K)
spots_from k at [] = []
spots_from k at (d ∷ ds) = record at { place = in_item at.place k; tree = d } ∷ spots_from (k + 1) at ds

-- Each item read in turn, knowing those read before. An item may be passed over: it is then None.
unfoldable pub each : {K B : Type 0} → (List B → At K → Result (Option B) (Fault K)) → List B → List (At K) → Result (List B) (Fault K)
each read before [] = Ok before
each read before (at ∷ more) = read before at >>= λ item. each read (before ++ option_to_list item) more

abbrev pub each_read : {K B : Type 0} → (List B → At K → Result (Option B) (Fault K)) → At K → Got (List Data) → Result (List B) (Fault K)
each_read read at Absent = fault_here at.wrong at
each_read read at Wrong = fault_here at.wrong at
each_read read at (Value ds) = each read [] (spots_from 0 at ds)

-- the spot is an array, each item so
unfoldable pub array : {K B : Type 0} → (List B → At K → Result (Option B) (Fault K)) → At K → Result (List B) (Fault K)
array read at = each_read read at (list_of at.tree)

abbrev pub array_if : {K B : Type 0} → (List B → At K → Result (Option B) (Fault K)) → Option (At K) → Result (Option (List B)) (Fault K)
array_if read None = Ok None
array_if read (Some at) = array read at >>= λ items. Ok (Some items)

-- a member that is an array, each item so
unfoldable pub optional_array : {K B : Type 0} → (List B → At K → Result (Option B) (Fault K)) → List ℕ → At K → Result (Option (List B)) (Fault K)
optional_array read name at = spot name at >>= λ found. array_if read found

unfoldable pub required_array : {K B : Type 0} → (List B → At K → Result (Option B) (Fault K)) → List ℕ → At K → Result (List B) (Fault K)
required_array read name at = optional_array read name at >>= λ found. found_or_missing name at found

-- Going over the items of an array.
use Rattle.std.proofs.Common.{◌≡◌, ℕ, zero, suc, ◌+◌, ◌<◌, ◌≤◌, List, [], ◌∷◌, ◌++◌, length, drop, Option, Some, None, Result, Ok, Err, refl, sym, ap, ◌∙◌, arith, slice_get, add-one}
use Rattle.std.proofs.lemmas.List.{at_drop_all}
use Rattle.std.specs.Option.{option_map_or, option_to_list}
use Rattle.serde_json.specs.Data.{Data, Items}
use Rattle.serde_json.specs.Find.{as_array}
use Rattle.fb_json.specs.Tree.{listed, item_of, length_of}
use Rattle.fb_json.specs.declared.document.Got.{Got}
use Rattle.fb_json.specs.declared.document.Got.TheVariants.{Absent, Wrong, Value}
use Rattle.json_reading.specs.Reading.{Fault, At, ◌>>=◌, here_read, here, entries_of, list_of, each, spots_from}
use Rattle.json_reading.specs.Outcome.{Fails}
use Rattle.json_reading.specs.declared.fault.ReadError.{ReadError}
use Rattle.json_reading.specs.declared.fault.ReadError.TheVariants as errors

abbrev item_in : ℕ → Option Items → Got Data
item_in k o = option_map_or (λ ds. option_map_or (λ e. Value e) (slice_get (listed ds) k) Absent) o Wrong

abbrev entries_in : Option Items → List Data
entries_in o = option_map_or listed o []

abbrev length_in : Option Items → Got ℕ
length_in o = option_map_or (λ ds. Value (length (listed ds))) o Wrong

abbrev list_in : Option Items → Got (List Data)
list_in o = option_map_or (λ ds. Value (listed ds)) o Wrong

cut : (xs : List Data) (k : ℕ) (e : Data) → option_map_or (λ e'. Value e') (slice_get xs k) Absent ≡ Value e → drop k xs ≡ e ∷ drop (suc k) xs
cut [] k e h = absurd cc
cut (x ∷ xs) zero e h = let s : x ≡ e = cc in ap (λ (d : Data). d ∷ xs) s
cut (x ∷ xs) (suc k) e h = cut xs k e h

cut_in : (o : Option Items) (k : ℕ) (e : Data) → item_in k o ≡ Value e → drop k (entries_in o) ≡ e ∷ drop (suc k) (entries_in o)
cut_in None k e h = absurd cc
cut_in (Some ds) k e h = cut (listed ds) k e h

-- an item that was found
pub item_is : (d : Data) (k : ℕ) (e : Data) → item_of k d ≡ Value e → drop k (entries_of d) ≡ e ∷ drop (k + 1) (entries_of d)
unfolding item_of entries_of
item_is d k e h = rw add-one (cut_in (as_array d) k e h)

there : (xs : List Data) (k : ℕ) → k < length xs → option_map_or (λ e'. Value e') (slice_get xs k) Absent ≡ Absent → ⊥
there [] k lt h = absurd (omega arith)
there (x ∷ xs) zero lt h = cc
there (x ∷ xs) (suc k) lt h = there xs k (omega arith) h

there_in : (o : Option Items) (k : ℕ) → k < length (entries_in o) → item_in k o ≡ Absent → ⊥
there_in None k lt h = cc
there_in (Some ds) k lt h = there (listed ds) k lt h

-- an item below the length is there
pub not_absent : (d : Data) (k : ℕ) → k < length (entries_of d) → item_of k d ≡ Absent → ⊥
unfolding item_of entries_of
not_absent d k lt h = there_in (as_array d) k lt h

right : (xs : List Data) (k : ℕ) → option_map_or (λ e'. Value e') (slice_get xs k) Absent ≡ Wrong → ⊥
right [] k h = cc
right (x ∷ xs) zero h = cc
right (x ∷ xs) (suc k) h = right xs k h

right_in : (o : Option Items) (k : ℕ) → k < length (entries_in o) → item_in k o ≡ Wrong → ⊥
right_in None k lt h = absurd (omega arith)
right_in (Some ds) k lt h = right (listed ds) k h

pub not_wrong : (d : Data) (k : ℕ) → k < length (entries_of d) → item_of k d ≡ Wrong → ⊥
unfolding item_of entries_of
not_wrong d k lt h = right_in (as_array d) k lt h

counted_in : (o : Option Items) (n : ℕ) → length_in o ≡ Value n → (n ≡ length (entries_in o)) × (list_in o ≡ Value (entries_in o))
counted_in None n h = absurd cc
counted_in (Some ds) n h = (cc, refl)

-- what has a length is an array
pub counted : (d : Data) (n : ℕ) → length_of d ≡ Value n → (n ≡ length (entries_of d)) × (list_of d ≡ Value (entries_of d))
unfolding length_of entries_of list_of
counted d n h = counted_in (as_array d) n h

no_length_in : (o : Option Items) → ((n : ℕ) → length_in o ≡ Value n → ⊥) → list_in o ≡ Wrong
no_length_in None h = refl
no_length_in (Some ds) h = absurd (h _ refl)

-- what has no length is none
pub no_length : (d : Data) → ((n : ℕ) → length_of d ≡ Value n → ⊥) → list_of d ≡ Wrong
unfolding length_of list_of
no_length d h = no_length_in (as_array d) h

-- ---- the loop

pub goes_on : {K B : Type 0} (read : List B → At K → Result (Option B) (Fault K)) (before after : List B) (at : At K) (more : List (At K)) (item : Option B) (total : Result (List B) (Fault K))
    → read before at ≡ Ok item → after ≡ before ++ option_to_list item → each read before (at ∷ more) ≡ total → each read after more ≡ total
unfolding each
goes_on read before after at more item total h a so_far =
    let one : (read before at >>= λ i. each read (before ++ option_to_list i) more) ≡ each read (before ++ option_to_list item) more = rw h refl in
    rw a (sym one ∙ so_far)

pub ends : {K B : Type 0} (e : ReadError K) (read : List B → At K → Result (Option B) (Fault K)) (before : List B) (at : At K) (more : List (At K)) (total : Result (List B) (Fault K))
    → Fails e (read before at) → each read before (at ∷ more) ≡ total → Fails e total
unfolding each
ends (errors.Memory m) read before at more total h so_far = tt
ends (errors.Fault p k) read before at more total h so_far =
    let one : (read before at >>= λ i. each read (before ++ option_to_list i) more) ≡ Err (record { place = p; kind = k }) = rw h refl in
    sym so_far ∙ one

pub is_done : {K B : Type 0} (read : List B → At K → Result (Option B) (Fault K)) (before : List B) (at : At K) (k : ℕ) (ds : List Data) (total : Result (List B) (Fault K))
    → length ds ≤ k → each read before (spots_from k at (drop k ds)) ≡ total → total ≡ Ok before
unfolding each
is_done read before at k ds total le so_far =
    let one : each read before (spots_from k at (drop k ds)) ≡ each read before [] = at_drop_all (λ (xs : List Data). each read before (spots_from k at xs)) ds k le in
    sym so_far ∙ one

measured_in : {K : Type 0} (at : At K) (o : Option Items) (n : ℕ) → here_read at (length_in o) ≡ Ok n → n ≡ length (entries_in o)
measured_in at None n h = absurd cc
measured_in at (Some ds) n h = cc

-- the length that was read is that of the items
pub measured : {K : Type 0} (at : At K) (n : ℕ) → here length_of at ≡ Ok n → n ≡ length (entries_of at.tree)
unfolding here length_of entries_of
measured at n h = measured_in at (as_array at.tree) n h

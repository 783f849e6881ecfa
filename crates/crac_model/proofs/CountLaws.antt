-- How many items an array gives that may be absent.
use Rattle.std.proofs.Common.{◌≡◌, ℕ, ◌≤◌, List, length, Option, Some, None, Ok, ap, ◌∙◌}
use Rattle.std.specs.Prelude.{Result}
use Rattle.std.specs.Option.{option_map_or}
use Rattle.serde_json.specs.Data.{Data}
use Rattle.fb_json.specs.Tree.{length_of}
use Rattle.fb_json.specs.declared.document.Got.{Got}
use Rattle.fb_json.specs.declared.document.Got.TheVariants.{Absent, Wrong, Value}
use Rattle.json_reading.specs.Place.{in_member}
use Rattle.json_reading.specs.Reading.{At, Fault, ◌>>=◌, here_read, here, member, form_read, form_of, found_or_missing, optional, required, spot, array, array_if, optional_array, required_array}
use Rattle.json_reading.proofs.Kept.{bind_ok, required_array_few}

member_there : {K : Type 0} (name : List ℕ) (at there : At K) → spot name at ≡ Ok (Some there) → member name at ≡ Ok (Some there.tree)
unfolding spot
member_there {K} name at there e =
    let found = bind_ok (member name at) _ (Some there) e in
    by_found found.0 found.1 found.2
  where
    by_found : (o : Option Data) → member name at ≡ Ok o → Ok (option_map_or (λ d. Some (record at { place = in_member at.place name; tree = d })) o None) ≡ (let r : Result (Option (At K)) (Fault K) = Ok (Some there) in r)
        → member name at ≡ Ok (Some there.tree)
    by_found None m s = absurd cc
    by_found (Some d) m s =
        let is : d ≡ there.tree = cc in
        m ∙ ap (λ (t : Data). Ok (Some t)) is

got_ok : {K : Type 0} (at : At K) (got : Got ℕ) (n : ℕ) → here_read at got ≡ Ok n → got ≡ Value n
got_ok at Absent n e = absurd cc
got_ok at Wrong n e = absurd cc
got_ok at (Value m) n e = cc

length_there : {K : Type 0} (name : List ℕ) (at there : At K) (n : ℕ) → spot name at ≡ Ok (Some there) → here length_of there ≡ Ok n → required length_of name at ≡ Ok n
unfolding required optional here
length_there {K} name at there n e h =
    ap (λ (r : Result (Option Data) (Fault K)). (r >>= λ found. form_of length_of name at found) >>= λ found. found_or_missing name at found) (member_there name at there e)
    ∙ ap (λ (g : Got ℕ). form_read name at g >>= λ found. found_or_missing name at found) (got_ok there (length_of there.tree) n h)

array_there : {K B : Type 0} (read : List B → At K → Result (Option B) (Fault K)) (name : List ℕ) (at there : At K) (items : List B) → spot name at ≡ Ok (Some there) → array read there ≡ Ok items → required_array read name at ≡ Ok items
unfolding required_array optional_array
array_there {K} {B} read name at there items e a =
    ap (λ (r : Result (Option (At K)) (Fault K)). (r >>= λ found. array_if read found) >>= λ found. found_or_missing name at found) e
    ∙ ap (λ (r : Result (List B) (Fault K)). (r >>= λ (xs : List B). Ok (Some xs)) >>= λ found. found_or_missing name at found) a

-- an array of n items that is there gives at most n
pub array_few : {K B : Type 0} (read : List B → At K → Result (Option B) (Fault K)) (name : List ℕ) (at there : At K) (n : ℕ) (items : List B)
    → spot name at ≡ Ok (Some there) → here length_of there ≡ Ok n → array read there ≡ Ok items → length items ≤ n
array_few read name at there n items e h a = required_array_few read name at n items (length_there name at there n e h) (array_there read name at there items e a)

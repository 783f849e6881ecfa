-- The tree of a marked document, and what stands at a spot of it.
use Rattle.std.specs.Prelude.{◌≡◌, ℕ, ◌==◌, Bool, true, false, List, [], ◌∷◌, length, codes, slice_get, if◌then◌else◌, Option, Some, None, is_some, Result, Ok, Err, IsUtf8}
use Rattle.std.specs.Option.{option_map_or}
use Rattle.std.specs.Str.{bytes_eq}
use Rattle.serde_json.specs.Data.{Data, Items, no_items, item}
use Rattle.serde_json.specs.Find.{get_member, as_null, as_bool, as_str, as_array, as_object}
use Rattle.serde_json.specs.Read.{read}
use Rattle.fb_decimal.specs.Reading.{decimal_of as number_of}
use Rattle.fb_decimal.specs.declared.Decimal.{Decimal}
use Rattle.fb_decimal.specs.declared.DecimalFault.{DecimalFault}
use Rattle.fb_json.specs.Marking.{text_mark, number_mark, IsMarked}
use Rattle.fb_json.specs.declared.document.Got.{Got}
use Rattle.fb_json.specs.declared.document.Got.TheVariants.{Absent, Wrong, Value}

-- d is the tree of the document: what is read of its marked bytes
pub record HasTree (bytes : List ℕ) (d : Data) : Type 0 where
  pub marked : List ℕ
  pub is_marked : IsMarked bytes marked
  pub is_text : IsUtf8 marked
  pub is_read : read marked ≡ Some d

-- what was found, under f
abbrev pub got_map : {A B : Type 0} → (A → B) → Got A → Got B
got_map f Absent = Absent
got_map f Wrong = Wrong
got_map f (Value x) = Value (f x)

-- the items of an array, in their order
abbrev pub listed : Items → List Data
listed no_items = []
listed (item d ds) = d ∷ listed ds

-- a member that is null counts as absent
abbrev pub present : Option Data → Got Data
present None = Absent
present (Some d) = if is_some (as_null d) then Absent else Value d

-- what stands behind the mark
abbrev pub behind : ℕ → List ℕ → Got (List ℕ)
behind mark [] = Wrong
behind mark (c ∷ cs) = if mark == c then Value cs else Wrong

-- a number in the range of decimals
abbrev pub number_in : Result Decimal DecimalFault → Got Decimal
number_in (Ok n) = Value n
number_in (Err e) = Wrong

abbrev pub number_behind : Got (List ℕ) → Got Decimal
number_behind Absent = Wrong
number_behind Wrong = Wrong
number_behind (Value text) = number_in (number_of text)

abbrev pub truth_behind : Got (List ℕ) → Got Bool
truth_behind Absent = Wrong
truth_behind Wrong = Wrong
truth_behind (Value text) = if bytes_eq text (codes "true") then Value true else (if bytes_eq text (codes "false") then Value false else Wrong)

-- ---- what stands in a tree

-- the member of an object; serde_json's objects have each name once
unfoldable pub member_of : List ℕ → Data → Got Data
member_of name d = option_map_or (λ ms. present (get_member (text_mark ∷ name) ms)) (as_object d) Wrong

-- how many items an array has
unfoldable pub length_of : Data → Got ℕ
length_of d = option_map_or (λ ds. Value (length (listed ds))) (as_array d) Wrong

-- the item of an array at a place counted from 0, absent past its end
unfoldable pub item_of : ℕ → Data → Got Data
item_of k d = option_map_or (λ ds. option_map_or (λ e. Value e) (slice_get (listed ds) k) Absent) (as_array d) Wrong

-- a text, without its mark
unfoldable pub text_of : Data → Got (List ℕ)
text_of d = option_map_or (behind text_mark) (as_str d) Wrong

-- a number, in millionths
unfoldable pub decimal_of : Data → Got Decimal
decimal_of d = option_map_or (λ text. number_behind (behind number_mark text)) (as_str d) Wrong

-- true or false, also as a text
unfoldable pub truth_of : Data → Got Bool
truth_of d = option_map_or (λ b. Value b) (as_bool d) (option_map_or (λ text. truth_behind (behind text_mark text)) (as_str d) Wrong)

-- Names among the keys of a set, and the values of a map by names.
use Rattle.std.proofs.Common.{◌≡◌, ℕ, Bool, true, false, cond, ◌||◌, List, [], ◌∷◌, ◌++◌, map, Option, Some, None, refl, sym, ap, ◌∙◌}
use Rattle.std.specs.Prelude.{is_some, string_bytes}
use Rattle.std.specs.declared.string.String.{String}
use Rattle.std.specs.List.{list_any}
use Rattle.std.specs.Map.{lookup}
use Rattle.std.specs.Str.{bytes_eq}
use Rattle.std.specs.String.{string_eq}
use Rattle.std.proofs.lemmas.List.{map_push}
use Rattle.indexmap.specs.IndexMap.{insert_entry}
use Rattle.indexmap.specs.IndexSet.{insert_key}
use Rattle.name_tables.specs.Names.{is_among}
use Rattle.name_tables.specs.Names.{value_at}
use Rattle.name_tables.specs.Tables.{with_name, with_entry}

-- ---- sets

pub is_among-map : {Z : Type 0} (keys : List (String Z)) (name : List ℕ) → is_among (map string_bytes keys) name ≡ list_any (λ k. bytes_eq name (string_bytes k)) keys
is_among-map [] name = refl
is_among-map (k ∷ ks) name = ap (λ (b : Bool). bytes_eq name (string_bytes k) || b) (is_among-map ks name)

pub names-insert_key : {Z : Type 0} (keys : List (String Z)) (name : String Z) → map string_bytes (insert_key string_eq keys name) ≡ with_name (map string_bytes keys) (string_bytes name)
names-insert_key keys name =
    by_test (list_any (λ k. bytes_eq (string_bytes name) (string_bytes k)) keys) ∙ ap (λ (b : Bool). cond b (map string_bytes keys) (map string_bytes keys ++ string_bytes name ∷ [])) (sym (is_among-map keys (string_bytes name)))
  where
    by_test : (b : Bool) → map string_bytes (cond b keys (keys ++ name ∷ [])) ≡ cond b (map string_bytes keys) (map string_bytes keys ++ string_bytes name ∷ [])
    by_test true = refl
    by_test false = map_push string_bytes keys name

-- ---- maps

-- the entries of a map by the bytes of their keys
abbrev pub named : {Z V : Type 0} → List (String Z × V) → List (List ℕ × V)
named entries = map (λ e. (string_bytes e.0, e.1)) entries

pub value_at-named : {Z V : Type 0} (entries : List (String Z × V)) (name : List ℕ) → value_at (named entries) name ≡ lookup (λ k. bytes_eq name (string_bytes k)) entries
value_at-named [] name = refl
value_at-named (e ∷ es) name = ap (cond (bytes_eq name (string_bytes e.0)) (Some e.1)) (value_at-named es name)

-- a new name goes last
pub named-insert_entry : {Z V : Type 0} (entries : List (String Z × V)) (name : String Z) (value : V) → value_at (named entries) (string_bytes name) ≡ None
    → named (insert_entry string_eq entries name value) ≡ named entries ++ (string_bytes name, value) ∷ []
named-insert_entry [] name value none = refl
named-insert_entry {Z} {V} (e ∷ es) name value none = by_test (string_eq name e.0) none (named-insert_entry es name value)
  where
    by_test : (b : Bool) → cond b (Some e.1) (value_at (named es) (string_bytes name)) ≡ None
        → (value_at (named es) (string_bytes name) ≡ None → named (insert_entry string_eq es name value) ≡ named es ++ (string_bytes name, value) ∷ [])
        → named (cond b ((e.0, value) ∷ es) (e ∷ insert_entry string_eq es name value)) ≡ named (e ∷ es) ++ (string_bytes name, value) ∷ []
    by_test true h later = absurd cc
    by_test false h later = ap (λ (xs : List (List ℕ × V)). (string_bytes e.0, e.1) ∷ xs) (later h)

none_from : {V : Type 0} (o : Option V) → is_some o ≡ false → o ≡ None
none_from None e = refl
none_from (Some v) e = absurd cc

pub with_entry-new : {V : Type 0} (entries : List (List ℕ × V)) (name : List ℕ) (value : V) → is_some (value_at entries name) ≡ false → with_entry entries name value ≡ entries ++ (name, value) ∷ []
with_entry-new entries name value e = ap (λ b. cond b entries (entries ++ (name, value) ∷ [])) e

pub with_entry-known : {V : Type 0} (entries : List (List ℕ × V)) (name : List ℕ) (value : V) → is_some (value_at entries name) ≡ true → entries ≡ with_entry entries name value
with_entry-known entries name value e = sym (ap (λ b. cond b entries (entries ++ (name, value) ∷ [])) e)

pub noted_entry : {Z V : Type 0} (entries : List (String Z × V)) (name : String Z) (value : V) → is_some (value_at (named entries) (string_bytes name)) ≡ false
    → named (insert_entry string_eq entries name value) ≡ with_entry (named entries) (string_bytes name) value
noted_entry entries name value new =
    named-insert_entry entries name value (none_from (value_at (named entries) (string_bytes name)) new) ∙ sym (with_entry-new (named entries) (string_bytes name) value new)

-- The value of a name in a map with one entry more, before further entries.
use Rattle.std.proofs.Common.{◌≡◌, ℕ, Bool, true, false, cond, List, [], ◌∷◌, ◌++◌, Option, Some, refl, sym, ap, ◌∙◌, append_assoc}
use Rattle.std.specs.Prelude.{is_some}
use Rattle.std.specs.Str.{bytes_eq}
use Rattle.std.proofs.lemmas.Slice.Eq.{bytes_eq-Decides}
use Rattle.name_tables.specs.Names.{value_at}
use Rattle.name_tables.specs.Tables.{with_entry}

others : {V : Type 0} (entries rest : List (List ℕ × V)) (name : List ℕ) (value : V) (q : List ℕ) → bytes_eq q name ≡ false → value_at (entries ++ rest) q ≡ value_at (entries ++ (name, value) ∷ rest) q
others [] rest name value q e = sym (ap (λ (b : Bool). cond b (Some value) (value_at rest q)) e)
others {V} (x ∷ xs) rest name value q e = ap (λ (o : Option V). cond (bytes_eq q x.0) (Some x.1) o) (others xs rest name value q e)

known_first : {V : Type 0} (entries rest : List (List ℕ × V)) (name : List ℕ) (value : V) (q : List ℕ) → is_some (value_at entries name) ≡ true → value_at (entries ++ rest) q ≡ value_at (entries ++ (name, value) ∷ rest) q
known_first [] rest name value q e = absurd cc
known_first {V} (x ∷ xs) rest name value q e = by_test (bytes_eq name x.0) refl e (known_first xs rest name value q) (bytes_eq q x.0) refl
  where
    by_test : (b : Bool) → bytes_eq name x.0 ≡ b → is_some (cond b (Some x.1) (value_at xs name)) ≡ true
        → (is_some (value_at xs name) ≡ true → value_at (xs ++ rest) q ≡ value_at (xs ++ (name, value) ∷ rest) q)
        → (d : Bool) → bytes_eq q x.0 ≡ d → cond d (Some x.1) (value_at (xs ++ rest) q) ≡ cond d (Some x.1) (value_at (xs ++ (name, value) ∷ rest) q)
    by_test b same h later true here = refl
    by_test true same h later false here = others xs rest name value q (ap (bytes_eq q) ((bytes_eq-Decides name x.0).0 same) ∙ here)
    by_test false same h later false here = later h

pub value_at-with_entry : {V : Type 0} (entries rest : List (List ℕ × V)) (name : List ℕ) (value : V) (q : List ℕ) → value_at (with_entry entries name value ++ rest) q ≡ value_at (entries ++ (name, value) ∷ rest) q
value_at-with_entry {V} entries rest name value q = by_test (is_some (value_at entries name)) refl
  where
    by_test : (b : Bool) → is_some (value_at entries name) ≡ b → value_at (cond b entries (entries ++ (name, value) ∷ []) ++ rest) q ≡ value_at (entries ++ (name, value) ∷ rest) q
    by_test true e = known_first entries rest name value q e
    by_test false e = ap (λ (xs : List (List ℕ × V)). value_at xs q) (append_assoc entries ((name, value) ∷ []) rest)

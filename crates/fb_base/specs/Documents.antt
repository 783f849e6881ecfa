-- Named documents: a finite map from names to bytes. A name is the bytes of its text.
use Rattle.std.specs.Prelude.{◌≡◌, ℕ, ◌<◌, ◌≤◌, List, length, map, Some, None}
use Rattle.std.specs.Ordering.{nat_cmp}
use Rattle.std.specs.Cmp.Lexicographic.{slice_cmp}
use Rattle.std.specs.Option.{IsSomeAnd}
use Rattle.std.specs.FinMap.{FinMap, get, from_entries}

abbrev pub Documents : Type 0
Documents = FinMap (slice_cmp nat_cmp) (List ℕ)

-- the documents of a list of entries, each a name and its bytes in some form
abbrev pub documents_of : {K V : Type 0} → (K → List ℕ) → (V → List ℕ) → List (K × V) → Documents
documents_of name_of bytes_of entries = from_entries (map (λ e. (name_of e.0, bytes_of e.1)) entries)

-- the document of this name is these bytes
abbrev pub Holds : Documents → List ℕ → List ℕ → Type 0
Holds documents name bytes = get documents name ≡ Some bytes

-- there is no document of this name
abbrev pub IsMissing : Documents → List ℕ → Type 0
IsMissing documents name = get documents name ≡ None

-- there is a document of this name, and it has at most limit bytes
abbrev pub HasAtMost : Documents → List ℕ → ℕ → Type 0
HasAtMost documents name limit = IsSomeAnd (get documents name) (λ bytes. length bytes ≤ limit)

-- there is a document of this name, and it has more than limit bytes
abbrev pub HasMoreThan : Documents → List ℕ → ℕ → Type 0
HasMoreThan documents name limit = IsSomeAnd (get documents name) (λ bytes. limit < length bytes)

-- Words of private contracts, which nobody need believe: totals by code, gathered one by one.
use Rattle.std.specs.Prelude.{ℕ, ℤ, ◌+ℤ◌, List, [], ◌∷◌, map, if◌then◌else◌, string_bytes, All}
use Rattle.whole_laws.specs.Sums.{IsWithin}
use Rattle.std.specs.Str.{bytes_eq}
use Rattle.std.specs.declared.alloc.Global.{Global}
use Rattle.std.specs.declared.string.String.{String}

-- the totals with an amount added to that of a code, which comes last if it is new
abbrev pub with_amount : List (List ℕ × ℤ) → List ℕ → ℤ → List (List ℕ × ℤ)
with_amount [] code amount = (code, amount) ∷ []
with_amount (t ∷ ts) code amount = if bytes_eq code t.0 then (t.0, t.1 +ℤ amount) ∷ ts else t ∷ with_amount ts code amount

-- what a map by text holds
abbrev pub totals_in : List (String Global × ℤ) → List (List ℕ × ℤ)
totals_in entries = map (λ e. (string_bytes e.0, e.1)) entries

-- each total is within m
abbrev pub AreWithin : ℕ → List (List ℕ × ℤ) → Type 0
AreWithin m totals = All (λ t. IsWithin m t.1) totals

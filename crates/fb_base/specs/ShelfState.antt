-- The shelf in memory as a value, and what a fetch of it does.
use Rattle.std.specs.Prelude.{ℕ, List, length, Option, Some, None, Result, Ok, Err, nat_lt, if◌then◌else◌, refl}
use Rattle.std.specs.Coded.{Coded, code_by, coded×, coded_ℕ, coded_list, coded_option}
use Rattle.std.specs.Ordering.{nat_cmp}
use Rattle.std.specs.FinMap as map
use Rattle.std.specs.FinSet as set
use Rattle.fb_base.specs.declared.shelf.Fetch.{Fetch}
use Rattle.fb_base.specs.declared.shelf.Fetch.TheVariants.{Failed, TooLong}
use Rattle.fb_base.specs.Counts.{counted}
use Rattle.fb_base.specs.Documents.{Documents}

pub record ShelfState : Type 0 where
  -- the documents
  pub held : Documents
  -- the numbers of the fetches that are to fail; the first fetch of the shelf has number 1
  pub to_fail : set.FinSet nat_cmp
  -- how many fetches there were
  pub calls : ℕ
  -- how many of them failed
  pub faults : ℕ
  -- the name of the last one that failed
  pub last_failed : Option (List ℕ)

-- a state is stored as the tuple of its fields
abbrev pub state_code : Coded ShelfState
state_code =
    code_by (Documents × (set.FinSet nat_cmp × (ℕ × (ℕ × Option (List ℕ)))))
    (coded× (map.code (coded_list coded_ℕ) (coded_list coded_ℕ)) (coded× (set.code coded_ℕ) (coded× coded_ℕ (coded× coded_ℕ (coded_option (coded_list coded_ℕ))))))
    (λ s. (s.held, (s.to_fail, (s.calls, (s.faults, s.last_failed)))))
    (λ p. record { held = p.0; to_fail = p.1.0; calls = p.1.1.0; faults = p.1.1.1.0; last_failed = p.1.1.1.1 })
    (λ _. refl)

-- a shelf with no document, none of whose fetches is to fail
abbrev pub empty_shelf : ShelfState
empty_shelf = record { held = map.empty; to_fail = set.empty; calls = 0; faults = 0; last_failed = None }

-- the state after a fetch that did not fail
abbrev pub called : ShelfState → ShelfState
called s = record s { calls = counted s.calls }

-- the state after a fetch of this name that failed
abbrev pub failed : ShelfState → List ℕ → ShelfState
failed s name = record s { calls = counted s.calls; faults = counted s.faults; last_failed = Some name }

-- what a document, or none, gives at this limit
abbrev pub within_limit : Option (List ℕ) → ℕ → Result (List ℕ) Fetch
within_limit None limit = Err Failed
within_limit (Some bytes) limit = if nat_lt limit (length bytes) then Err (TooLong limit) else Ok bytes

-- what the next fetch, of this name, answers where memory suffices
abbrev pub answer_of : ShelfState → List ℕ → ℕ → Result (List ℕ) Fetch
answer_of s name limit = if set.contains s.to_fail (counted s.calls) then Err Failed else within_limit (map.get s.held name) limit

-- Instants, as `jiff` reads them: a date and a time of day with an offset from UTC, in any form of RFC 3339 and ISO 8601
-- that its grammar of timestamps takes. An instant is its nanoseconds since 1970-01-01T00:00:00Z.
use Rattle.std.specs.Prelude.{ℕ, ℤ, List, Option, Some, None, Ok, Err}
use Rattle.jiff.specs.Words.{parse_timestamp}
use Rattle.fb_json.specs.Tree.{text_of}
use Rattle.json_reading.specs.Reading.{At, Reading, ◌>>=◌, fault_in, found_or, required}

-- the instant that a text names, if it names one
unfoldable pub instant_in : List ℕ → Option ℤ
instant_in text = elim (parse_timestamp text) as (λ _. Option ℤ) [ Ok n ↦ Some n | Err e ↦ None ]

-- the instant that a member names; a text that is no instant is of this kind
unfoldable pub moment_of : {K : Type 0} → K → List ℕ → At K → Reading K ℤ
moment_of bad_time name at = do
  text ← required text_of name at
  found_or (instant_in text) (fault_in name bad_time at)

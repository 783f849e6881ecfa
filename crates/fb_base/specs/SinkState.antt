-- The sink in memory as a value, and what a put to it does.
use Rattle.std.specs.Prelude.{ℕ, ◌+◌, Bool, ◌&&◌, List, [], ◌++◌, length, take, Option, Some, None, is_none, nat_le, if◌then◌else◌, refl}
use Rattle.std.specs.Coded.{Coded, code_by, coded×, coded_ℕ, coded_list}
use Rattle.std.specs.Ordering.{nat_cmp}
use Rattle.std.specs.FinMap as map
use Rattle.fb_base.specs.Counts.{counted}

pub record SinkState : Type 0 where
  -- the bytes taken so far
  pub taken : List ℕ
  -- how many bytes it has room for
  pub room : ℕ
  -- the numbers of the puts that are to fail, and how many bytes each of them takes; the first put of the sink has number 1
  pub to_fail : map.FinMap nat_cmp ℕ
  -- how many puts there were
  pub calls : ℕ
  -- how many of them failed
  pub faults : ℕ

-- a state is stored as the tuple of its fields
abbrev pub state_code : Coded SinkState
state_code =
    code_by (List ℕ × (ℕ × (map.FinMap nat_cmp ℕ × (ℕ × ℕ))))
    (coded× (coded_list coded_ℕ) (coded× coded_ℕ (coded× (map.code coded_ℕ coded_ℕ) (coded× coded_ℕ coded_ℕ))))
    (λ s. (s.taken, (s.room, (s.to_fail, (s.calls, s.faults)))))
    (λ p. record { taken = p.0; room = p.1.0; to_fail = p.1.1.0; calls = p.1.1.1.0; faults = p.1.1.1.1 })
    (λ _. refl)

-- a sink with this room that took nothing, none of whose puts is to fail
abbrev pub empty_sink : ℕ → SinkState
empty_sink room = record { taken = []; room = room; to_fail = map.empty; calls = 0; faults = 0 }

-- how many bytes the next put takes if it is to fail, or None
abbrev pub next_failure : SinkState → Option ℕ
next_failure s = map.get s.to_fail (counted s.calls)

-- the bytes that a put is to append: the whole piece, or its first bytes, as many as a failing put takes
abbrev pub first_bytes : Option ℕ → List ℕ → List ℕ
first_bytes None piece = piece
first_bytes (Some count) piece = take count piece

-- whether there is room for these bytes
abbrev pub fits : SinkState → List ℕ → Bool
fits s bytes = nat_le (length s.taken + length bytes) s.room

-- whether a put of the piece succeeds: it is not to fail, and there is room for it
abbrev pub will_take : SinkState → List ℕ → Bool
will_take s piece = is_none (next_failure s) && fits s piece

-- the state after a put of the piece: the bytes to append were appended if there was room for them
abbrev pub after_put : SinkState → List ℕ → SinkState
after_put s piece =
    let bytes = first_bytes (next_failure s) piece in
    record s {
      taken = (if fits s bytes then s.taken ++ bytes else s.taken);
      calls = counted s.calls;
      faults = (if will_take s piece then s.faults else counted s.faults);
    }

-- The numbers that are drawn for a case, by a linear congruential generator of 64 bits.
use Rattle.std.specs.Prelude.{ℕ, zero, suc, ◌+◌, ◌*◌, ◌/◌, ◌%◌, ◌^◌}

-- the next state
unfoldable pub next_state : ℕ → ℕ
next_state state = (state * 6364136223846793005 + 1442695040888963407) % 2 ^ 64

-- the state after so many draws
abbrev pub state_after : ℕ → ℕ → ℕ
state_after state zero = state
state_after state (suc n) = next_state (state_after state n)

-- the number below a bound that a state gives
abbrev pub drawn_from : ℕ → ℕ → ℕ
drawn_from state below = state / 2 ^ 33 % below

-- of the numbers that are drawn from a state on, the one at a place, from 0
abbrev pub draw_at : ℕ → ℕ → ℕ → ℕ
draw_at state place below = drawn_from (state_after state (suc place)) below

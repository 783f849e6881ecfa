-- Sine and arc tangent as whole numbers of 10^-12, each step rounded down. Angles in degrees are whole millionths of a
-- degree, angles in radians whole numbers of 10^-12 rad.
use Rattle.std.specs.Prelude.{ℕ, zero, suc, ℤ, pos, negsuc, neg_ℤ, nat_abs, ◌+◌, ◌-◌, ◌*◌, ◌/◌, ◌%◌, ◌^◌, ◌+ℤ◌, ◌-ℤ◌, nat_lt, nat_le, ◌==◌, if◌then◌else◌}
use Rattle.whole_laws.specs.Sums.{sum_below}

-- one, in 10^-12
abbrev pub one : ℕ
one = 10 ^ 12

-- 90 degrees
abbrev pub right_angle : ℕ
right_angle = 90 * 10 ^ 6

-- 45 and 90 degrees in 10^-12 rad
abbrev pub eighth_turn : ℕ
eighth_turn = 785398163397

abbrev pub quarter_turn : ℕ
quarter_turn = 1570796326794

-- n as the term at a place k of an alternating sum: + at even places, - at odd ones
abbrev pub alternated : ℕ → ℕ → ℤ
alternated k n = if k % 2 == 0 then pos n else neg_ℤ (pos n)

-- f 0 - f 1 + f 2 - .., with so many terms
abbrev pub alternating : ℕ → (ℕ → ℕ) → ℤ
alternating count f = sum_below count (λ k. alternated k (f k))

-- p times the square of u
abbrev pub times_square : ℕ → ℕ → ℕ
times_square u p = p * u / one * u / one

-- ---- the sine

-- an angle below 90 degrees in radians
abbrev pub radians_of : ℕ → ℕ
radians_of angle = angle * 3141592653589793 / (180 * 10 ^ 9)

-- x, x^3 / 3!, x^5 / 5! and so on
abbrev pub sine_term : ℕ → ℕ → ℕ
sine_term x zero = x
sine_term x (suc k) = times_square x (sine_term x k) / ((2 * k + 2) * (2 * k + 3))

-- of an angle x in radians
unfoldable pub sine_series : ℕ → ℤ
sine_series x = alternating 9 (sine_term x)

-- of an angle from 0 to 90 degrees
unfoldable pub sine_to_right_angle : ℕ → ℤ
sine_to_right_angle angle = if angle == right_angle then pos one else sine_series (radians_of angle)

-- of an angle from 0 to 180 degrees
unfoldable pub sine_to_half_turn : ℕ → ℤ
sine_to_half_turn angle = if nat_le angle right_angle then sine_to_right_angle angle else sine_to_right_angle (2 * right_angle - angle)

-- of an angle within 180 degrees
unfoldable pub sine_of : ℤ → ℤ
sine_of (pos angle) = sine_to_half_turn angle
sine_of (negsuc n) = neg_ℤ (sine_to_half_turn (n + 1))

unfoldable pub cosine_of : ℤ → ℤ
cosine_of angle = sine_of (pos right_angle -ℤ pos (nat_abs angle))

-- ---- the arc tangent

-- u, u^3, u^5 and so on
abbrev pub odd_power : ℕ → ℕ → ℕ
odd_power u zero = u
odd_power u (suc k) = times_square u (odd_power u k)

-- u, u^3 / 3, u^5 / 5 and so on
abbrev pub arc_term : ℕ → ℕ → ℕ
arc_term u k = odd_power u k / (2 * k + 1)

-- of a number u up to about the tangent of 22.5 degrees
unfoldable pub arc_series : ℕ → ℤ
arc_series u = alternating 16 (arc_term u)

-- of any number q: the tangents of 22.5 and 67.5 degrees part the cases
unfoldable pub arc_tangent_of : ℕ → ℤ
arc_tangent_of q =
    if nat_le q 414213562373 then arc_series q
    else (if nat_lt q one then pos eighth_turn -ℤ arc_series ((one - q) * one / (one + q))
    else (if nat_le q 2414213562373 then pos eighth_turn +ℤ arc_series ((q - one) * one / (q + one))
    else pos quarter_turn -ℤ arc_series (one ^ 2 / q)))

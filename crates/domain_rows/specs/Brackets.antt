-- The two sides of a row of the domain, from spans. Nobody need read this to know what a domain promises.
-- They are whole coefficients and right sides between which the exact row lies. Factors and coefficients are in 10^-12, net
-- positions and right sides in watts, margins in picowatts.
use Rattle.std.specs.Prelude.{ℤ, pos, ◌+ℤ◌, ◌-ℤ◌, List}
use Rattle.std.specs.List.{zip}
use Rattle.whole_laws.specs.Quotients.{floor_of, ceil_of}
use Rattle.whole_laws.specs.Sums.{sum_over}
use Rattle.fractions.specs.Fractions.{Fraction, AtMost, times, total}
use Rattle.fractions.specs.Spans.{LiesAt, EachLiesAt}
use Rattle.fb_span.specs.LeastSpans.{least_corner, greatest_corner}
use Rattle.fb_types.specs.Domain.{Meets}
use Rattle.fb_types.specs.declared.rows.Bounds.{Bounds}
use Rattle.security.specs.Points.{IsInBox}

-- the number of 10^-12 in one, and of picowatts in a watt
abbrev pub trillion : ℤ
trillion = pos 1000000000000

-- the coefficient of a zone: the middle of its factor's span, rounded down
abbrev pub coefficient_of : ℤ × ℤ → ℤ
coefficient_of factor = floor_of (factor.0 +ℤ factor.1) (pos 2)

-- how far the ends of the span are from the coefficient
abbrev pub deviation_of : ℤ × ℤ → ℤ × ℤ
deviation_of factor = (factor.0 -ℤ coefficient_of factor, factor.1 -ℤ coefficient_of factor)

abbrev pub ends_of_box : Bounds → ℤ × ℤ
ends_of_box b = (b.low, b.high)

-- the least and the most that deviation times net position can be, over the zones together
abbrev pub least_deviation : List (ℤ × ℤ) → List Bounds → ℤ
least_deviation factors bounds = sum_over (λ z. least_corner (deviation_of z.0) (ends_of_box z.1)) (zip factors bounds)

abbrev pub greatest_deviation : List (ℤ × ℤ) → List Bounds → ℤ
greatest_deviation factors bounds = sum_over (λ z. greatest_corner (deviation_of z.0) (ends_of_box z.1)) (zip factors bounds)

-- the right side of the inner list, and of the outer list
abbrev pub inner_side : List (ℤ × ℤ) → List Bounds → ℤ × ℤ → ℤ
inner_side factors bounds ram = floor_of (ram.0 -ℤ greatest_deviation factors bounds) trillion

abbrev pub outer_side : List (ℤ × ℤ) → List Bounds → ℤ × ℤ → ℤ
outer_side factors bounds ram = ceil_of (ram.1 -ℤ least_deviation factors bounds) trillion

-- ---- what the two sides are for

-- what exact factors put on the row at x: the sum of factor times net position
abbrev pub exchanged_at : List Fraction → List ℤ → Fraction
exchanged_at factors x = total (λ e. times e.1 e.0) (zip factors x)

-- Whatever factors and margin lie in the spans, and wherever x is in the box: where x meets the inner row, the exchange is
-- at most the margin, and where the exchange is at most the margin, x meets the outer row.
pub record Brackets (factors : List (ℤ × ℤ)) (ram : ℤ × ℤ) (bounds : List Bounds) (a : List ℤ) (r_in r_out : ℤ) : Type 0 where
  pub inner : (exact : List Fraction) (margin : Fraction) (x : List ℤ) → EachLiesAt trillion factors exact → LiesAt trillion ram margin → IsInBox bounds x
      → Meets (record { a = a; r = r_in }) x → AtMost (exchanged_at exact x) margin
  pub outer : (exact : List Fraction) (margin : Fraction) (x : List ℤ) → EachLiesAt trillion factors exact → LiesAt trillion ram margin → IsInBox bounds x
      → AtMost (exchanged_at exact x) margin → Meets (record { a = a; r = r_out }) x

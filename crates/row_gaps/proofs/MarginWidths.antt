-- The margin is as narrow as the two flows.
use Rattle.std.proofs.Common.{ℤ, pos, ◌+ℤ◌, ◌-ℤ◌, ◌*ℤ◌, ◌≤ℤ◌, arith}
use Rattle.std.specs.Int.{int_max}
use Rattle.std.proofs.lemmas.Int.{clamps}
use Rattle.whole_laws.specs.Ring.{linear}
use Rattle.security.specs.Margins.{ElementNumbers}
use Rattle.ram_formulas.specs.MarginSpans.{picowatts, margin_at}
use Rattle.row_gaps.specs.WidthLaws.{MarginsAreNarrow}
use Rattle.row_gaps.proofs.Scaled.{below_greater, no_width}

-- the margin changes by at most the greater change of the two flows
changes : (e : ElementNumbers) (a b c d : ℤ)
    → (margin_at e a c -ℤ margin_at e b d) ≤ℤ int_max (int_max (b -ℤ a) (d -ℤ c)) (a -ℤ a)
changes e a b c d =
    step ((e.minimum_share *ℤ e.limit) *ℤ pos 1_000_000_000) (e.limit *ℤ pos 200_000_000_000)
    ((e.limit -ℤ e.reliability_margin) *ℤ picowatts) ((e.coordinated +ℤ e.individual) *ℤ picowatts)
  where
    step : (s f m v : ℤ)
        → ((int_max (int_max (s -ℤ c) f) (m -ℤ a) -ℤ v) -ℤ (int_max (int_max (s -ℤ d) f) (m -ℤ b) -ℤ v)) ≤ℤ int_max (int_max (b -ℤ a) (d -ℤ c)) (a -ℤ a)
    step s f m v = omega (arith, linear, clamps)

pub margins_are_narrow : MarginsAreNarrow
margins_are_narrow e f0core fuaf unit most n some h k =
    below_greater unit most _ _ _ n (changes e f0core.0 f0core.1 fuaf.0 fuaf.1)
    (below_greater unit most _ _ _ n (omega (arith, linear, clamps)) h k)
    (no_width unit most f0core.0 some)

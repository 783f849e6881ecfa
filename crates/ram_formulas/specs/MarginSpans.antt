-- The span of the margin, in picowatts. Nobody need read this to know what a domain promises.
use Rattle.std.specs.Prelude.{ℤ, pos, ◌+ℤ◌, ◌-ℤ◌, ◌*ℤ◌}
use Rattle.std.specs.Int.{int_max}
use Rattle.fractions.specs.Fractions.{Fraction}
use Rattle.fractions.specs.Spans.{LiesAt}
use Rattle.security.specs.Margins.{ElementNumbers, ram_of}

-- the picowatts in a watt
abbrev pub picowatts : ℤ
picowatts = pos 1_000_000_000_000

-- the margin from F0,Core and Fuaf, all in picowatts:
-- max(Ramr·Fmax·10^9 − Fuaf, Fmax·2·10^11, (Fmax − FRM)·10^12 − F0,Core) − (CVA + IVA)·10^12
abbrev pub margin_at : ElementNumbers → ℤ → ℤ → ℤ
margin_at e f0core fuaf =
    int_max
    (int_max ((e.minimum_share *ℤ e.limit) *ℤ pos 1_000_000_000 -ℤ fuaf) (e.limit *ℤ pos 200_000_000_000))
    ((e.limit -ℤ e.reliability_margin) *ℤ picowatts -ℤ f0core)
    -ℤ (e.coordinated +ℤ e.individual) *ℤ picowatts

-- the margin lies in the span wherever F0,Core and Fuaf lie in theirs
abbrev pub HoldsMargin : ElementNumbers → ℤ × ℤ → ℤ × ℤ → ℤ × ℤ → Type 0
HoldsMargin e f0core fuaf margin = (f0 external : Fraction)
    → LiesAt picowatts f0core f0 → LiesAt picowatts fuaf external → LiesAt picowatts margin (ram_of e f0 external)

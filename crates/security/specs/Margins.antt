-- The remaining available margin of a critical network element with its contingency (CNEC) in one direction, as the
-- day-ahead capacity calculation methodology of the Core region defines it (ACER decision 02-2019, annex I).
-- All numbers are in watts.
use Rattle.std.specs.Prelude.{ℕ, ℤ, pos, ◌*ℤ◌}
use Rattle.fractions.specs.Fractions.{Fraction, whole, plus, minus, over, maximum}

-- what is stated of the element: its limit Fmax, its reliability margin FRM, the share of the limit that is to remain for
-- exchanges, in thousandths (Ramr), and what the coordinated and the individual validation take away (CVA and IVA)
pub record ElementNumbers : Type 0 where
  pub limit : ℤ
  pub reliability_margin : ℤ
  pub minimum_share : ℤ
  pub coordinated : ℤ
  pub individual : ℤ

-- from the limit, the reliability margin, the share and the two validations
abbrev pub numbers_of : ℤ → ℤ → ℕ → ℤ → ℤ → ElementNumbers
numbers_of limit margin ramr cva iva = record {
  limit = limit;
  reliability_margin = margin;
  minimum_share = pos ramr;
  coordinated = cva;
  individual = iva;
}

-- what the limit leaves above the flow without exchanges of Core: Fmax − FRM − F0,Core
abbrev pub room_of : ElementNumbers → Fraction → Fraction
room_of e f0core = minus (minus (whole e.limit) (whole e.reliability_margin)) f0core

-- the share of the limit that is to remain for exchanges: Ramr·Fmax
abbrev pub minimum_of : ElementNumbers → Fraction
minimum_of e = over (whole (e.minimum_share *ℤ e.limit)) (pos 1000) (record { lt = tt })

-- a fifth of the limit: 0.2·Fmax
abbrev pub fifth_of : ElementNumbers → Fraction
fifth_of e = over (whole (pos 2 *ℤ e.limit)) (pos 10) (record { lt = tt })

-- the adjustment for the minimum margin, with the flow of exchanges outside Core (Fuaf):
-- AMR = max(Ramr·Fmax − Fuaf − (Fmax − FRM − F0,Core), 0.2·Fmax − (Fmax − FRM − F0,Core), 0)
abbrev pub adjustment_of : ElementNumbers → Fraction → Fraction → Fraction
adjustment_of e f0core fuaf =
    maximum
    (maximum (minus (minus (minimum_of e) fuaf) (room_of e f0core)) (minus (fifth_of e) (room_of e f0core)))
    (whole (pos 0))

-- RAM = Fmax − FRM − F0,Core + AMR − CVA − IVA
abbrev pub ram_of : ElementNumbers → Fraction → Fraction → Fraction
ram_of e f0core fuaf =
    minus (minus (plus (room_of e f0core) (adjustment_of e f0core fuaf)) (whole e.coordinated)) (whole e.individual)

-- what the flow may be at most: Fmax − FRM + AMR − CVA − IVA
abbrev pub top_of : ElementNumbers → Fraction → Fraction → Fraction
top_of e f0core fuaf =
    minus
    (minus (plus (minus (whole e.limit) (whole e.reliability_margin)) (adjustment_of e f0core fuaf)) (whole e.coordinated))
    (whole e.individual)

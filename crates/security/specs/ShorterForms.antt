-- Shorter forms of numbers of a row, which are proved to be the same. Nobody need believe this file.
use Rattle.std.specs.Prelude.{◌+ℤ◌, List, not}
use Rattle.std.specs.List.{filter}
use Rattle.fractions.specs.Fractions.{Fraction, whole, minus, maximum}
use Rattle.security.specs.Exchanges.{ZoneOfRow, exchanged_of}
use Rattle.security.specs.Margins.{ElementNumbers, room_of, minimum_of, fifth_of}

-- Fuaf as one sum, over the zones outside Core
abbrev pub outside_of : List ZoneOfRow → Fraction
outside_of zones = exchanged_of (filter (λ z. not z.is_core) zones)

-- the margin without its adjustment written out: max(Ramr·Fmax − Fuaf, 0.2·Fmax, Fmax − FRM − F0,Core) − (CVA + IVA)
abbrev pub shortened_ram_of : ElementNumbers → Fraction → Fraction → Fraction
shortened_ram_of e f0core fuaf =
    minus
    (maximum (maximum (minus (minimum_of e) fuaf) (fifth_of e)) (room_of e f0core))
    (whole (e.coordinated +ℤ e.individual))

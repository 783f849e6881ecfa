-- The words of a CRAC document.
use Rattle.std.specs.Prelude.{ℕ, ℤ, Bool, true, false, ◌&&◌, List, Option, Some, None, ⊤, codes, if◌then◌else◌, int_le}
use Rattle.std.specs.Str.{bytes_eq}
use Rattle.crac_model.specs.declared.instants.InstantKind.{InstantKind}
use Rattle.crac_model.specs.declared.instants.InstantKind.TheVariants.{Preventive, Outage, Auto, Curative}
use Rattle.crac_model.specs.declared.limits.LimitUnit.{LimitUnit}
use Rattle.crac_model.specs.declared.limits.LimitUnit.TheVariants.{Megawatt, Ampere, PercentImax}

-- the word, and no other
abbrev pub word_is : List ℕ → List ℕ → Option ⊤
word_is wanted word = if bytes_eq word wanted then Some tt else None

abbrev pub instant_kind : List ℕ → Option InstantKind
instant_kind word =
    if bytes_eq word (codes "PREVENTIVE") then Some Preventive
    else (if bytes_eq word (codes "OUTAGE") then Some Outage
    else (if bytes_eq word (codes "AUTO") then Some Auto
    else (if bytes_eq word (codes "CURATIVE") then Some Curative else None)))

abbrev pub is_preventive : InstantKind → Bool
is_preventive Preventive = true
is_preventive Outage = false
is_preventive Auto = false
is_preventive Curative = false

abbrev pub unit_of : List ℕ → Option LimitUnit
unit_of word =
    if bytes_eq word (codes "megawatt") then Some Megawatt
    else (if bytes_eq word (codes "ampere") then Some Ampere
    else (if bytes_eq word (codes "percent_imax") then Some PercentImax else None))

-- a number lies from low to high
abbrev pub is_within : ℤ → ℤ → ℤ → Bool
is_within low high z = int_le low z && int_le z high

-- What a settings value says, and what the answer of the reader says.
use Rattle.std.specs.Prelude.{◌≡◌, ℕ, List, Result, Ok, Err}
use Rattle.run_settings.specs.Settings.{Said}
use Rattle.run_settings.specs.Zones.{Read}
use Rattle.run_settings.specs.declared.model.Settings.{Settings}
use Rattle.run_settings.specs.declared.model.SettingsKind.{SettingsKind}
use Rattle.run_settings.specs.declared.model.SettingsError.{SettingsError}
use Rattle.run_settings.specs.declared.model.SettingsError.TheVariants as errors

abbrev pub said : Settings → Said
said s = record { moment = s.moment.nanosecond; zones = s.zones; ramr = s.ramr; threshold = s.threshold; slack = s.slack }

-- Settings say what the reading says, and a fault is the reading's. Memory may run out at any time.
abbrev pub Answers : Read Said → Result Settings SettingsError → Type 0
Answers reading (Ok s) = reading ≡ Ok (said s)
Answers reading (Err (errors.Fault place kind)) = reading ≡ Err (record { place = place; kind = kind })
Answers reading (Err (errors.Memory e)) = Unit {0}

-- this fault, unless memory ran out
abbrev pub IsFault : List ℕ → SettingsKind → Result Settings SettingsError → Type 0
IsFault place kind (Ok s) = ⊥
IsFault place kind (Err (errors.Fault p k)) = (p ≡ place) × (k ≡ kind)
IsFault place kind (Err (errors.Memory e)) = Unit {0}

-- settings that say this, unless memory ran out
abbrev pub AreSaid : Said → Result Settings SettingsError → Type 0
AreSaid what (Ok s) = said s ≡ what
AreSaid what (Err (errors.Fault place kind)) = ⊥
AreSaid what (Err (errors.Memory e)) = Unit {0}

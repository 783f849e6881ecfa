-- What an answer that is the reading's says.
use Rattle.std.proofs.Common.{◌≡◌, ℕ, List, Result, Ok, Err, ap}
use Rattle.std.specs.Prelude.{IfOk}
use Rattle.serde_json.specs.Data.{Data}
use Rattle.json_reading.specs.Reading.{Fault}
use Rattle.fb_types.specs.declared.grid.Node.{Node}
use Rattle.run_settings.specs.Laws.{AreSettings}
use Rattle.run_settings.specs.Settings.{Said, settings_of}
use Rattle.run_settings.specs.Views.{said, Answers, IsFault, AreSaid}
use Rattle.run_settings.specs.Zones.{Read}
use Rattle.run_settings.specs.declared.model.Settings.{Settings}
use Rattle.run_settings.specs.declared.model.SettingsKind.{SettingsKind}
use Rattle.run_settings.specs.declared.model.SettingsError.{SettingsError}
use Rattle.run_settings.specs.declared.model.SettingsError.TheVariants as errors
use Rattle.run_settings.proofs.SettingsLaws.{settings_hold}

pub answers_fault : (reading : Read Said) (result : Result Settings SettingsError) → Answers reading result → (place : List ℕ) (kind : SettingsKind) → reading ≡ Err (record { place = place; kind = kind }) → IsFault place kind result
answers_fault reading (Ok s) a place kind e = absurd cc
answers_fault reading (Err (errors.Fault p k)) a place kind e =
    let mine : Fault SettingsKind = record { place = p; kind = k } in
    let theirs : Fault SettingsKind = record { place = place; kind = kind } in
    let same : mine ≡ theirs = cc in
    (ap (λ (f : Fault SettingsKind). f.place) same, ap (λ (f : Fault SettingsKind). f.kind) same)
answers_fault reading (Err (errors.Memory m)) a place kind e = tt

pub answers_said : (reading : Read Said) (result : Result Settings SettingsError) → Answers reading result → (what : Said) → reading ≡ Ok what → AreSaid what result
answers_said reading (Ok s) a what e = let is : said s ≡ what = cc in is
answers_said reading (Err (errors.Fault p k)) a what e = absurd cc
answers_said reading (Err (errors.Memory m)) a what e = tt

pub answers_hold : (list : List Node) (tree : Data) (result : Result Settings SettingsError) → Answers (settings_of list tree) result → IfOk result (λ s. AreSettings list (said s))
answers_hold list tree (Ok s) a = settings_hold list tree (said s) a
answers_hold list tree (Err e) a = tt

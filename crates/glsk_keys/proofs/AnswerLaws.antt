-- What an answer that is the reading's says.
use Rattle.std.proofs.Common.{◌≡◌, ℕ, List, Result, Ok, Err, ap}
use Rattle.std.specs.Prelude.{IfOk}
use Rattle.json_reading.specs.Reading.{Fault}
use Rattle.serde_json.specs.Data.{Data}
use Rattle.fb_types.specs.GridRanges.{AreInjections}
use Rattle.fb_types.specs.declared.grid.Node.{Node}
use Rattle.run_settings.specs.declared.model.Zone.{Zone}
use Rattle.std.proofs.Common.{ℤ}
use Rattle.glsk_keys.specs.Answer.{Answers, IsFault, AreRead}
use Rattle.glsk_keys.specs.Columns.{keys_of}
use Rattle.glsk_keys.specs.Document.{Read}
use Rattle.glsk_keys.specs.Laws.{AreKeys}
use Rattle.glsk_keys.specs.declared.model.KeyKind.{KeyKind}
use Rattle.glsk_keys.specs.declared.model.Keys.{Keys}
use Rattle.glsk_keys.specs.declared.model.KeyError.{KeyError}
use Rattle.glsk_keys.specs.declared.model.KeyError.TheVariants as errors
use Rattle.glsk_keys.proofs.KeyLaws.{keys_hold}

pub answers_fault : (reading : Read Keys) (result : Result Keys KeyError) → Answers reading result → (place : List ℕ) (kind : KeyKind) → reading ≡ Err (record { place = place; kind = kind }) → IsFault place kind result
answers_fault reading (Ok keys) a place kind e = absurd cc
answers_fault reading (Err (errors.Fault p k)) a place kind e =
    let mine : Fault KeyKind = record { place = p; kind = k } in
    let theirs : Fault KeyKind = record { place = place; kind = kind } in
    let same : mine ≡ theirs = cc in
    (ap (λ (f : Fault KeyKind). f.place) same, ap (λ (f : Fault KeyKind). f.kind) same)
answers_fault reading (Err (errors.Memory m)) a place kind e = tt

pub answers_keys : (reading : Read Keys) (result : Result Keys KeyError) → Answers reading result → (what : Keys) → reading ≡ Ok what → AreRead what result
answers_keys reading (Ok keys) a what e = let is : keys ≡ what = cc in is
answers_keys reading (Err (errors.Fault p k)) a what e = absurd cc
answers_keys reading (Err (errors.Memory m)) a what e = tt

pub answers_hold : (nodes : List Node) (zones : List Zone) (moment : ℤ) (tree : Data) (result : Result Keys KeyError) → AreInjections nodes → Answers (keys_of nodes zones moment tree) result → IfOk result (AreKeys nodes zones)
answers_hold nodes zones moment tree (Ok keys) small a = keys_hold nodes zones moment tree keys small a
answers_hold nodes zones moment tree (Err e) small a = tt

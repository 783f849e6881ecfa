-- A fault that was made is the reading's, where the reading has it.
use Rattle.std.proofs.Common.{◌≡◌, ℕ, List, Result, Err}
use Rattle.json_reading.specs.Reading.{Fault}
use Rattle.json_reading.specs.Outcome.{Fails, Refuses}
use Rattle.json_reading.specs.declared.fault.ReadError.{ReadError}
use Rattle.json_reading.specs.declared.fault.ReadError.TheVariants as errors

pub refused : {K Y : Type 0} (e : ReadError K) (reading : Result Y (Fault K)) (place : List ℕ) (kind : K) → Refuses e place kind → reading ≡ Err (record { place = place; kind = kind }) → Fails e reading
refused (errors.Memory m) reading place kind r h = tt
refused (errors.Fault p k) reading place kind r h = rw (r.0, r.1) h

-- Words of private contracts on rows that are made state by state. Nobody need believe them.
use Rattle.std.specs.Prelude.{◌≡◌, ℕ, List, length, map}
use Rattle.std.specs.List.{AllZip}
use Rattle.cnec_rows.specs.declared.types.RowZones.{RowZones}
use Rattle.state_proofs.specs.declared.StateProof.{StateProof}
use Rattle.fb_certificate.specs.CracRows.{crac_rows}
use Rattle.fb_certificate.specs.RowsMade.{IsMadeBy, IsProofAt}
use Rattle.fb_certificate.specs.RunRows.{run_rows}
use Rattle.fb_certificate.specs.Valid.{AreNumbersOf, AreProofs}
use Rattle.fb_certificate.specs.Whole.{IsWhole, row_zones}
use Rattle.fb_certificate.specs.declared.made.MadeRow.{MadeRow}
use Rattle.fb_certificate.specs.declared.types.Inputs.{Inputs}
use Rattle.fb_certificate.specs.declared.types.RunRow.{RunRow}
use Rattle.number_groups.specs.Groups.{AreGroups}

-- one proof of the state with this number gives the numbers of all the rows
pub record AreMadeAt (inputs : Inputs) (number : ℕ) (rows : List RunRow) (made : List MadeRow) : Type 0 where
  pub proof : StateProof
  pub is_proof : IsProofAt inputs number proof
  pub each : AllZip (IsMadeBy inputs proof) rows made

-- the number of the state of each row of the run
abbrev pub state_numbers : Inputs → List ℕ
state_numbers inputs = map (λ row. row.state) (run_rows inputs)

-- the rows of the run, each in the group of its state
abbrev pub AreRowsByState : Inputs → List (List RunRow) → Type 0
AreRowsByState inputs groups = AreGroups (length inputs.states) (state_numbers inputs) (run_rows inputs) groups

-- what a worker needs beside the number of a state
pub record AreReady (inputs : Inputs) (zones : RowZones) (groups : List (List RunRow)) : Type 0 where
  pub whole : IsWhole inputs
  pub zones_are : zones ≡ row_zones inputs.settings inputs.keys
  pub by_state : AreRowsByState inputs groups

-- proofs of all states give the numbers of all rows of the CRAC
pub record AreMade (inputs : Inputs) (made : List MadeRow) : Type 0 where
  pub proofs : List StateProof
  pub proved : AreProofs inputs proofs
  pub each : AllZip (λ row numbers. AreNumbersOf inputs proofs row numbers.spans numbers.numbers) (crac_rows inputs.crac.elements) made

-- Every valid certificate of whole inputs is that of a sound domain.
use Rattle.std.proofs.Common.{◌≡◌, ℕ, zero, suc, ◌<◌, List, [], ◌∷◌, length, get_or, Some, refl, arith}
use Rattle.std.specs.Prelude.{slice_get}
use Rattle.row_security.proofs.Chosen.{has_choices}
use Rattle.cnec_rows.specs.RowNumbers.{IsRightRow}
use Rattle.cnec_rows.specs.declared.types.RowProof.{RowProof}
use Rattle.row_gaps.proofs.TrueRows.{rows_true}
use Rattle.fb_certificate.specs.Capacity.{IsRight, IsCapacity}
use Rattle.fb_certificate.specs.CracRows.{CracRow, crac_rows}
use Rattle.fb_certificate.specs.Situations.{stated, branch_of, exact_row}
use Rattle.fb_certificate.specs.Valid.{IsRowOf, IsValid}
use Rattle.fb_certificate.specs.Whole.{IsWhole, row_zones}
use Rattle.fb_certificate.proofs.Theorem.{capacity}
use Rattle.fb_certificate.specs.declared.types.Inputs.{Inputs}
use Rattle.fb_certificate.specs.declared.types.Certificate.{Certificate}
use Rattle.valid_domains.specs.Sound.{IsSoundDomain}
use Rattle.valid_domains.proofs.Known.{zip_weaker, known_state, IsKnownRow, known_row, at_place}
use Rattle.valid_domains.proofs.NearRows.{small_gaps}

row_right : (inputs : Inputs) (row : CracRow) (numbers : RowProof) → IsKnownRow inputs row numbers
    → IsRight inputs row numbers
row_right inputs row numbers known =
    let place = known.place in
    let state = known.state in
    let columns = inputs.keys.columns in
    let zones = row_zones inputs.settings inputs.keys in
    let holds =
    rows_true place.state inputs.grid state.sound state.of_grid state.range columns zones (stated inputs row)
    (branch_of row place) known.proof known.proved (record { stands = known.is_place.branch }) in
    at_place inputs row numbers known
    (λ p n. IsRightRow p.state inputs.grid columns zones (exact_row inputs row p) inputs.settings.threshold n)
    holds.right

get_stands : {X : Type 0} (xs : List X) (k : ℕ) (d : X) → k < length xs → slice_get xs k ≡ Some (get_or xs k d)
get_stands [] k d l = absurd (omega arith)
get_stands (x ∷ xs) zero d l = refl
get_stands (x ∷ xs) (suc k) d l = get_stands xs k d (omega arith)

valid_capacity : (inputs : Inputs) (c : Certificate) → IsWhole inputs → IsValid inputs c → IsCapacity inputs c
valid_capacity inputs c whole valid =
    capacity inputs c valid
    (λ k d l. has_choices (get_or inputs.states k d) (known_state inputs whole k (get_or inputs.states k d) (get_stands inputs.states k d l)).sound inputs.grid)
    (zip_weaker (IsRowOf inputs c.states) (IsRight inputs) (λ row numbers is. row_right inputs row numbers (known_row inputs whole c.states valid.states row numbers is))
    (crac_rows inputs.crac.elements) c.rows valid.rows)

pub sound_domain : (inputs : Inputs) (c : Certificate) → IsWhole inputs → IsValid inputs c → IsSoundDomain inputs c
sound_domain inputs c whole valid = record { valid = valid; capacity = valid_capacity inputs c whole valid; gaps = small_gaps inputs c whole valid }

-- The numbers of a row, found by its grid state, its zones and what is stated of it.
use Rattle.std.proofs.Common.{◌≡◌, ℕ, zero, suc, ◌<◌, List, [], ◌∷◌, length, get_or, Some, refl, sym, ap, subst, ◌∙◌, arith}
use Rattle.std.specs.Prelude.{Result, Ok, Err, IfOk, slice_get}
use Rattle.std.proofs.lemmas.Option.{slice_get_read, same_Some}
use Rattle.grid_state.specs.GridState.{GridState}
use Rattle.branch_spans.specs.FlowSpans.{ForBranch}
use Rattle.security.specs.Secure.{RowPlace}
use Rattle.state_proofs.specs.StateProofs.{IsStateProof}
use Rattle.state_proofs.specs.declared.StateProof.{StateProof}
use Rattle.cnec_rows.specs.RowNumbers.{keyed_zones, row_on, row_spans_of, row_proof_of, HoldNumbers, IsRightRow, AreTerms}
use Rattle.cnec_rows.specs.declared.types.RowTerms.{RowTerms}
use Rattle.cnec_rows.specs.declared.types.RowZones.{RowZones}
use Rattle.cnec_rows.specs.declared.types.RowSpans.{RowSpans}
use Rattle.cnec_rows.specs.declared.types.RowProof.{RowProof}
use Rattle.fb_certificate.specs.Capacity.{HoldRow, IsRight}
use Rattle.fb_certificate.specs.CracRows.{CracRow, state_of_row}
use Rattle.fb_certificate.specs.RunRows.{run_row}
use Rattle.fb_certificate.specs.Situations.{zones_in, exact_row, branch_of, stated}
use Rattle.fb_certificate.specs.Valid.{AreNumbersOf, AreProofs}
use Rattle.fb_certificate.specs.Whole.{IsWhole, row_zones}
use Rattle.fb_certificate.proofs.RunLaws.{IsListed}
use Rattle.fb_certificate.proofs.WholeLaws.{zip_length, element_fits, state_below, stated_fit}
use Rattle.fb_certificate.specs.declared.types.Inputs.{Inputs}
use Rattle.fb_certificate.specs.declared.types.RunRow.{RunRow}

pub there : {X : Type 0} (xs : List X) (i : ℕ) → i < length xs → (x : X) × (slice_get xs i ≡ Some x)
there [] i l = absurd (omega arith)
there (x ∷ xs) zero l = (x, refl)
there (x ∷ xs) (suc i) l = there xs i (omega arith)

pub both_ok : {X Y : Type 0} (r : Result X Y) (P Q R : X → Type 0) → ((x : X) → P x → Q x → R x) → IfOk r P → IfOk r Q → IfOk r R
both_ok (Ok x) P Q R f p q = f x p q
both_ok (Err e) P Q R f p q = tt

-- ---- a row of the run is in range

module _ (inputs : Inputs) (whole : IsWhole inputs) (row : RunRow) (h : IsListed inputs row) where
  pub terms_fit : AreTerms row.terms
  terms_fit = subst (λ (r : RunRow). AreTerms r.terms) h.is (stated_fit inputs whole h.of h.fits)

  pub branch_below : row.terms.branch < length inputs.grid.branches
  branch_below = subst (λ (r : RunRow). r.terms.branch < length inputs.grid.branches) h.is (element_fits inputs whole h.of.place h.of.element h.fits.same_element).branch

  pub state_within : row.state < length inputs.states
  state_within = subst (λ (r : RunRow). r.state < length inputs.states) h.is (state_below inputs whole h.of.place h.of.element h.fits.same_element)

-- ---- what is found

module _ (inputs : Inputs) (row : CracRow) (zones : RowZones) (terms : RowTerms) (s : GridState) (same_zones : zones ≡ row_zones inputs.settings inputs.keys) (same_terms : terms ≡ stated inputs row)
    (stands : slice_get inputs.states (state_of_row inputs.outages row) ≡ Some s) where
  pub numbers_found : (proofs : List StateProof) (proof : StateProof) (spans : RowSpans) (numbers : RowProof) → slice_get proofs (state_of_row inputs.outages row) ≡ Some proof → terms.branch < length inputs.grid.branches
      → ForBranch inputs.grid terms.branch (λ c. spans ≡ row_spans_of s inputs.keys.columns zones terms c proof)
      → ForBranch inputs.grid terms.branch (λ c. numbers ≡ row_proof_of s inputs.keys.columns zones terms c proof)
      → AreNumbersOf inputs proofs row spans numbers
  numbers_found proofs proof spans numbers proved below spans_are numbers_are =
      let below' : row.element.branch < length inputs.grid.branches = subst (λ (t : RowTerms). t.branch < length inputs.grid.branches) same_terms below in
      let branch = there inputs.grid.branches row.element.branch below' in
      let place : RowPlace = record { state = s; branch = branch.0 } in
      record {
        place = place;
        is_place = record { state = stands; branch = branch.1 };
        proof = proof;
        is_proof = proved;
        spans_are = subst (λ (z : RowZones). spans ≡ row_spans_of s inputs.keys.columns z (stated inputs row) (branch_of row place) proof) same_zones
            (subst (λ (t : RowTerms). ForBranch inputs.grid t.branch (λ c. spans ≡ row_spans_of s inputs.keys.columns zones t c proof)) same_terms spans_are (branch_of row place) refl (record { stands = branch.1 }));
        numbers_are = subst (λ (z : RowZones). numbers ≡ row_proof_of s inputs.keys.columns z (stated inputs row) (branch_of row place) proof) same_zones
            (subst (λ (t : RowTerms). ForBranch inputs.grid t.branch (λ c. numbers ≡ row_proof_of s inputs.keys.columns zones t c proof)) same_terms numbers_are (branch_of row place) refl (record { stands = branch.1 }));
      }

  pub hold_found : (spans : RowSpans) → ForBranch inputs.grid terms.branch (λ c. HoldNumbers s inputs.grid (keyed_zones inputs.keys.columns zones) (row_on terms c) spans) → HoldRow inputs row spans
  hold_found spans holds place is_place =
      subst (λ (s' : GridState). HoldNumbers s' inputs.grid (zones_in inputs) (exact_row inputs row place) spans) (same_Some s place.state (sym stands ∙ is_place.state))
      (subst (λ (z : RowZones). HoldNumbers s inputs.grid (keyed_zones inputs.keys.columns z) (exact_row inputs row place) spans) same_zones
      (subst (λ (t : RowTerms). ForBranch inputs.grid t.branch (λ c. HoldNumbers s inputs.grid (keyed_zones inputs.keys.columns zones) (row_on t c) spans)) same_terms holds (branch_of row place) refl (record { stands = is_place.branch })))

  pub right_found : (numbers : RowProof) → ForBranch inputs.grid terms.branch (λ c. IsRightRow s inputs.grid inputs.keys.columns zones (row_on terms c) terms.threshold numbers) → IsRight inputs row numbers
  right_found numbers right place is_place =
      subst (λ (s' : GridState). IsRightRow s' inputs.grid inputs.keys.columns (row_zones inputs.settings inputs.keys) (exact_row inputs row place) inputs.settings.threshold numbers) (same_Some s place.state (sym stands ∙ is_place.state))
      (subst (λ (z : RowZones). IsRightRow s inputs.grid inputs.keys.columns z (exact_row inputs row place) inputs.settings.threshold numbers) same_zones
      (subst (λ (t : RowTerms). ForBranch inputs.grid t.branch (λ c. IsRightRow s inputs.grid inputs.keys.columns zones (row_on t c) t.threshold numbers)) same_terms right (branch_of row place) refl (record { stands = is_place.branch })))

-- ---- the state of a row

-- each state has a proof
pub proof_below : (inputs : Inputs) (proofs : List StateProof) (n : ℕ) → AreProofs inputs proofs → n < length inputs.states → n < length proofs
proof_below inputs proofs n h l = let e = zip_length (λ (s : GridState) (p : StateProof). IsStateProof s inputs.grid inputs.keys.columns p) inputs.states proofs h in omega (arith, e)

-- what stands at the state of the run's row stands at that of the CRAC's
pub state_stands : {X : Type 0} (inputs : Inputs) (xs : List X) (x : X) (c : CracRow) (row : RunRow) → run_row inputs c ≡ row → row.state < length xs → x ≡ get_or xs row.state x
    → slice_get xs (state_of_row inputs.outages c) ≡ Some x
state_stands inputs xs x c row same l read =
    subst (λ (k : ℕ). slice_get xs k ≡ Some x) (ap (λ (r : RunRow). r.state) (sym same)) (slice_get_read xs (length xs) row.state x refl l read)

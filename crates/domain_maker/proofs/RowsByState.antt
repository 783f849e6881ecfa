-- Rows that are made state by state are the rows that the proofs of all states give.
use Rattle.std.proofs.Common.{◌≡◌, ℕ, zero, suc, ◌+◌, ◌<◌, List, [], ◌∷◌, length, map, get_or, All, Option, Some, refl, sym, ap, subst, ◌∙◌, arith}
use Rattle.std.specs.Prelude.{slice_get, IfSome}
use Rattle.std.specs.List.{AllZip, Contains, range_with_len}
use Rattle.std.proofs.lemmas.List.{length-map}
use Rattle.std.proofs.lemmas.List.Elements.{All-weaker, All-contains_itself, All-map}
use Rattle.std.proofs.lemmas.List.FromFn.{length-range_with_len, get_or-range_with_len}
use Rattle.std.proofs.lemmas.Option.{same_Some}
use Rattle.grid_state.specs.GridState.{GridState}
use Rattle.cnec_rows.specs.declared.types.RowProof.{RowProof}
use Rattle.cnec_rows.specs.declared.types.RowSpans.{RowSpans}
use Rattle.state_proofs.specs.StateProofs.{IsStateProof}
use Rattle.state_proofs.specs.declared.StateProof.{StateProof}
use Rattle.fb_certificate.specs.CracRows.{crac_rows}
use Rattle.fb_certificate.specs.RowsMade.{IsMadeBy, IsProofAt}
use Rattle.fb_certificate.specs.RunRows.{run_row, run_rows}
use Rattle.fb_certificate.specs.Valid.{AreNumbersOf, AreRowsOf, IsRowOf}
use Rattle.fb_certificate.specs.Whole.{IsWhole}
use Rattle.fb_certificate.specs.declared.made.MadeRow.{MadeRow}
use Rattle.fb_certificate.specs.declared.types.Inputs.{Inputs}
use Rattle.fb_certificate.specs.declared.types.RunRow.{RunRow}
use Rattle.fb_certificate.proofs.NumberLaws.{state_within, there}
use Rattle.fb_certificate.proofs.RunLaws.{listed}
use Rattle.fb_certificate.proofs.WholeLaws.{zip_length}
use Rattle.number_groups.specs.Groups.{AreGroups, beside}
use Rattle.number_groups.proofs.GroupLaws.{beside_length}
use Rattle.number_groups.proofs.BesideLaws.{beside_all, beside_joined}
use Rattle.domain_maker.specs.Domains.{AreSpansOf}
use Rattle.domain_maker.specs.Made.{AreMade, AreMadeAt, AreRowsByState, state_numbers}
use Rattle.domain_maker.proofs.Zips.{zip_from_map, zip_to_map, zip_weaker}

-- ---- the states of rows

known : (inputs : Inputs) → IsWhole inputs → (row : RunRow) → Contains (run_rows inputs) row → row.state < length inputs.states
known inputs whole row is = state_within inputs whole row (listed inputs row is)

pub rows_known : (inputs : Inputs) → IsWhole inputs → All (λ row. row.state < length inputs.states) (run_rows inputs)
rows_known inputs whole =
    All-weaker (Contains (run_rows inputs)) (λ row. row.state < length inputs.states) (known inputs whole) (run_rows inputs)
    (All-contains_itself (run_rows inputs))

pub states_known : (inputs : Inputs) → IsWhole inputs → All (λ n. n < length inputs.states) (state_numbers inputs)
states_known inputs whole = All-map (λ n. n < length inputs.states) (λ (row : RunRow). row.state) (run_rows inputs) (rows_known inputs whole)

-- the rows of a group are rows of the run, all of the group's state
module _ (inputs : Inputs) (groups : List (List RunRow)) (by_state : AreRowsByState inputs groups) (k : ℕ) (below : k < length inputs.states) where
  pub group_listed : All (Contains (run_rows inputs)) (get_or groups k [])
  group_listed =
      subst (All (Contains (run_rows inputs))) (sym (by_state.each k below))
      (beside_all (λ n. Contains (run_rows inputs)) (λ row. row.state) k (run_rows inputs) (All-contains_itself (run_rows inputs)))

  pub group_proved : (proof : StateProof) → IsProofAt inputs k proof → All (λ row. IsProofAt inputs row.state proof) (get_or groups k [])
  group_proved proof is =
      subst (All (λ row. IsProofAt inputs row.state proof)) (sym (by_state.each k below))
      (All-weaker (λ row. row.state ≡ k) (λ row. IsProofAt inputs row.state proof)
      (λ row e. subst (λ n. IsProofAt inputs n proof) (sym e) is) (beside k (state_numbers inputs) (run_rows inputs))
      (beside_all (λ n row. row.state ≡ n) (λ row. row.state) k (run_rows inputs)
      (All-weaker (Contains (run_rows inputs)) (λ row. row.state ≡ row.state) (λ row e. refl) (run_rows inputs) (All-contains_itself (run_rows inputs)))))

-- ---- the proofs, and what they give

abbrev proofs_in : (inputs : Inputs) (group : ℕ → List RunRow) (ns : List ℕ) (mades : List (List MadeRow)) → AllZip (λ n. AreMadeAt inputs n (group n)) ns mades → List StateProof
proofs_in inputs group [] mades h = []
proofs_in inputs group (n ∷ ns) [] h = absurd h
proofs_in inputs group (n ∷ ns) (made ∷ mades) h = h.0.proof ∷ proofs_in inputs group ns mades h.1

proofs_are : (inputs : Inputs) (group : ℕ → List RunRow) (ns : List ℕ) (mades : List (List MadeRow)) (h : AllZip (λ n. AreMadeAt inputs n (group n)) ns mades) → AllZip (IsProofAt inputs) ns (proofs_in inputs group ns mades h)
proofs_are inputs group [] mades h = tt
proofs_are inputs group (n ∷ ns) [] h = absurd h
proofs_are inputs group (n ∷ ns) (made ∷ mades) h = (h.0.is_proof, proofs_are inputs group ns mades h.1)

proofs_give : (inputs : Inputs) (group : ℕ → List RunRow) (ns : List ℕ) (mades : List (List MadeRow)) (h : AllZip (λ n. AreMadeAt inputs n (group n)) ns mades) (i n : ℕ) (proof : StateProof) → i < length ns → get_or ns i n ≡ n
    → slice_get (proofs_in inputs group ns mades h) i ≡ Some proof → AllZip (IsMadeBy inputs proof) (group n) (get_or mades i [])
proofs_give inputs group [] mades h i n proof l at is = absurd (omega arith)
proofs_give inputs group (m ∷ ns) [] h i n proof l at is = absurd h
proofs_give inputs group (m ∷ ns) (made ∷ mades) h zero n proof l at is =
    subst (λ k. AllZip (IsMadeBy inputs proof) (group k) made) at
    (subst (λ p. AllZip (IsMadeBy inputs p) (group m) made) (same_Some _ proof is) h.0.each)
proofs_give inputs group (m ∷ ns) (made ∷ mades) h (suc i) n proof l at is = proofs_give inputs group ns mades h.1 i n proof (omega arith) at is

-- proofs at the numbers of all states are proofs of the states
proofs_from : (inputs : Inputs) (ss : List GridState) (proofs : List StateProof) (a : ℕ) → ((i : ℕ) (s : GridState) → slice_get ss i ≡ Some s → slice_get inputs.states (a + i) ≡ Some s)
    → AllZip (IsProofAt inputs) (range_with_len a (length ss)) proofs → AllZip (λ s proof. IsStateProof s inputs.grid inputs.keys.columns proof) ss proofs
proofs_from inputs [] [] a at h = tt
proofs_from inputs [] (p ∷ ps) a at h = absurd h
proofs_from inputs (s ∷ ss) [] a at h = absurd h
proofs_from inputs (s ∷ ss) (p ∷ ps) a at h = (
  subst (λ (o : Option GridState). IfSome o (λ s. IsStateProof s inputs.grid inputs.keys.columns p)) (ap (slice_get inputs.states) (omega arith) ∙ at 0 s refl) h.0,
  proofs_from inputs ss ps (a + 1) (λ i t e. ap (slice_get inputs.states) (omega arith) ∙ at (suc i) t e) h.1,
)

-- ---- all rows

-- a proof that stands at this state gives the row's numbers
record IsGiven (inputs : Inputs) (proofs : List StateProof) (k : ℕ) (row : RunRow) (made : MadeRow) : Type 0 where
  pub proof : StateProof
  pub stands : slice_get proofs k ≡ Some proof
  pub gives : IsMadeBy inputs proof row made

pub all_made_rows : (inputs : Inputs) → IsWhole inputs → (groups : List (List RunRow)) → AreRowsByState inputs groups → (mades : List (List MadeRow))
    → AllZip (λ number. AreMadeAt inputs number (get_or groups number [])) (range_with_len 0 (length inputs.states)) mades
    → (made : List MadeRow) → length made ≡ length (state_numbers inputs) → AreGroups (length mades) (state_numbers inputs) made mades → AreMade inputs made
all_made_rows inputs whole groups by_state mades given made long dealt = record {
  proofs = proofs;
  proved = proofs_from inputs inputs.states proofs 0 (λ i s e. ap (slice_get inputs.states) (omega arith) ∙ e) are;
  each = zip_weaker (λ c m. IsGiven inputs proofs (run_row inputs c).state (run_row inputs c) m) (λ c m. AreNumbersOf inputs proofs c m.spans m.numbers)
      (λ c m h. h.gives.numbers c refl proofs h.stands) (crac_rows inputs.crac.elements) made
      (zip_from_map (λ row m. IsGiven inputs proofs row.state row m) (run_row inputs) (crac_rows inputs.crac.elements) made joined);
}
  where
    count : ℕ
    count = length inputs.states

    group : ℕ → List RunRow
    group n = get_or groups n []

    proofs : List StateProof
    proofs = proofs_in inputs group (range_with_len 0 count) mades given

    are : AllZip (IsProofAt inputs) (range_with_len 0 count) proofs
    are = proofs_are inputs group (range_with_len 0 count) mades given

    same_long : length mades ≡ count
    same_long = sym (zip_length (λ n. AreMadeAt inputs n (group n)) (range_with_len 0 count) mades given) ∙ length-range_with_len 0 count

    proofs_long : length proofs ≡ count
    proofs_long = sym (zip_length (IsProofAt inputs) (range_with_len 0 count) proofs are) ∙ length-range_with_len 0 count

    at : (k : ℕ) → k < count → AllZip (IsGiven inputs proofs k) (beside k (state_numbers inputs) (run_rows inputs)) (beside k (state_numbers inputs) made)
    at k below =
        let p = there proofs k (omega (arith, proofs_long, below)) in
        let here = proofs_give inputs group (range_with_len 0 count) mades given k k p.0 (omega (arith, length-range_with_len 0 count, below))
        (get_or-range_with_len 0 count k k below ∙ omega arith) p.1 in
        subst (λ rows. AllZip (IsGiven inputs proofs k) rows (beside k (state_numbers inputs) made)) (by_state.each k below)
        (subst (λ ms. AllZip (IsGiven inputs proofs k) (group k) ms) (dealt.each k (omega (arith, same_long, below)))
        (zip_weaker (IsMadeBy inputs p.0) (IsGiven inputs proofs k) (λ row m h. record { proof = p.0; stands = p.1; gives = h }) (group k) (get_or mades k []) here))

    joined : AllZip (λ row m. IsGiven inputs proofs row.state row m) (run_rows inputs) made
    joined =
        beside_joined (IsGiven inputs proofs) (λ row. row.state) count (run_rows inputs) made
        (sym (length-map (run_rows inputs) (λ (row : RunRow). row.state)) ∙ sym long) (rows_known inputs whole) at

-- there is a list of rows for each state
pub mades_long : (inputs : Inputs) (groups : List (List RunRow)) (mades : List (List MadeRow)) → AllZip (λ number. AreMadeAt inputs number (get_or groups number [])) (range_with_len 0 (length inputs.states)) mades
    → length mades ≡ length inputs.states
mades_long inputs groups mades given =
    sym (zip_length (λ n. AreMadeAt inputs n (get_or groups n [])) (range_with_len 0 (length inputs.states)) mades given) ∙ length-range_with_len 0 (length inputs.states)

-- each group is as long as its state stands often
pub as_many_made : (inputs : Inputs) → IsWhole inputs → (groups : List (List RunRow)) → AreRowsByState inputs groups → (mades : List (List MadeRow))
    → AllZip (λ number. AreMadeAt inputs number (get_or groups number [])) (range_with_len 0 (length inputs.states)) mades
    → (k : ℕ) → k < length mades → length (get_or mades k []) ≡ length (beside k (state_numbers inputs) (state_numbers inputs))
as_many_made inputs whole groups by_state mades given k below =
    let count = length inputs.states in
    let within : k < count = omega (arith, mades_long inputs groups mades given, below) in
    let proofs = proofs_in inputs (λ n. get_or groups n []) (range_with_len 0 count) mades given in
    let are = proofs_are inputs (λ n. get_or groups n []) (range_with_len 0 count) mades given in
    let proofs_long = sym (zip_length (IsProofAt inputs) (range_with_len 0 count) proofs are) ∙ length-range_with_len 0 count in
    let p = there proofs k (omega (arith, proofs_long, within)) in
    let here = proofs_give inputs (λ n. get_or groups n []) (range_with_len 0 count) mades given k k p.0 (omega (arith, length-range_with_len 0 count, within))
    (get_or-range_with_len 0 count k k within ∙ omega arith) p.1 in
    sym (zip_length (IsMadeBy inputs p.0) (get_or groups k []) (get_or mades k []) here)
    ∙ (ap length (by_state.each k within)
    ∙ beside_length k (state_numbers inputs) (run_rows inputs) (state_numbers inputs) (length-map (run_rows inputs) (λ (row : RunRow). row.state)) refl)

-- ---- the rows and their spans

pub rows_due : (inputs : Inputs) (made : List MadeRow) (m : AreMade inputs made) (rows : List RowProof) → rows ≡ map (λ row. row.numbers) made → AreRowsOf inputs m.proofs rows
rows_due inputs made m rows same =
    subst (AreRowsOf inputs m.proofs) (sym same)
    (zip_to_map (IsRowOf inputs m.proofs) (λ (row : MadeRow). row.numbers) (crac_rows inputs.crac.elements) made
    (zip_weaker (λ c row. AreNumbersOf inputs m.proofs c row.spans row.numbers) (λ c row. IsRowOf inputs m.proofs c row.numbers)
    (λ c row h. record { spans = row.spans; are = h }) (crac_rows inputs.crac.elements) made m.each))

pub spans_due : (inputs : Inputs) (made : List MadeRow) (m : AreMade inputs made) (spans : List RowSpans) → spans ≡ map (λ row. row.spans) made → AllZip (AreSpansOf inputs m.proofs) (crac_rows inputs.crac.elements) spans
spans_due inputs made m spans same =
    subst (AllZip (AreSpansOf inputs m.proofs) (crac_rows inputs.crac.elements)) (sym same)
    (zip_to_map (AreSpansOf inputs m.proofs) (λ (row : MadeRow). row.spans) (crac_rows inputs.crac.elements) made
    (zip_weaker (λ c row. AreNumbersOf inputs m.proofs c row.spans row.numbers) (λ c row. AreSpansOf inputs m.proofs c row.spans)
    (λ c row h. record { numbers = row.numbers; are = h }) (crac_rows inputs.crac.elements) made m.each))

-- What follows where the records of the states, and those of the rows, pass; and the verdict on the whole.
use Rattle.std.proofs.Common.{◌≡◌, ℕ, ◌+◌, List, [], ◌∷◌, ◌++◌, length, All, refl, sym, ap, subst, ◌∙◌, arith, append_assoc}
use Rattle.std.specs.List.{AllZip}
use Rattle.fb_types.specs.Domain.{IsHalfOver}
use Rattle.fb_types.specs.declared.rows.Bounds.{Bounds}
use Rattle.fb_types.specs.declared.rows.Half.{Half}
use Rattle.state_proofs.specs.StateProofs.{IsStateProof}
use Rattle.state_proofs.specs.declared.StateProof.{StateProof}
use Rattle.cnec_rows.specs.declared.types.RowProof.{RowProof}
use Rattle.run_settings.specs.Laws.{core_bounds}
use Rattle.fb_certificate.specs.CracRows.{crac_rows}
use Rattle.fb_certificate.specs.Lists.{inner_list, outer_list}
use Rattle.fb_certificate.specs.Valid.{IsRowOf, AreProofs, AreRowsOf}
use Rattle.fb_certificate.specs.declared.types.Certificate.{Certificate}
use Rattle.fb_certificate.specs.declared.types.Cite.{Cite}
use Rattle.fb_certificate.specs.declared.types.Inputs.{Inputs}
use Rattle.certificate_check.specs.CiteRulings.{AreListsJudged}
use Rattle.certificate_check.specs.Judged.{behind, IsReached, IsJudged, AreRowsJudged, domain_records}
use Rattle.certificate_check.specs.Records.{Record, version, mark, beside, state_records, row_records, cite_records, records_of}
use Rattle.certificate_check.specs.Verdicts.{Passes, IsFirstFailure}
use Rattle.certificate_check.specs.declared.judgement.Judgement.{Judgement}
use Rattle.certificate_check.specs.declared.judgement.Judgement.TheVariants.{Passed}
use Rattle.certificate_check.specs.declared.verdict.Reason.{Reason}
use Rattle.certificate_check.specs.declared.verdict.Reason.TheVariants as why
use Rattle.certificate_check.proofs.Passing.{beside_zip, no_misplaced, state_proved, row_due}
use Rattle.certificate_check.proofs.Reaching.{begun, passes_one, fails_one, passes_part, fails_part, judged_behind, with_rest, fails_with_rest, all_passed}

-- ---- parts that pass

module _ (inputs : Inputs) (c : Certificate) where
  pub states_proved : (n : ℕ) → IsJudged inputs c (beside (state_records inputs) inputs.states c.states) (Passed n)
      → AreProofs inputs c.states
  states_proved n h =
      beside_zip (Passes inputs c) (state_records inputs)
      (λ s proof. IsStateProof s inputs.grid inputs.keys.columns proof) (no_misplaced inputs c)
      (state_proved inputs c) inputs.states c.states
      (all_passed inputs c (beside (state_records inputs) inputs.states c.states) n h)

  pub rows_due : (n : ℕ) → IsJudged inputs c (beside row_records (crac_rows inputs.crac.elements) c.rows) (Passed n)
      → AreRowsOf inputs c.states c.rows
  rows_due n h =
      beside_zip (Passes inputs c) row_records (IsRowOf inputs c.states) (no_misplaced inputs c) (row_due inputs c)
      (crac_rows inputs.crac.elements) c.rows
      (all_passed inputs c (beside row_records (crac_rows inputs.crac.elements) c.rows) n h)

  -- ---- the rows and the cites

  pub domain_rows_fail : (number : ℕ) (reason : Reason)
      → IsFirstFailure inputs c (beside row_records (crac_rows inputs.crac.elements) c.rows) number reason
      → IsFirstFailure inputs c (domain_records inputs c) number reason
  domain_rows_fail number reason h =
      fails_with_rest inputs c (beside row_records (crac_rows inputs.crac.elements) c.rows) _ number reason h

  pub domain_judged : (done : ℕ) (judgement : Judgement)
      → IsJudged inputs c (beside row_records (crac_rows inputs.crac.elements) c.rows) (Passed done)
      → AreListsJudged (core_bounds inputs.settings.zones) c.rows c.inner c.outer judgement
      → IsJudged inputs c (domain_records inputs c) (behind done judgement)
  domain_judged done judgement h k =
      judged_behind inputs c (domain_records inputs c) _ done judgement
      (with_rest inputs c (beside row_records (crac_rows inputs.crac.elements) c.rows) [] _ done h)
      (k inputs c refl refl)

  -- ---- the whole

  abbrev states_records : List Record
  states_records = beside (state_records inputs) inputs.states c.states

  abbrev the_end : List Record
  the_end = mark ∷ []

  -- the records are the version, those of the states, those of the domain, and the end
  at_version : IsReached inputs c (records_of inputs c)
      (version c.version ∷ (states_records ++ (domain_records inputs c ++ the_end))) 0
  at_version =
      let rows = beside row_records (crac_rows inputs.crac.elements) c.rows in
      let inner = cite_records inner_list c.inner 0 c.inner in
      let outer = cite_records outer_list c.outer 0 c.outer in
      let parts : domain_records inputs c ++ the_end ≡ rows
      ++ (inner ++ (outer ++ the_end)) =
      append_assoc rows (inner ++ outer) the_end
      ∙ ap (λ (rs : List Record). rows ++ rs) (append_assoc inner outer the_end) in
      subst (λ (rs : List Record). IsReached inputs c (records_of inputs c)
      (version c.version ∷ (states_records ++ rs)) 0) (sym parts) (begun inputs c (records_of inputs c))

  pub version_fails : (c.version ≡ 1 → ⊥) → IsFirstFailure inputs c (records_of inputs c) 1 why.Order
  version_fails wrong =
      fails_one inputs c (records_of inputs c) (states_records ++ (domain_records inputs c ++ the_end))
      (version c.version) 0 why.Order
      (record { fails = λ m. wrong (m refl); first = λ earlier l. absurd (omega (arith, l)) }) at_version

  at_states : c.version ≡ 1 → IsReached inputs c (records_of inputs c)
      (states_records ++ (domain_records inputs c ++ the_end)) 1
  at_states e =
      passes_one inputs c (records_of inputs c) (states_records ++ (domain_records inputs c ++ the_end))
      (version c.version) 0 (λ reason r. e) at_version

  pub whole_states_fail : (number : ℕ) (reason : Reason) → c.version ≡ 1
      → IsFirstFailure inputs c states_records number reason
      → IsFirstFailure inputs c (records_of inputs c) (1 + number) reason
  whole_states_fail number reason e h =
      fails_part inputs c (records_of inputs c)
      (states_records ++ (domain_records inputs c ++ the_end)) 1 number reason (at_states e)
      (fails_with_rest inputs c states_records (domain_records inputs c ++ the_end) number reason h)

  at_domain : (done : ℕ) → c.version ≡ 1 → IsJudged inputs c states_records (Passed done)
      → IsReached inputs c (records_of inputs c) (domain_records inputs c ++ the_end) (1 + done)
  at_domain done e h =
      passes_part inputs c (records_of inputs c) (states_records ++ (domain_records inputs c ++ the_end))
      (domain_records inputs c ++ the_end) 1 done (at_states e)
      (with_rest inputs c states_records [] (domain_records inputs c ++ the_end) done h)

  pub whole_domain_fails : (done number : ℕ) (reason : Reason) → c.version ≡ 1
      → IsJudged inputs c states_records (Passed done)
      → IsFirstFailure inputs c (domain_records inputs c) number reason
      → IsFirstFailure inputs c (records_of inputs c) (1 + done + number) reason
  whole_domain_fails done number reason e h k =
      fails_part inputs c (records_of inputs c) (domain_records inputs c ++ the_end) (1 + done) number reason
      (at_domain done e h)
      (fails_with_rest inputs c (domain_records inputs c) the_end number reason k)

  pub whole_passes : (done count : ℕ) → c.version ≡ 1 → IsJudged inputs c states_records (Passed done)
      → IsJudged inputs c (domain_records inputs c) (Passed count) → All (Passes inputs c) (records_of inputs c)
  whole_passes done count e h k =
      all_passed inputs c (records_of inputs c) (1 + done + count + 1)
      (passes_one inputs c (records_of inputs c) [] mark (1 + done + count) (λ reason. tt)
      (passes_part inputs c (records_of inputs c) (domain_records inputs c ++ the_end) the_end (1 + done) count
      (at_domain done e h)
      (with_rest inputs c (domain_records inputs c) [] the_end count k)))

-- ---- in the code's words

pub rows_in_certificate : (inputs : Inputs) (c : Certificate) (made due rows : List RowProof) (judgement : Judgement)
    → due ≡ made → rows ≡ c.rows
    → AllZip (IsRowOf inputs c.states) (crac_rows inputs.crac.elements) made
    → AreRowsJudged due rows judgement
    → IsJudged inputs c (beside row_records (crac_rows inputs.crac.elements) c.rows) judgement
rows_in_certificate inputs c made due rows judgement ed er zip h =
    subst (λ (rs : List RowProof). IsJudged inputs c
    (beside row_records (crac_rows inputs.crac.elements) rs) judgement) er
    (h inputs c (subst (λ (ds : List RowProof). AllZip (IsRowOf inputs c.states) (crac_rows inputs.crac.elements) ds)
    (sym ed) zip))

pub lists_in_certificate : (inputs : Inputs) (c : Certificate) (bounds : List Bounds) (rows : List RowProof)
    (inner outer : List Cite) (judgement : Judgement)
    → bounds ≡ core_bounds inputs.settings.zones → rows ≡ c.rows → inner ≡ c.inner → outer ≡ c.outer
    → AreListsJudged bounds rows inner outer judgement
    → AreListsJudged (core_bounds inputs.settings.zones) c.rows c.inner c.outer judgement
lists_in_certificate inputs c bounds rows inner outer judgement eb er ei eo h =
    subst (λ (os : List Cite). AreListsJudged (core_bounds inputs.settings.zones) c.rows c.inner os judgement) eo
    (subst (λ (is : List Cite). AreListsJudged (core_bounds inputs.settings.zones) c.rows is outer judgement) ei
    (subst (λ (rs : List RowProof). AreListsJudged (core_bounds inputs.settings.zones) rs inner outer judgement) er
    (subst (λ (bs : List Bounds). AreListsJudged bs rows inner outer judgement) eb h)))

pub halves_over : (half : RowProof → Half) (bounds core : List Bounds) (rows all : List RowProof) → bounds ≡ core
    → rows ≡ all
    → All (λ row. IsHalfOver (length core) (half row)) all → All (λ row. IsHalfOver (length bounds) (half row)) rows
halves_over half bounds core rows all eb er h =
    subst (λ (bs : List Bounds). All (λ row. IsHalfOver (length bs) (half row)) rows) (sym eb)
    (subst (λ (rs : List RowProof). All (λ row. IsHalfOver (length core) (half row)) rs) (sym er) h)

pub states_in_certificate : (inputs : Inputs) (c : Certificate) (states : List StateProof) (judgement : Judgement)
    → states ≡ c.states
    → IsJudged inputs c (beside (state_records inputs) inputs.states states) judgement
    → IsJudged inputs c (beside (state_records inputs) inputs.states c.states) judgement
states_in_certificate inputs c states judgement e h =
    subst (λ (ss : List StateProof). IsJudged inputs c (beside (state_records inputs) inputs.states ss) judgement) e h

-- Rows judged beside those that are due.
use Rattle.std.proofs.Common.{◌≡◌, ℕ, zero, suc, ◌+◌, ◌<◌, ◌≤◌, List, [], ◌∷◌, length, get_or, refl, sym, ap, subst, ◌∙◌, arith, inl, inr}
use Rattle.std.specs.Prelude.{Some, None}
use Rattle.std.specs.List.{AllZip}
use Rattle.cnec_rows.specs.declared.types.RowProof.{RowProof}
use Rattle.fb_certificate.specs.CracRows.{CracRow, crac_rows}
use Rattle.fb_certificate.specs.Valid.{IsRowOf}
use Rattle.fb_certificate.proofs.WholeLaws.{zip_length}
use Rattle.fb_certificate.specs.declared.types.Inputs.{Inputs}
use Rattle.fb_certificate.specs.declared.types.Certificate.{Certificate}
use Rattle.certificate_check.specs.declared.verdict.Reason.{Reason}
use Rattle.certificate_check.specs.declared.verdict.Reason.TheVariants as why
use Rattle.certificate_check.specs.declared.judgement.Judgement.TheVariants.{Passed, Failed}
use Rattle.certificate_check.specs.Judged.{IsJudged, AreRowsReached, AreRowsJudged}
use Rattle.certificate_check.specs.Records.{row, beside, row_records}
use Rattle.certificate_check.specs.Rulings.{RowRuling}
use Rattle.certificate_check.specs.Verdicts.{rank, Passes, FailsBy, IsFirstFailure}
use Rattle.certificate_check.proofs.Passing.{due_is_one}
use Rattle.certificate_check.proofs.Reaching.{begun, passes_one, fails_one}
use Rattle.certificate_check.proofs.Stepping.{part_passes, part_fails, part_lacks, part_exceeds, parts_pass}

record Found {X Y : Type 0} (R : X → Y → Type 0) (xs : List X) (i : ℕ) (y : Y) : Type 0 where
  x : X
  read : x ≡ get_or xs i x
  within : i < length xs
  holds : R x y

zip_there : {X Y : Type 0} (R : X → Y → Type 0) (xs : List X) (ys : List Y) (i : ℕ) (d : Y) → AllZip R xs ys
    → i < length ys → Found R xs i (get_or ys i d)
zip_there R [] [] i d h l = absurd (omega arith)
zip_there R [] (y ∷ ys) i d h l = absurd h
zip_there R (x ∷ xs) [] i d h l = absurd h
zip_there R (x ∷ xs) (y ∷ ys) zero d h l = record { x = x; read = refl; within = omega arith; holds = h.0 }
zip_there R (x ∷ xs) (y ∷ ys) (suc i) d h l =
    let rest = zip_there R xs ys i d h.1 (omega arith) in
    let within = rest.within in
    record { x = rest.x; read = rest.read; within = omega (arith, within); holds = rest.holds }

module _ (inputs : Inputs) (c : Certificate) (crac_row : CracRow) (due numbers : RowProof)
    (is : IsRowOf inputs c.states crac_row due) where
  row_passes : RowRuling due numbers None → Passes inputs c (row crac_row numbers)
  row_passes h = λ reason. (
    (λ e. record { due = due; is_due = is; agrees = h.0 }),
    (λ e. record { due = due; is_due = is; agrees = h.1 }),
    (λ e. record { due = due; is_due = is; agrees = (h.2, h.3) }),
  )

  row_fails : (reason : Reason) → RowRuling due numbers (Some reason) → FailsBy inputs c (row crac_row numbers) reason
  row_fails reason h = elim h [
    | inl f ↦ subst (FailsBy inputs c (row crac_row numbers)) (sym f.is) (record {
      fails = λ m. let d = m.0 refl in f.fails
          (d.agrees ∙ ap (λ (r : RowProof). r.class) (due_is_one inputs c crac_row d.due due d.is_due is));
      first = λ earlier l. (
        (λ e. let r = ap rank e in absurd (omega (arith, r, l))),
        (λ e. let r = ap rank e in absurd (omega (arith, r, l))),
        (λ e. let r = ap rank e in absurd (omega (arith, r, l))),
      );
    })
    | inr o ↦ elim o [
      | inl f ↦ subst (FailsBy inputs c (row crac_row numbers)) (sym f.is) (record {
        fails = λ m. let d = m.1 refl in f.fails
            (d.agrees ∙ ap (λ (r : RowProof). r.a) (due_is_one inputs c crac_row d.due due d.is_due is));
        first = λ earlier l. (
          (λ e. record { due = due; is_due = is; agrees = f.class }),
          (λ e. let r = ap rank e in absurd (omega (arith, r, l))),
          (λ e. let r = ap rank e in absurd (omega (arith, r, l))),
        );
      })
      | inr f ↦ subst (FailsBy inputs c (row crac_row numbers)) (sym f.is) (record {
        fails = λ m. let d = m.2 refl in let one = due_is_one inputs c crac_row d.due due d.is_due is in f.fails
            (d.agrees.0 ∙ ap (λ (r : RowProof). r.r_in) one, d.agrees.1 ∙ ap (λ (r : RowProof). r.r_out) one);
        first = λ earlier l. (
          (λ e. record { due = due; is_due = is; agrees = f.class }),
          (λ e. record { due = due; is_due = is; agrees = f.a }),
          (λ e. let r = ap rank e in absurd (omega (arith, r, l))),
        );
      })
    ]
  ]

module _ (due rows : List RowProof) where
  pub rows_begun : AreRowsReached due rows 0
  rows_begun inputs c zip = begun inputs c (beside row_records (crac_rows inputs.crac.elements) rows)

  pub one_row_passes : (i : ℕ) (d numbers : RowProof) → i < length due → i < length rows → d ≡ get_or due i d
      → numbers ≡ get_or rows i numbers → RowRuling d numbers None
      → AreRowsReached due rows i → AreRowsReached due rows (i + 1)
  one_row_passes i d numbers l m ed en ruling reached inputs c zip =
      let R = IsRowOf inputs c.states in
      let crac = crac_rows inputs.crac.elements in
      let found = zip_there R crac due i d zip l in
      let is = subst (λ (r : RowProof). IsRowOf inputs c.states found.x r) (sym ed) found.holds in
      part_passes inputs c row_records crac rows i i 1 found.x numbers found.within m found.read en
      (passes_one inputs c (row_records found.x numbers) [] (row found.x numbers) 0
      (row_passes inputs c found.x d numbers is ruling) (begun inputs c (row_records found.x numbers)))
      (reached inputs c zip)

  pub one_row_fails : (i : ℕ) (reason : Reason) (d numbers : RowProof) → i < length due → i < length rows
      → d ≡ get_or due i d → numbers ≡ get_or rows i numbers → RowRuling d numbers (Some reason)
      → AreRowsReached due rows i → AreRowsJudged due rows (Failed (i + 1) reason)
  one_row_fails i reason d numbers l m ed en ruling reached inputs c zip =
      let R = IsRowOf inputs c.states in
      let crac = crac_rows inputs.crac.elements in
      let found = zip_there R crac due i d zip l in
      let is = subst (λ (r : RowProof). IsRowOf inputs c.states found.x r) (sym ed) found.holds in
      part_fails inputs c row_records crac rows i i 1 reason found.x numbers found.within m found.read en
      (fails_one inputs c (row_records found.x numbers) [] (row found.x numbers) 0 reason
      (row_fails inputs c found.x d numbers is reason ruling) (begun inputs c (row_records found.x numbers)))
      (reached inputs c zip)

  pub rows_lack : (i : ℕ) (d : RowProof) → i < length due → length rows ≤ i → AreRowsReached due rows i
      → AreRowsJudged due rows (Failed (i + 1) why.Order)
  rows_lack i d l m reached inputs c zip =
      let found = zip_there (IsRowOf inputs c.states) (crac_rows inputs.crac.elements) due i d zip l in
      part_lacks inputs c row_records (crac_rows inputs.crac.elements) rows i i found.x found.within m
      (reached inputs c zip)

  pub rows_exceed : (i : ℕ) (r : RowProof) → i ≡ length due → i < length rows → AreRowsReached due rows i
      → AreRowsJudged due rows (Failed (length due + 1) why.Order)
  rows_exceed i r e m reached inputs c zip =
      let long = zip_length (IsRowOf inputs c.states) (crac_rows inputs.crac.elements) due zip in
      subst (λ (n : ℕ). IsFirstFailure inputs c (beside row_records (crac_rows inputs.crac.elements) rows)
      (n + 1) why.Order) e
      (part_exceeds inputs c row_records (crac_rows inputs.crac.elements) rows i i r (omega (arith, long, e)) m
      (reached inputs c zip))

  pub rows_pass : (i : ℕ) → i ≡ length due → length rows ≤ i → AreRowsReached due rows i
      → AreRowsJudged due rows (Passed (length due))
  rows_pass i e m reached inputs c zip =
      let long = zip_length (IsRowOf inputs c.states) (crac_rows inputs.crac.elements) due zip in
      subst (λ (n : ℕ). IsJudged inputs c (beside row_records (crac_rows inputs.crac.elements) rows) (Passed n)) e
      (parts_pass inputs c row_records (crac_rows inputs.crac.elements) rows i i (omega (arith, long, e)) m
      (reached inputs c zip))

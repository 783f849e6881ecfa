-- A file has one verdict, which comes of the verdict on its certificate and of its first wrong label.
use Rattle.std.proofs.Common.{◌≡◌, ℕ, ◌<◌, ◌≤◌, List, refl, sym, ap₂, ◌∙◌, subst, arith, inl, inr}
use Rattle.std.specs.Prelude.{Some}
use Rattle.std.proofs.lemmas.Option.{same_Some}
use Rattle.csv_rows.specs.Rows.{records_in}
use Rattle.fb_certificate.specs.declared.types.Certificate.{Certificate}
use Rattle.fb_certificate.specs.declared.types.Inputs.{Inputs}
use Rattle.certificate_check.specs.Verdicts.{IsVerdict}
use Rattle.certificate_check.specs.declared.verdict.Reason.{Reason}
use Rattle.certificate_check.specs.declared.verdict.Reason.TheVariants.{Order}
use Rattle.certificate_check.specs.declared.verdict.Verdict.{Verdict}
use Rattle.certificate_check.specs.declared.verdict.Verdict.TheVariants.{Yes, No}
use Rattle.certificate_check.proofs.Ones.{one_verdict}
use Rattle.certificate_labels.specs.Labels.{due_labels, AreLabelled}
use Rattle.certificate_labels.proofs.Comparisons.{one_answer}
use Rattle.certificate_files.specs.Files.{IsFirstMislabelled, FailsByLabel, FailsByRecord, IsFileVerdict}

module _ (inputs : Inputs) (bytes : List ℕ) (c : Certificate) where
  one_label : (m n : ℕ) → IsFirstMislabelled inputs bytes m → IsFirstMislabelled inputs bytes n → m ≡ n
  one_label m n h k = same_Some m n (one_answer (due_labels inputs) (records_in bytes) (Some m) (Some n) h k)

  one_failure : (m n : ℕ) (a b : Reason) → IsVerdict inputs c (No m a) → IsVerdict inputs c (No n b) → (m ≡ n) × (a ≡ b)
  one_failure m n a b h k = let same = one_verdict inputs c (No m a) (No n b) h k in (cc (same), cc (same))

  never_both : (n : ℕ) (r : Reason) → IsVerdict inputs c Yes → IsVerdict inputs c (No n r) → ⊥
  never_both n r h k = let same = one_verdict inputs c Yes (No n r) h k in absurd (cc (same))

  -- ---- One verdict

  yes_or_no : (n : ℕ) (r : Reason) → IsFileVerdict inputs bytes c Yes → IsFileVerdict inputs bytes c (No n r) → ⊥
  yes_or_no n r h (inl f) = h.1 f.label.place f.label.wrong
  yes_or_no n r h (inr f) = never_both n r h.0 f.failure

  label_or_record : (m n : ℕ) (a b : Reason) → FailsByLabel inputs bytes c m a → FailsByRecord inputs bytes c n b → ⊥
  label_or_record m n a b f g =
      let later = f.first n b g.failure in
      let sooner = g.first m f.label in
      omega (arith, later, sooner)

  same_no : (m n : ℕ) (a b : Reason) → IsFileVerdict inputs bytes c (No m a) → IsFileVerdict inputs bytes c (No n b)
      → (m ≡ n) × (a ≡ b)
  same_no m n a b (inl f) (inl g) = (one_label m n f.label g.label, f.is ∙ sym g.is)
  same_no m n a b (inl f) (inr g) = absurd (label_or_record m n a b f g)
  same_no m n a b (inr f) (inl g) = absurd (label_or_record n m b a g f)
  same_no m n a b (inr f) (inr g) = one_failure m n a b f.failure g.failure

  pub one_file_verdict : (v w : Verdict) → IsFileVerdict inputs bytes c v → IsFileVerdict inputs bytes c w → v ≡ w
  one_file_verdict Yes Yes h k = refl
  one_file_verdict Yes (No n b) h k = absurd (yes_or_no n b h k)
  one_file_verdict (No m a) Yes h k = absurd (yes_or_no m a k h)
  one_file_verdict (No m a) (No n b) h k =
      let same = same_no m n a b h k in ap₂ (λ (i : ℕ) (r : Reason). No i r) same.0 same.1

  -- ---- The verdict that comes first

  -- no label is wrong
  pub labels_due : (v : Verdict) → AreLabelled (due_labels inputs) (records_in bytes) → IsVerdict inputs c v
      → IsFileVerdict inputs bytes c v
  labels_due Yes right h = (h, right)
  labels_due (No n r) right h = inr (record { failure = h; first = λ k w. absurd (right w.place w.wrong) })

  -- a record fails before the first wrong label
  pub record_first : (row n : ℕ) (r : Reason) → IsFirstMislabelled inputs bytes row → IsVerdict inputs c (No n r)
      → n < row → IsFileVerdict inputs bytes c (No n r)
  record_first row n r wrong h before = inr (record {
    failure = h;
    first = λ k w. subst (λ (j : ℕ). n < j) (one_label row k wrong w) before;
  })

  -- no record fails before it
  pub label_first : (row n : ℕ) (r : Reason) → IsFirstMislabelled inputs bytes row → IsVerdict inputs c (No n r)
      → row ≤ n → IsFileVerdict inputs bytes c (No row Order)
  label_first row n r wrong h after = inl (record {
    label = wrong;
    is = refl;
    first = λ k q failure. subst (λ (j : ℕ). row ≤ j) (one_failure n k r q h failure).0 after;
  })

  pub label_alone : (row : ℕ) → IsFirstMislabelled inputs bytes row → IsVerdict inputs c Yes
      → IsFileVerdict inputs bytes c (No row Order)
  label_alone row wrong h = inl (record {
    label = wrong;
    is = refl;
    first = λ k q failure. absurd (never_both k q h failure);
  })

-- A certificate has one verdict.
use Rattle.std.proofs.Common.{◌≡◌, ℕ, zero, suc, ◌+◌, ◌<◌, List, [], ◌∷◌, ◌++◌, length, All, refl, sym, ap, ap₂, subst, ◌∙◌, arith, ◌⊎◌, inl, inr}
use Rattle.std.proofs.lemmas.List.Elements.{All-head, All-tail}
use Rattle.fb_certificate.specs.declared.types.Inputs.{Inputs}
use Rattle.fb_certificate.specs.declared.types.Certificate.{Certificate}
use Rattle.certificate_check.specs.declared.verdict.Reason.{Reason}
use Rattle.certificate_check.specs.declared.verdict.Reason.TheVariants as why
use Rattle.certificate_check.specs.declared.verdict.Verdict.{Verdict}
use Rattle.certificate_check.specs.declared.verdict.Verdict.TheVariants.{Yes, No}
use Rattle.certificate_check.specs.Records.{Record, records_of}
use Rattle.certificate_check.specs.Verdicts.{rank, Passes, FailsBy, IsFirstFailure, IsVerdict}
use Rattle.certificate_check.proofs.Passing.{all_back}

abbrev reason_at : ℕ → Reason
reason_at zero = why.Order
reason_at (suc zero) = why.Barrier
reason_at (suc (suc zero)) = why.Angle
reason_at (suc (suc (suc zero))) = why.Kappa
reason_at (suc (suc (suc (suc zero)))) = why.Class
reason_at (suc (suc (suc (suc (suc zero))))) = why.Coefficient
reason_at (suc (suc (suc (suc (suc (suc zero)))))) = why.RightSide
reason_at (suc (suc (suc (suc (suc (suc (suc zero))))))) = why.Cited
reason_at (suc (suc (suc (suc (suc (suc (suc (suc n)))))))) = why.Follows

reason_of_rank : (r : Reason) → reason_at (rank r) ≡ r
reason_of_rank why.Order = refl
reason_of_rank why.Barrier = refl
reason_of_rank why.Angle = refl
reason_of_rank why.Kappa = refl
reason_of_rank why.Class = refl
reason_of_rank why.Coefficient = refl
reason_of_rank why.RightSide = refl
reason_of_rank why.Cited = refl
reason_of_rank why.Follows = refl

rank_one : (a b : Reason) → rank a ≡ rank b → a ≡ b
rank_one a b e = sym (reason_of_rank a) ∙ (ap reason_at e ∙ reason_of_rank b)

trichotomy : (m n : ℕ) → (m ≡ n) ⊎ ((m < n) ⊎ (n < m))
trichotomy zero zero = inl refl
trichotomy zero (suc n) = inr (inl (omega arith))
trichotomy (suc m) zero = inr (inr (omega arith))
trichotomy (suc m) (suc n) = elim (trichotomy m n) [
  | inl e ↦ inl (ap suc e)
  | inr o ↦ elim o [ inl l ↦ inr (inl (omega (arith, l))) | inr l ↦ inr (inr (omega (arith, l))) ]
]

abbrev head_or : {X : Type 0} → X → List X → X
head_or d [] = d
head_or d (x ∷ xs) = x

abbrev tail_of : {X : Type 0} → List X → List X
tail_of [] = []
tail_of (x ∷ xs) = xs

-- two ways to part a list at the first item of which P does not hold
first_one : {X : Type 0} (P : X → Type 0) (xs ys us vs : List X) (x y : X) → xs ++ x ∷ us ≡ ys ++ y ∷ vs → All P xs
    → All P ys → (P x → ⊥) → (P y → ⊥) → (length xs ≡ length ys) × (x ≡ y)
first_one P [] [] us vs x y e hx hy nx ny = (refl, ap (head_or x) e)
first_one P [] (b ∷ ys) us vs x y e hx hy nx ny = absurd (nx (subst P (sym (ap (head_or x) e)) (All-head P b ys hy)))
first_one P (a ∷ xs) [] us vs x y e hx hy nx ny = absurd (ny (subst P (ap (head_or a) e) (All-head P a xs hx)))
first_one P (a ∷ xs) (b ∷ ys) us vs x y e hx hy nx ny =
    let rest = first_one P xs ys us vs x y (ap tail_of e) (All-tail P a xs hx) (All-tail P b ys hy) nx ny in
    (ap suc rest.0, rest.1)

module _ (inputs : Inputs) (c : Certificate) where
  no_pass : (r : Record) (reason : Reason) → FailsBy inputs c r reason → Passes inputs c r → ⊥
  no_pass r reason f p = f.fails (p reason)

  one_reason : (r : Record) (a b : Reason) → FailsBy inputs c r a → FailsBy inputs c r b → a ≡ b
  one_reason r a b ha hb = elim (trichotomy (rank a) (rank b)) [
    | inl e ↦ rank_one a b e
    | inr o ↦ elim o [ inl l ↦ absurd (ha.fails (hb.first a l)) | inr l ↦ absurd (hb.fails (ha.first b l)) ]
  ]

  never_both : (records : List Record) (n : ℕ) (reason : Reason) → All (Passes inputs c) records
      → IsFirstFailure inputs c records n reason → ⊥
  never_both records n reason h f =
      no_pass f.here reason f.failed (All-head (Passes inputs c) f.here f.after
      (all_back (Passes inputs c) f.before (f.here ∷ f.after) (subst (All (Passes inputs c)) f.parts h)))

  one_failure : (records : List Record) (m n : ℕ) (a b : Reason) → IsFirstFailure inputs c records m a
      → IsFirstFailure inputs c records n b → (m ≡ n) × (a ≡ b)
  one_failure records m n a b f g =
      let same = first_one (Passes inputs c) f.before g.before f.after g.after f.here g.here
      (sym f.parts ∙ g.parts) f.passed g.passed (no_pass f.here a f.failed) (no_pass g.here b g.failed) in (
        f.place ∙ (ap (λ (k : ℕ). k + 1) same.0 ∙ sym g.place),
        one_reason g.here a b
            (subst (λ (r : Record). FailsBy inputs c r a) same.1 f.failed) g.failed,
      )

  pub one_verdict : (v w : Verdict) → IsVerdict inputs c v → IsVerdict inputs c w → v ≡ w
  one_verdict Yes Yes h k = refl
  one_verdict Yes (No n b) h k = absurd (never_both (records_of inputs c) n b h k)
  one_verdict (No m a) Yes h k = absurd (never_both (records_of inputs c) m a k h)
  one_verdict (No m a) (No n b) h k =
      let same = one_failure (records_of inputs c) m n a b h k in ap₂ (λ (i : ℕ) (r : Reason). No i r) same.0 same.1

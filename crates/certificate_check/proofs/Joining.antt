-- The judgements of parts, one after another, and of all states from those of each.
use Rattle.std.proofs.Common.{◌≡◌, ℕ, suc, ◌+◌, ◌≤◌, List, [], ◌∷◌, ◌++◌, length, refl, sym, ap, subst, ◌∙◌, arith}
use Rattle.std.specs.List.{AllZip, zip}
use Rattle.grid_state.specs.GridState.{GridState}
use Rattle.state_proofs.specs.declared.StateProof.{StateProof}
use Rattle.fb_certificate.specs.declared.types.Inputs.{Inputs}
use Rattle.fb_certificate.specs.declared.types.Certificate.{Certificate}
use Rattle.certificate_check.specs.Judged.{number_of, followed, joined, IsJudged, IsStateJudged, AreEachJudged, AreStatesJudged}
use Rattle.certificate_check.specs.Records.{Record, misplaced, beside, state_records}
use Rattle.certificate_check.specs.declared.judgement.Judgement.{Judgement}
use Rattle.certificate_check.specs.declared.judgement.Judgement.TheVariants.{Passed, Failed}
use Rattle.certificate_check.specs.declared.verdict.Reason.TheVariants as why
use Rattle.certificate_check.proofs.Reaching.{begun, fails_one, judged_behind, with_rest, fails_with_rest, misplaced_fails}

-- ---- one judgement after another

followed_more : (a b c : Judgement) → followed (followed a b) c ≡ followed a (followed b c)
followed_more (Failed n reason) b c = refl
followed_more (Passed m) (Failed n reason) c = refl
followed_more (Passed m) (Passed n) (Passed k) = let e : m + n + k ≡ m + (n + k) = omega arith in ap Passed e
followed_more (Passed m) (Passed n) (Failed k reason) =
    let e : m + n + k ≡ m + (n + k) = omega arith in ap (λ (number : ℕ). Failed number reason) e

followed_none : (a : Judgement) → followed a (Passed 0) ≡ a
followed_none (Passed n) = let e : n + 0 ≡ n = omega arith in ap Passed e
followed_none (Failed n reason) = refl

-- ---- the records of states beside their proofs

-- what becomes of lists that stand beside each other, past the end of either
abbrev left_over : {X Y : Type 0} → List X → List Y → Judgement
left_over [] [] = Passed 0
left_over [] (y ∷ ys) = Failed 1 why.Order
left_over (x ∷ xs) [] = Failed 1 why.Order
left_over (x ∷ xs) (y ∷ ys) = left_over xs ys

left_over-even : {X Y : Type 0} (xs : List X) (ys : List Y) → length xs ≡ length ys → left_over xs ys ≡ Passed 0
left_over-even [] [] e = refl
left_over-even [] (y ∷ ys) e = absurd (omega (arith, e))
left_over-even (x ∷ xs) [] e = absurd (omega (arith, e))
left_over-even (x ∷ xs) (y ∷ ys) e = left_over-even xs ys (omega (arith, e))

left_over-uneven : {X Y : Type 0} (xs : List X) (ys : List Y) → (length xs ≡ length ys → ⊥)
    → left_over xs ys ≡ Failed 1 why.Order
left_over-uneven [] [] n = absurd (n refl)
left_over-uneven [] (y ∷ ys) n = refl
left_over-uneven (x ∷ xs) [] n = refl
left_over-uneven (x ∷ xs) (y ∷ ys) n =
    left_over-uneven xs ys (λ e. n (let f : suc (length xs) ≡ suc (length ys) = ap suc e in f))

module _ (inputs : Inputs) (c : Certificate) where
  both : (part rest : List Record) (a b : Judgement) → IsJudged inputs c part a → IsJudged inputs c rest b
      → IsJudged inputs c (part ++ rest) (followed a b)
  both part rest (Passed n) b h k =
      judged_behind inputs c (part ++ rest) rest n b (with_rest inputs c part [] rest n h) k
  both part rest (Failed n reason) b h k = fails_with_rest inputs c part rest n reason h

  misplaced_alone : IsJudged inputs c (misplaced ∷ []) (Failed 1 why.Order)
  misplaced_alone =
      fails_one inputs c (misplaced ∷ []) [] misplaced 0 why.Order (misplaced_fails inputs c)
      (begun inputs c (misplaced ∷ []))

  each_joined : (states : List GridState) (proofs : List StateProof) (js : List Judgement)
      → AllZip (λ claim j. IsStateJudged inputs claim.0 claim.1 j × (number_of j ≤ 303)) (zip states proofs) js
      → IsJudged inputs c (beside (state_records inputs) states proofs) (followed (joined js) (left_over states proofs))
  each_joined [] [] [] h = begun inputs c []
  each_joined [] [] (j ∷ js) h = absurd h
  each_joined [] (p ∷ ps) [] h = misplaced_alone
  each_joined [] (p ∷ ps) (j ∷ js) h = absurd h
  each_joined (s ∷ ss) [] [] h = misplaced_alone
  each_joined (s ∷ ss) [] (j ∷ js) h = absurd h
  each_joined (s ∷ ss) (p ∷ ps) [] h = absurd h
  each_joined (s ∷ ss) (p ∷ ps) (j ∷ js) h =
      let rest = beside (state_records inputs) ss ps in
      subst (IsJudged inputs c (state_records inputs s p ++ rest))
      (sym (followed_more j (joined js) (left_over ss ps)))
      (both (state_records inputs s p) rest j (followed (joined js) (left_over ss ps)) (h.0.0 c)
      (each_joined ss ps js h.1))

module _ (inputs : Inputs) (proofs : List StateProof) (js : List Judgement) (each : AreEachJudged inputs proofs js) where
  pub even_judged : (judgement : Judgement) → length inputs.states ≡ length proofs → judgement ≡ joined js
      → AreStatesJudged inputs proofs judgement
  even_judged judgement even e =
      λ c. subst (IsJudged inputs c (beside (state_records inputs) inputs.states proofs))
      (ap (followed (joined js)) (left_over-even inputs.states proofs even) ∙ (followed_none (joined js) ∙ sym e))
      (each_joined inputs c inputs.states proofs js each)

  pub uneven_judged : (judgement : Judgement) → (length inputs.states ≡ length proofs → ⊥)
      → judgement ≡ followed (joined js) (Failed 1 why.Order) → AreStatesJudged inputs proofs judgement
  uneven_judged judgement uneven e =
      λ c. subst (IsJudged inputs c (beside (state_records inputs) inputs.states proofs))
      (ap (followed (joined js)) (left_over-uneven inputs.states proofs uneven) ∙ sym e)
      (each_joined inputs c inputs.states proofs js each)

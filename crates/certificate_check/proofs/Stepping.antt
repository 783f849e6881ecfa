-- Parts judged one after another.
use Rattle.std.proofs.Common.{◌≡◌, ℕ, ◌+◌, ◌<◌, ◌≤◌, List, [], ◌∷◌, ◌++◌, length, map, drop, get_or, sym, subst, ◌∙◌}
use Rattle.std.specs.Prelude.{Some, None}
use Rattle.std.proofs.lemmas.List.{drop_more}
use Rattle.grid_state.specs.GridState.{GridState}
use Rattle.security.specs.Balances.{reference_side, block_side}
use Rattle.state_proofs.specs.StateProofs.{all_blocks}
use Rattle.state_proofs.specs.declared.StateProof.{StateProof}
use Rattle.fb_certificate.specs.declared.types.Inputs.{Inputs}
use Rattle.fb_certificate.specs.declared.types.Certificate.{Certificate}
use Rattle.certificate_check.specs.declared.verdict.Reason.{Reason}
use Rattle.certificate_check.specs.declared.verdict.Reason.TheVariants as why
use Rattle.certificate_check.specs.declared.judgement.Judgement.{Judgement}
use Rattle.certificate_check.specs.declared.judgement.Judgement.TheVariants.{Passed}
use Rattle.certificate_check.specs.Judged.{behind, IsReached, IsJudged, AreZonesJudged}
use Rattle.certificate_check.specs.Records.{Record, mark, misplaced, barrier, column, beside, column_records, state_records}
use Rattle.certificate_check.specs.Rulings.{ColumnRuling, BarrierRuling}
use Rattle.certificate_check.specs.Verdicts.{IsFirstFailure}
use Rattle.certificate_check.proofs.Reaching.{begun, passes_one, fails_one, passes_part, fails_part, judged_behind, with_rest, fails_with_rest, misplaced_fails, column_passes, column_fails, barrier_passes, barrier_fails, drop_all}

-- ---- parts beside those that are due

module _ {X Y : Type 0} (inputs : Inputs) (c : Certificate) (f : X → Y → List Record) (xs : List X) (ys : List Y) where
  pub parts_begun : IsReached inputs c (beside f xs ys) (beside f xs ys) 0
  parts_begun = begun inputs c (beside f xs ys)

  part_next : (i : ℕ) (x : X) (y : Y) → i < length xs → i < length ys → x ≡ get_or xs i x → y ≡ get_or ys i y
      → beside f (drop i xs) (drop i ys) ≡ f x y ++ beside f (drop (i + 1) xs) (drop (i + 1) ys)
  part_next i x y l m ex ey =
      (λ t. beside f (drop_more xs i x l t) (drop_more ys i y m t))
      ∙ (λ t. f (sym ex t) (sym ey t) ++ beside f (drop (i + 1) xs) (drop (i + 1) ys))

  pub part_passes : (i m n : ℕ) (x : X) (y : Y) → i < length xs → i < length ys → x ≡ get_or xs i x
      → y ≡ get_or ys i y → IsJudged inputs c (f x y) (Passed n)
      → IsReached inputs c (beside f xs ys) (beside f (drop i xs) (drop i ys)) m
      → IsReached inputs c (beside f xs ys) (beside f (drop (i + 1) xs) (drop (i + 1) ys)) (m + n)
  part_passes i m n x y l k ex ey judged reached =
      let rest = beside f (drop (i + 1) xs) (drop (i + 1) ys) in
      passes_part inputs c (beside f xs ys) (f x y ++ rest) rest m n
      (subst (λ (rs : List Record). IsReached inputs c (beside f xs ys) rs m) (part_next i x y l k ex ey) reached)
      (with_rest inputs c (f x y) [] rest n judged)

  pub part_fails : (i m n : ℕ) (reason : Reason) (x : X) (y : Y) → i < length xs → i < length ys → x ≡ get_or xs i x
      → y ≡ get_or ys i y → IsFirstFailure inputs c (f x y) n reason
      → IsReached inputs c (beside f xs ys) (beside f (drop i xs) (drop i ys)) m
      → IsFirstFailure inputs c (beside f xs ys) (m + n) reason
  part_fails i m n reason x y l k ex ey failed reached =
      let rest = beside f (drop (i + 1) xs) (drop (i + 1) ys) in
      fails_part inputs c (beside f xs ys) (f x y ++ rest) m n reason
      (subst (λ (rs : List Record). IsReached inputs c (beside f xs ys) rs m) (part_next i x y l k ex ey) reached)
      (fails_with_rest inputs c (f x y) rest n reason failed)

  pub part_lacks : (i m : ℕ) (x : X) → i < length xs → length ys ≤ i
      → IsReached inputs c (beside f xs ys) (beside f (drop i xs) (drop i ys)) m
      → IsFirstFailure inputs c (beside f xs ys) (m + 1) why.Order
  part_lacks i m x l k reached =
      fails_one inputs c (beside f xs ys) [] misplaced m why.Order (misplaced_fails inputs c)
      (subst (λ (rs : List Record). IsReached inputs c (beside f xs ys) rs m)
      (λ t. beside f (drop_more xs i x l t) (drop_all i ys k t)) reached)

  pub part_exceeds : (i m : ℕ) (y : Y) → length xs ≤ i → i < length ys
      → IsReached inputs c (beside f xs ys) (beside f (drop i xs) (drop i ys)) m
      → IsFirstFailure inputs c (beside f xs ys) (m + 1) why.Order
  part_exceeds i m y l k reached =
      fails_one inputs c (beside f xs ys) [] misplaced m why.Order (misplaced_fails inputs c)
      (subst (λ (rs : List Record). IsReached inputs c (beside f xs ys) rs m)
      (λ t. beside f (drop_all i xs l t) (drop_more ys i y k t)) reached)

  pub parts_pass : (i m : ℕ) → length xs ≤ i → length ys ≤ i
      → IsReached inputs c (beside f xs ys) (beside f (drop i xs) (drop i ys)) m
      → IsJudged inputs c (beside f xs ys) (Passed m)
  parts_pass i m l k reached =
      subst (λ (rs : List Record). IsReached inputs c (beside f xs ys) rs m)
      (λ t. beside f (drop_all i xs l t) (drop_all i ys k t)) reached

-- ---- a state

module _ (inputs : Inputs) (c : Certificate) (s : GridState) (proof : StateProof) where
  at_barrier : IsReached inputs c (state_records inputs s proof)
      (barrier s proof.barrier ∷ column s (reference_side s inputs.grid) proof.reference ∷ beside (column_records s)
      (map (block_side s) (all_blocks inputs.keys.columns)) proof.blocks) 1
  at_barrier =
      let left = barrier s proof.barrier ∷ column s (reference_side s inputs.grid) proof.reference ∷ beside
      (column_records s) (map (block_side s) (all_blocks inputs.keys.columns)) proof.blocks in
      passes_one inputs c (state_records inputs s proof) left mark 0 (λ reason. tt)
      (begun inputs c (state_records inputs s proof))

  at_reference : BarrierRuling s proof.barrier None
      → IsReached inputs c (state_records inputs s proof)
      (column s (reference_side s inputs.grid) proof.reference ∷ beside (column_records s)
      (map (block_side s) (all_blocks inputs.keys.columns)) proof.blocks) 2
  at_reference h =
      let left = column s (reference_side s inputs.grid) proof.reference ∷ beside (column_records s)
      (map (block_side s) (all_blocks inputs.keys.columns)) proof.blocks in
      passes_one inputs c (state_records inputs s proof) left (barrier s proof.barrier) 1
      (barrier_passes inputs c s proof.barrier h) at_barrier

  at_zones : BarrierRuling s proof.barrier None → ColumnRuling s (reference_side s inputs.grid) proof.reference None
      → IsReached inputs c (state_records inputs s proof)
      (beside (column_records s) (map (block_side s) (all_blocks inputs.keys.columns)) proof.blocks) 3
  at_zones h k =
      passes_one inputs c (state_records inputs s proof)
      (beside (column_records s) (map (block_side s) (all_blocks inputs.keys.columns)) proof.blocks)
      (column s (reference_side s inputs.grid) proof.reference) 2
      (column_passes inputs c s (reference_side s inputs.grid) proof.reference k) (at_reference h)

  pub state_barrier_fails : (reason : Reason) → BarrierRuling s proof.barrier (Some reason)
      → IsFirstFailure inputs c (state_records inputs s proof) 2 reason
  state_barrier_fails reason h =
      fails_one inputs c (state_records inputs s proof)
      (column s (reference_side s inputs.grid) proof.reference ∷ beside (column_records s)
      (map (block_side s) (all_blocks inputs.keys.columns)) proof.blocks) (barrier s proof.barrier) 1 reason
      (barrier_fails inputs c s proof.barrier reason h) at_barrier

  pub state_reference_fails : (reason : Reason) → BarrierRuling s proof.barrier None
      → ColumnRuling s (reference_side s inputs.grid) proof.reference (Some reason)
      → IsFirstFailure inputs c (state_records inputs s proof) 3 reason
  state_reference_fails reason h k =
      fails_one inputs c (state_records inputs s proof)
      (beside (column_records s) (map (block_side s) (all_blocks inputs.keys.columns)) proof.blocks)
      (column s (reference_side s inputs.grid) proof.reference) 2 reason
      (column_fails inputs c s (reference_side s inputs.grid) proof.reference reason k) (at_reference h)

  pub state_judged : (judgement : Judgement) → BarrierRuling s proof.barrier None
      → ColumnRuling s (reference_side s inputs.grid) proof.reference None
      → AreZonesJudged s inputs.keys.columns proof.blocks judgement
      → IsJudged inputs c (state_records inputs s proof) (behind 3 judgement)
  state_judged judgement h k z =
      judged_behind inputs c (state_records inputs s proof)
      (beside (column_records s) (map (block_side s) (all_blocks inputs.keys.columns)) proof.blocks) 3 judgement
      (at_zones h k) (z inputs c)

-- Records judged part by part.
use Rattle.std.proofs.Common.{◌≡◌, ℕ, zero, suc, ◌+◌, ◌<◌, ◌≤◌, List, [], ◌∷◌, ◌++◌, length, map, drop, get_or, All, ℤ, refl, sym, ap, subst, ◌∙◌, arith, append_assoc, length-append, inl, inr}
use Rattle.std.specs.Prelude.{Option, Some, None}
use Rattle.std.proofs.lemmas.List.{drop_more, append-nil, map-append}
use Rattle.fb_types.specs.declared.keys.Block.{Block}
use Rattle.fb_types.specs.declared.keys.Column.{Column}
use Rattle.security.specs.Balances.{block_side}
use Rattle.state_proofs.specs.StateProofs.{all_blocks}
use Rattle.std.proofs.lemmas.List.Elements.{All-cons, All-nil, All-append}
use Rattle.fb_types.specs.declared.rows.Angles.{Angles}
use Rattle.grid_state.specs.GridState.{GridState}
use Rattle.fb_certificate.specs.declared.types.Inputs.{Inputs}
use Rattle.fb_certificate.specs.declared.types.Certificate.{Certificate}
use Rattle.certificate_check.specs.declared.verdict.Reason.{Reason}
use Rattle.certificate_check.specs.declared.verdict.Reason.TheVariants as why
use Rattle.certificate_check.specs.declared.judgement.Judgement.{Judgement}
use Rattle.certificate_check.specs.declared.judgement.Judgement.TheVariants.{Passed, Failed}
use Rattle.certificate_check.specs.Judged.{behind, IsReached, IsJudged, AreBlocksReached, AreBlocksJudged, AreZonesReached, AreZonesJudged}
use Rattle.certificate_check.specs.Records.{Record, misplaced, barrier, column, beside, column_records}
use Rattle.certificate_check.specs.Rulings.{ColumnRuling, BarrierRuling}
use Rattle.certificate_check.specs.Verdicts.{rank, Passes, FailsBy, IsFirstFailure}

-- what holds of the first reason for which something fails, where there is none
pub where_none : (P : Option Reason → Type 0) (found : Option Reason) → ((reason : Reason) → found ≡ Some reason → ⊥)
    → P found → P None
where_none P None none h = h
where_none P (Some reason) none h = absurd (none reason refl)

pub drop_all : {X : Type 0} (n : ℕ) (xs : List X) → length xs ≤ n → drop n xs ≡ []
drop_all zero [] l = refl
drop_all zero (x ∷ xs) l = absurd (omega arith)
drop_all (suc n) [] l = refl
drop_all (suc n) (x ∷ xs) l = drop_all n xs (omega arith)

module _ (inputs : Inputs) (c : Certificate) where
  -- ---- any records

  pub begun : (whole : List Record) → IsReached inputs c whole whole 0
  begun whole = record { before = []; parts = refl; counted = refl; passed = All-nil (Passes inputs c) }

  pub passes_one : (whole left : List Record) (here : Record) (n : ℕ) → Passes inputs c here
      → IsReached inputs c whole (here ∷ left) n → IsReached inputs c whole left (n + 1)
  passes_one whole left here n p h = record {
    before = h.before ++ here ∷ [];
    parts = h.parts ∙ sym (append_assoc h.before (here ∷ []) left);
    counted = let e = h.counted in let l = length-append h.before (here ∷ []) in omega (arith, e, l);
    passed = All-append (Passes inputs c) h.before (here ∷ []) h.passed
        (All-cons (Passes inputs c) here [] p (All-nil (Passes inputs c)));
  }

  pub fails_one : (whole left : List Record) (here : Record) (n : ℕ) (reason : Reason) → FailsBy inputs c here reason
      → IsReached inputs c whole (here ∷ left) n → IsFirstFailure inputs c whole (n + 1) reason
  fails_one whole left here n reason f h = record {
    before = h.before;
    here = here;
    after = left;
    parts = h.parts;
    place = ap (λ (k : ℕ). k + 1) h.counted;
    passed = h.passed;
    failed = f;
  }

  pub passes_part : (whole part left : List Record) (m n : ℕ) → IsReached inputs c whole part m
      → IsReached inputs c part left n → IsReached inputs c whole left (m + n)
  passes_part whole part left m n h k = record {
    before = h.before ++ k.before;
    parts = h.parts ∙ (ap (λ (xs : List Record). h.before ++ xs) k.parts ∙ sym (append_assoc h.before k.before left));
    counted = let e = h.counted in let f = k.counted in let l = length-append h.before k.before in omega
        (arith, e, f, l);
    passed = All-append (Passes inputs c) h.before k.before h.passed k.passed;
  }

  pub fails_part : (whole part : List Record) (m n : ℕ) (reason : Reason) → IsReached inputs c whole part m
      → IsFirstFailure inputs c part n reason → IsFirstFailure inputs c whole (m + n) reason
  fails_part whole part m n reason h f = record {
    before = h.before ++ f.before;
    here = f.here;
    after = f.after;
    parts = h.parts ∙ (ap (λ (xs : List Record). h.before ++ xs) f.parts
        ∙ sym (append_assoc h.before f.before (f.here ∷ f.after)));
    place = let e = h.counted in let g = f.place in let l = length-append h.before f.before in omega (arith, e, g, l);
    passed = All-append (Passes inputs c) h.before f.before h.passed f.passed;
    failed = f.failed;
  }

  -- a part is judged behind so many records that pass
  pub judged_behind : (whole part : List Record) (before : ℕ) (judgement : Judgement)
      → IsReached inputs c whole part before → IsJudged inputs c part judgement
      → IsJudged inputs c whole (behind before judgement)
  judged_behind whole part before (Passed count) h k = passes_part whole part [] before count h k
  judged_behind whole part before (Failed number reason) h k = fails_part whole part before number reason h k

  -- what stands behind a part is left
  pub with_rest : (part left rest : List Record) (n : ℕ) → IsReached inputs c part left n
      → IsReached inputs c (part ++ rest) (left ++ rest) n
  with_rest part left rest n h = record {
    before = h.before;
    parts = ap (λ (xs : List Record). xs ++ rest) h.parts ∙ append_assoc h.before left rest;
    counted = h.counted;
    passed = h.passed;
  }

  pub fails_with_rest : (part rest : List Record) (n : ℕ) (reason : Reason) → IsFirstFailure inputs c part n reason
      → IsFirstFailure inputs c (part ++ rest) n reason
  fails_with_rest part rest n reason f = record {
    before = f.before;
    here = f.here;
    after = f.after ++ rest;
    parts = ap (λ (xs : List Record). xs ++ rest) f.parts ∙ append_assoc f.before (f.here ∷ f.after) rest;
    place = f.place;
    passed = f.passed;
    failed = f.failed;
  }

  pub all_passed : (whole : List Record) (n : ℕ) → IsReached inputs c whole [] n → All (Passes inputs c) whole
  all_passed whole n h = subst (All (Passes inputs c)) (sym (h.parts ∙ append-nil h.before)) h.passed

  -- ---- records side by side

  pub misplaced_fails : FailsBy inputs c misplaced why.Order
  misplaced_fails = record { fails = λ h. h refl; first = λ earlier l. absurd (omega (arith, l)) }

  -- ---- columns and barriers

  pub column_passes : (s : GridState) (p : List ℤ) (angles : Angles) → ColumnRuling s p angles None
      → Passes inputs c (column s p angles)
  column_passes s p angles h = λ reason. ((λ e. h.0), (λ e. h.1))

  pub column_fails : (s : GridState) (p : List ℤ) (angles : Angles) (reason : Reason)
      → ColumnRuling s p angles (Some reason) → FailsBy inputs c (column s p angles) reason
  column_fails s p angles reason h = elim h [
    | inl a ↦ subst (FailsBy inputs c (column s p angles)) (sym a.is) (record {
      fails = λ m. a.fails (m.0 refl);
      first = λ earlier l. (
        (λ e. let r = ap rank e in absurd (omega (arith, r, l))),
        (λ e. let r = ap rank e in absurd (omega (arith, r, l))),
      );
    })
    | inr k ↦ subst (FailsBy inputs c (column s p angles)) (sym k.is) (record {
      fails = λ m. let e = m.1 refl k.less in let some = k.some in absurd (omega (arith, e, some));
      first = λ earlier l. ((λ e. k.column), (λ e. let r = ap rank e in absurd (omega (arith, r, l))));
    })
  ]

  pub barrier_passes : (s : GridState) (v : List ℤ) → BarrierRuling s v None → Passes inputs c (barrier s v)
  barrier_passes s v h = λ reason e. h

  pub barrier_fails : (s : GridState) (v : List ℤ) (reason : Reason) → BarrierRuling s v (Some reason)
      → FailsBy inputs c (barrier s v) reason
  barrier_fails s v reason h = subst (FailsBy inputs c (barrier s v)) (sym h.is) (record {
    fails = λ m. h.fails (m refl);
    first = λ earlier l e. let r = ap rank e in absurd (omega (arith, r, l));
  })

-- ---- the columns of blocks

module _ (s : GridState) (blocks : List Block) (columns : List Angles) (first : ℕ) where
  block_next : (rest : List (List ℤ)) (i j : ℕ) (b : Block) (x : Angles) → i < length blocks → j < length columns
      → beside (column_records s) (map (block_side s) (drop i blocks) ++ rest) (drop j columns)
      ≡ column s (block_side s (get_or blocks i b)) (get_or columns j x) ∷ beside (column_records s)
      (map (block_side s) (drop (i + 1) blocks) ++ rest) (drop (j + 1) columns)
  block_next rest i j b x l m =
      λ t. beside (column_records s) (map (block_side s) (drop_more blocks i b l t) ++ rest) (drop_more columns j x m t)

  block_missing : (rest : List (List ℤ)) (i j : ℕ) (b : Block) → i < length blocks → length columns ≤ j
      → beside (column_records s) (map (block_side s) (drop i blocks) ++ rest) (drop j columns) ≡ misplaced ∷ []
  block_missing rest i j b l m =
      λ t. beside (column_records s) (map (block_side s) (drop_more blocks i b l t) ++ rest) (drop_all j columns m t)

  pub blocks_begun : AreBlocksReached s blocks columns first 0
  blocks_begun inputs c rest =
      let none : first ≡ first + 0 = omega arith in
      subst (λ (n : ℕ). IsReached inputs c
      (beside (column_records s) (map (block_side s) blocks ++ rest) (drop first columns))
      (beside (column_records s) (map (block_side s) blocks ++ rest) (drop n columns)) 0) none
      (begun inputs c (beside (column_records s) (map (block_side s) blocks ++ rest) (drop first columns)))

  pub block_passes : (i : ℕ) (b : Block) (x : Angles) → i < length blocks → first + i < length columns
      → b ≡ get_or blocks i b → x ≡ get_or columns (first + i) x
      → ColumnRuling s (block_side s b) x None → AreBlocksReached s blocks columns first i
      → AreBlocksReached s blocks columns first (i + 1)
  block_passes i b x l m eb ex h reached inputs c rest =
      let whole = beside (column_records s) (map (block_side s) blocks ++ rest) (drop first columns) in
      let left = beside (column_records s) (map (block_side s) (drop (i + 1) blocks) ++ rest)
      (drop (first + i + 1) columns) in
      let here = column s (block_side s b) x in
      let same : column s (block_side s (get_or blocks i b)) (get_or columns (first + i) x) ≡ here = λ t. column s
      (block_side s (sym eb t)) (sym ex t) in
      let next : first + i + 1 ≡ first + (i + 1) = omega arith in
      subst (λ (n : ℕ). IsReached inputs c whole
      (beside (column_records s) (map (block_side s) (drop (i + 1) blocks) ++ rest) (drop n columns)) (i + 1)) next
      (passes_one inputs c whole left here i (column_passes inputs c s (block_side s b) x h)
      (subst (λ (rs : List Record). IsReached inputs c whole rs i)
      (block_next rest i (first + i) b x l m ∙ ap (λ (r : Record). r ∷ left) same) (reached inputs c rest)))

  pub block_fails : (i : ℕ) (b : Block) (x : Angles) (reason : Reason) → i < length blocks
      → first + i < length columns → b ≡ get_or blocks i b → x ≡ get_or columns (first + i) x
      → ColumnRuling s (block_side s b) x (Some reason) → AreBlocksReached s blocks columns first i
      → AreBlocksJudged s blocks columns first (Failed (i + 1) reason)
  block_fails i b x reason l m eb ex h reached inputs c rest =
      let whole = beside (column_records s) (map (block_side s) blocks ++ rest) (drop first columns) in
      let left = beside (column_records s) (map (block_side s) (drop (i + 1) blocks) ++ rest)
      (drop (first + i + 1) columns) in
      let here = column s (block_side s b) x in
      let same : column s (block_side s (get_or blocks i b)) (get_or columns (first + i) x) ≡ here = λ t. column s
      (block_side s (sym eb t)) (sym ex t) in
      fails_one inputs c whole left here i reason (column_fails inputs c s (block_side s b) x reason h)
      (subst (λ (rs : List Record). IsReached inputs c whole rs i)
      (block_next rest i (first + i) b x l m ∙ ap (λ (r : Record). r ∷ left) same) (reached inputs c rest))

  pub block_lacks : (i : ℕ) (b : Block) → i < length blocks → length columns ≤ first + i
      → AreBlocksReached s blocks columns first i → AreBlocksJudged s blocks columns first (Failed (i + 1) why.Order)
  block_lacks i b l m reached inputs c rest =
      let whole = beside (column_records s) (map (block_side s) blocks ++ rest) (drop first columns) in
      fails_one inputs c whole [] misplaced i why.Order (misplaced_fails inputs c)
      (subst (λ (rs : List Record). IsReached inputs c whole rs i) (block_missing rest i (first + i) b l m)
      (reached inputs c rest))

  pub blocks_pass : (i : ℕ) → i ≡ length blocks → AreBlocksReached s blocks columns first i
      → AreBlocksJudged s blocks columns first (Passed (length blocks))
  blocks_pass i e reached inputs c rest =
      let whole = beside (column_records s) (map (block_side s) blocks ++ rest) (drop first columns) in
      subst (λ (bs : List Block). IsReached inputs c whole
      (beside (column_records s) (map (block_side s) bs ++ rest) (drop (first + length blocks) columns))
      (length blocks)) (drop_all (length blocks) blocks (omega arith))
      (subst (λ (n : ℕ). IsReached inputs c whole
      (beside (column_records s) (map (block_side s) (drop n blocks) ++ rest) (drop (first + n) columns)) n) e
      (reached inputs c rest))

-- ---- the columns of the keys of all zones

module _ (s : GridState) (zones : List Column) (columns : List Angles) where
  sides_split : (zone : ℕ) (key : Column) → zone < length zones → key ≡ get_or zones zone key
      → map (block_side s) (all_blocks (drop zone zones)) ≡ map (block_side s) key.blocks
      ++ map (block_side s) (all_blocks (drop (zone + 1) zones))
  sides_split zone key l e =
      ap (λ (keys : List Column). map (block_side s) (all_blocks keys)) (drop_more zones zone key l)
      ∙ (ap (λ (k : Column). map (block_side s) (k.blocks ++ all_blocks (drop (zone + 1) zones))) (sym e)
      ∙ map-append (block_side s) key.blocks (all_blocks (drop (zone + 1) zones)))

  pub zones_begun : AreZonesReached s zones columns 0 0
  zones_begun inputs c = begun inputs c (beside (column_records s) (map (block_side s) (all_blocks zones)) columns)

  pub zone_passes : (zone first : ℕ) (key : Column) → zone < length zones → key ≡ get_or zones zone key
      → AreBlocksJudged s key.blocks columns first (Passed (length key.blocks))
      → AreZonesReached s zones columns zone first
      → AreZonesReached s zones columns (zone + 1) (first + length key.blocks)
  zone_passes zone first key l e judged reached inputs c =
      let rest = map (block_side s) (all_blocks (drop (zone + 1) zones)) in
      let whole = beside (column_records s) (map (block_side s) (all_blocks zones)) columns in
      passes_part inputs c whole (beside (column_records s) (map (block_side s) key.blocks ++ rest)
      (drop first columns)) (beside (column_records s) rest (drop (first + length key.blocks) columns)) first
      (length key.blocks)
      (subst (λ (ps : List (List ℤ)). IsReached inputs c whole
      (beside (column_records s) ps (drop first columns)) first) (sides_split zone key l e) (reached inputs c))
      (judged inputs c rest)

  pub zone_fails : (zone first number : ℕ) (reason : Reason) (key : Column) → zone < length zones
      → key ≡ get_or zones zone key
      → AreBlocksJudged s key.blocks columns first (Failed number reason) → AreZonesReached s zones columns zone first
      → AreZonesJudged s zones columns (Failed (first + number) reason)
  zone_fails zone first number reason key l e judged reached inputs c =
      let rest = map (block_side s) (all_blocks (drop (zone + 1) zones)) in
      let whole = beside (column_records s) (map (block_side s) (all_blocks zones)) columns in
      fails_part inputs c whole (beside (column_records s) (map (block_side s) key.blocks ++ rest)
      (drop first columns)) first number reason
      (subst (λ (ps : List (List ℤ)). IsReached inputs c whole
      (beside (column_records s) ps (drop first columns)) first) (sides_split zone key l e) (reached inputs c))
      (judged inputs c rest)

  last_left : (zone first : ℕ) → length zones ≤ zone → AreZonesReached s zones columns zone first
      → (inputs : Inputs) (c : Certificate)
      → IsReached inputs c (beside (column_records s) (map (block_side s) (all_blocks zones)) columns)
      (beside (column_records s) [] (drop first columns)) first
  last_left zone first l reached inputs c =
      subst (λ (keys : List Column). IsReached inputs c
      (beside (column_records s) (map (block_side s) (all_blocks zones)) columns)
      (beside (column_records s) (map (block_side s) (all_blocks keys)) (drop first columns)) first)
      (drop_all zone zones l) (reached inputs c)

  pub zones_pass : (zone first : ℕ) → length zones ≤ zone → length columns ≤ first
      → AreZonesReached s zones columns zone first → AreZonesJudged s zones columns (Passed first)
  zones_pass zone first l m reached inputs c =
      subst (λ (xs : List Angles). IsReached inputs c
      (beside (column_records s) (map (block_side s) (all_blocks zones)) columns)
      (beside (column_records s) [] xs) first)
      (drop_all first columns m) (last_left zone first l reached inputs c)

  pub zones_exceeded : (zone first : ℕ) (x : Angles) → length zones ≤ zone → first < length columns
      → AreZonesReached s zones columns zone first → AreZonesJudged s zones columns (Failed (first + 1) why.Order)
  zones_exceeded zone first x l m reached inputs c =
      let whole = beside (column_records s) (map (block_side s) (all_blocks zones)) columns in
      fails_one inputs c whole [] misplaced first why.Order (misplaced_fails inputs c)
      (subst (λ (xs : List Angles). IsReached inputs c whole (beside (column_records s) [] xs) first)
      (drop_more columns first x m) (last_left zone first l reached inputs c))

-- Words of private contracts: what becomes of a part of the records. Nobody need believe them.
use Rattle.std.specs.Prelude.{◌≡◌, ℕ, ◌+◌, ◌≤◌, List, [], ◌∷◌, ◌++◌, length, All, map, drop, ℤ}
use Rattle.std.specs.List.{AllZip, zip}
use Rattle.fb_types.specs.declared.keys.Block.{Block}
use Rattle.fb_types.specs.declared.keys.Column.{Column}
use Rattle.fb_types.specs.declared.rows.Angles.{Angles}
use Rattle.grid_state.specs.GridState.{GridState}
use Rattle.security.specs.Balances.{block_side}
use Rattle.state_proofs.specs.StateProofs.{all_blocks}
use Rattle.state_proofs.specs.declared.StateProof.{StateProof}
use Rattle.cnec_rows.specs.declared.types.RowProof.{RowProof}
use Rattle.fb_certificate.specs.CracRows.{crac_rows}
use Rattle.fb_certificate.specs.Lists.{inner_list, outer_list}
use Rattle.fb_certificate.specs.Valid.{IsRowOf}
use Rattle.fb_certificate.specs.declared.types.Certificate.{Certificate}
use Rattle.fb_certificate.specs.declared.types.Inputs.{Inputs}
use Rattle.certificate_check.specs.Records.{Record, beside, column_records, state_records, row_records, cite_records}
use Rattle.certificate_check.specs.Verdicts.{Passes, IsFirstFailure}
use Rattle.certificate_check.specs.declared.judgement.Judgement.{Judgement}
use Rattle.certificate_check.specs.declared.judgement.Judgement.TheVariants.{Passed, Failed}

-- ---- Judgements

-- the number of a judgement: of all records, or of the one that fails
abbrev pub number_of : Judgement → ℕ
number_of (Passed count) = count
number_of (Failed number reason) = number

-- the judgement of a part, as that of the part and so many records before it, which pass
abbrev pub behind : ℕ → Judgement → Judgement
behind before (Passed count) = Passed (before + count)
behind before (Failed number reason) = Failed (before + number) reason

-- the judgement of two parts, one after the other
abbrev pub followed : Judgement → Judgement → Judgement
followed (Passed count) later = behind count later
followed (Failed number reason) later = Failed number reason

-- the judgement of parts, one after another
abbrev pub joined : List Judgement → Judgement
joined [] = Passed 0
joined (judgement ∷ later) = followed judgement (joined later)

-- the first records of the whole, so many, pass, and these are left
pub record IsReached (inputs : Inputs) (c : Certificate) (whole left : List Record) (count : ℕ) : Type 0 where
  pub before : List Record
  pub parts : whole ≡ before ++ left
  pub counted : count ≡ length before
  pub passed : All (Passes inputs c) before

-- so many records pass and these are left, or this is the first that fails
abbrev pub IsJudgedTo : Inputs → Certificate → List Record → List Record → Judgement → Type 0
IsJudgedTo inputs c whole left (Passed count) = IsReached inputs c whole left count
IsJudgedTo inputs c whole left (Failed number reason) = IsFirstFailure inputs c whole number reason

-- all records pass, so many, or this is the first that fails
abbrev pub IsJudged : Inputs → Certificate → List Record → Judgement → Type 0
IsJudged inputs c whole judgement = IsJudgedTo inputs c whole [] judgement

-- ---- States

-- the columns of blocks, which stand from the place `first` on, with right sides behind them: those of the first
-- blocks, so many, pass
abbrev pub AreBlocksReached : GridState → List Block → List Angles → ℕ → ℕ → Type 0
AreBlocksReached s blocks columns first count =
    (inputs : Inputs) (c : Certificate) (rest : List (List ℤ))
    → IsReached inputs c (beside (column_records s) (map (block_side s) blocks ++ rest) (drop first columns))
    (beside (column_records s) (map (block_side s) (drop count blocks) ++ rest) (drop (first + count) columns)) count

-- all of them pass, or this is the first column that fails
abbrev pub AreBlocksJudged : GridState → List Block → List Angles → ℕ → Judgement → Type 0
AreBlocksJudged s blocks columns first judgement =
    (inputs : Inputs) (c : Certificate) (rest : List (List ℤ))
    → IsJudgedTo inputs c (beside (column_records s) (map (block_side s) blocks ++ rest) (drop first columns))
    (beside (column_records s) rest (drop (first + length blocks) columns)) judgement

abbrev pub AreBlocksCounted : List Block → List Angles → ℕ → Judgement → Type 0
AreBlocksCounted blocks columns first (Passed count) =
    (count ≡ length blocks) × (first + length blocks ≤ length columns)
AreBlocksCounted blocks columns first (Failed number reason) = number ≤ length blocks

-- the columns of the keys of zones: those of the first zones pass
abbrev pub AreZonesReached : GridState → List Column → List Angles → ℕ → ℕ → Type 0
AreZonesReached s zones columns zone first =
    (inputs : Inputs) (c : Certificate)
    → IsReached inputs c (beside (column_records s) (map (block_side s) (all_blocks zones)) columns)
    (beside (column_records s) (map (block_side s) (all_blocks (drop zone zones))) (drop first columns)) first

abbrev pub AreZonesJudged : GridState → List Column → List Angles → Judgement → Type 0
AreZonesJudged s zones columns judgement =
    (inputs : Inputs) (c : Certificate)
    → IsJudged inputs c (beside (column_records s) (map (block_side s) (all_blocks zones)) columns) judgement

-- the records of a state, and of all states, whatever else the certificate has
abbrev pub IsStateJudged : Inputs → GridState → StateProof → Judgement → Type 0
IsStateJudged inputs s proof judgement = (c : Certificate) → IsJudged inputs c (state_records inputs s proof) judgement

-- each state, beside its proof, has its judgement
abbrev pub AreEachJudged : Inputs → List StateProof → List Judgement → Type 0
AreEachJudged inputs proofs judgements =
    AllZip (λ claim judgement. IsStateJudged inputs claim.0 claim.1 judgement × (number_of judgement ≤ 303))
    (zip inputs.states proofs) judgements

abbrev pub AreStatesJudged : Inputs → List StateProof → Judgement → Type 0
AreStatesJudged inputs proofs judgement =
    (c : Certificate) → IsJudged inputs c (beside (state_records inputs) inputs.states proofs) judgement

-- ---- Rows

-- the rows, beside those that the proofs of the states give: the first ones, so many, pass
abbrev pub AreRowsReached : List RowProof → List RowProof → ℕ → Type 0
AreRowsReached due rows count =
    (inputs : Inputs) (c : Certificate) → AllZip (IsRowOf inputs c.states) (crac_rows inputs.crac.elements) due
    → IsReached inputs c (beside row_records (crac_rows inputs.crac.elements) rows)
    (beside row_records (drop count (crac_rows inputs.crac.elements)) (drop count rows)) count

abbrev pub AreRowsJudged : List RowProof → List RowProof → Judgement → Type 0
AreRowsJudged due rows judgement =
    (inputs : Inputs) (c : Certificate) → AllZip (IsRowOf inputs c.states) (crac_rows inputs.crac.elements) due
    → IsJudged inputs c (beside row_records (crac_rows inputs.crac.elements) rows) judgement

-- the records of the rows and of the cites
abbrev pub domain_records : Inputs → Certificate → List Record
domain_records inputs c =
    beside row_records (crac_rows inputs.crac.elements) c.rows
    ++ (cite_records inner_list c.inner 0 c.inner ++ cite_records outer_list c.outer 0 c.outer)

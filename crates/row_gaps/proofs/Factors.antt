-- The factors of all zones: each holds the exact one, is in order, and is narrow.
use Rattle.std.proofs.Common.{◌≡◌, ℕ, ◌+◌, ◌^◌, inl, inr, Bool, true, false, List, [], ◌∷◌, ◌++◌, length, map, take, drop, All, ℤ, pos, ◌-ℤ◌, ◌*ℤ◌, ◌<ℤ◌, refl, sym, subst, arith}
use Rattle.std.specs.List.{AllZip, zip}
use Rattle.std.proofs.lemmas.Bool.{cases_Bool, cond-true, cond-false}
use Rattle.std.proofs.lemmas.Int.{ints}
use Rattle.std.proofs.lemmas.List.{drop-drop}
use Rattle.std.proofs.lemmas.List.Elements.{All-head, All-tail, All-cons, All-nil}
use Rattle.fractions.specs.SpanLaws.{Lies_ordered}
use Rattle.fb_span.specs.Ends.{EndsWithin}
use Rattle.fb_types.specs.declared.grid.Grid.{Grid}
use Rattle.fb_types.specs.declared.keys.Block.{Block}
use Rattle.fb_types.specs.declared.keys.Column.{Column}
use Rattle.fb_types.specs.declared.rows.Angles.{Angles}
use Rattle.grid_state.specs.GridState.{GridState, carries_at, IsSound}
use Rattle.grid_laplacian.specs.Ranges.{IsOfGrid}
use Rattle.grid_laplacian.specs.Enclosures.{IsBarrier, EnclosesColumn}
use Rattle.security.specs.Balances.{block_weights, block_side}
use Rattle.security.specs.Flows.{ExactAngles, AreAnglesOf, NumberedBranch, factor_of}
use Rattle.branch_spans.specs.FlowSpans.{IsBranchOf}
use Rattle.zonal_factors.specs.FactorSpans.{zone_span_of, angles_from, factor_span_of, IsKey, HoldsFactor}
use Rattle.zonal_factors.proofs.Held.{some_angles}
use Rattle.zonal_factors.proofs.Zones.{zone_held, zero_lies, no_flow}
use Rattle.reference_flows.specs.WithoutExchanges.{trillion}
use Rattle.state_proofs.specs.StateProofs.{all_blocks}
use Rattle.state_proofs.specs.declared.StateProof.{StateProof}
use Rattle.cnec_rows.specs.RowNumbers.{directed, factors_from}
use Rattle.security.specs.Rows.{direction_of}
use Rattle.cnec_rows.specs.RowParts.{HoldFactors}
use Rattle.cnec_rows.proofs.Turned.{turned_lies, turned_within}
use Rattle.row_gaps.specs.Narrow.{IsNarrow, IsOrdered}
use Rattle.security.specs.Gaps.{stretch_of}
use Rattle.row_gaps.specs.Widths.{factor_most, HasGreatTotals}
use Rattle.row_gaps.proofs.Blocks.{zone_narrow, zone_within}

abbrev pub Encloses : GridState → Block → Angles → Type 0
Encloses s b a = EnclosesColumn s (block_side s b) a

-- what is known of a zone's factor along the branch
pub record Known (s : GridState) (c : NumberedBranch) (column : Column) (span : ℤ × ℤ) : Type 0 where
  pub held : HoldsFactor s c column span
  pub ordered : IsOrdered span
  pub narrow : IsNarrow trillion (factor_most (stretch_of s c.branch)) span
  pub within : EndsWithin (10 ^ 12) span

-- ---- one zone

-- there are exact angles for each block
some_solved : (s : GridState) → IsSound s → (blocks : List Block)
    → (es : List ExactAngles) × AllZip (λ block e. AreAnglesOf s (block_weights s block) e) blocks es
some_solved s sound [] = ([], tt)
some_solved s sound (b ∷ blocks) = let here = some_angles s sound (block_weights s b) in let rest = some_solved s sound blocks in (here.0 ∷ rest.0, (here.1, rest.1))

one_zone : (grid : Grid) (s : GridState) (c : NumberedBranch) → IsSound s → IsOfGrid grid s → IsBranchOf grid c
    → (v : List ℤ) → IsBarrier s v → (column : Column) (as' : List Angles) → IsKey column → HasGreatTotals column
    → AllZip (Encloses s) column.blocks as' → carries_at s c.number ≡ true → Known s c column (zone_span_of s c v (zip column.blocks as'))
one_zone grid s c sound of stands v barrier column as' key great enc carries =
    let held = zone_held grid s c sound of stands carries v barrier column as' key.blocks enc in
    let some = some_solved s sound column.blocks in
    let ordered = Lies_ordered _ _ (held some.0 some.1) in
    record {
      held = held;
      ordered = ordered;
      narrow = zone_narrow grid s c sound of stands carries v barrier column as' key great.each enc;
      within = zone_within s c v column as' key enc ordered;
    }

still_zone : (s : GridState) (c : NumberedBranch) (column : Column) → carries_at s c.number ≡ false
    → Known s c column (pos 0, pos 0)
still_zone s c column still = record {
  held = λ es sol. zero_lies (factor_of s c column es) (no_flow s c column es still);
  ordered = omega (arith, ints);
  narrow = omega (arith, ints);
  within = record { low = record { low = omega (arith, ints); high = omega (arith, ints) }; high = record { low = omega (arith, ints); high = omega (arith, ints) } };
}

pub zone_known : (grid : Grid) (s : GridState) (c : NumberedBranch) → IsSound s → IsOfGrid grid s → IsBranchOf grid c
    → (v : List ℤ) → IsBarrier s v → (column : Column) (angles : List Angles) (first : ℕ) → IsKey column
    → HasGreatTotals column
    → AllZip (Encloses s) column.blocks (angles_from angles first (length column.blocks)) → Known s c column (factor_span_of s c v column angles first)
zone_known grid s c sound of stands v barrier column angles first key great enc =
    elim (cases_Bool (carries_at s c.number)) [
      | inl carries ↦ subst (Known s c column) (sym (cond-true {A = ℤ × ℤ} (carries_at s c.number) (zone_span_of s c v (zip column.blocks (angles_from angles first (length column.blocks)))) (pos 0, pos 0) carries))
          (one_zone grid s c sound of stands v barrier column (angles_from angles first (length column.blocks)) key great enc carries)
      | inr still ↦ subst (Known s c column) (sym (cond-false {A = ℤ × ℤ} (carries_at s c.number) (zone_span_of s c v (zip column.blocks (angles_from angles first (length column.blocks)))) (pos 0, pos 0) still)) (still_zone s c column still)
    ]

-- ---- all zones

front : {A B : Type 0} (R : A → B → Type 0) (xs ys : List A) (zs : List B) → AllZip R (xs ++ ys) zs
    → AllZip R xs (take (length xs) zs)
front R [] ys zs h = tt
front R (x ∷ xs) ys [] h = absurd h
front R (x ∷ xs) ys (z ∷ zs) h = (h.0, front R xs ys zs h.1)

back : {A B : Type 0} (R : A → B → Type 0) (xs ys : List A) (zs : List B) → AllZip R (xs ++ ys) zs
    → AllZip R ys (drop (length xs) zs)
back R [] ys zs h = h
back R (x ∷ xs) ys [] h = absurd h
back R (x ∷ xs) ys (z ∷ zs) h = back R xs ys zs h.1

module _ (grid : Grid) (s : GridState) (c : NumberedBranch) (sound : IsSound s) (of : IsOfGrid grid s) (stands : IsBranchOf grid c) (proof : StateProof) (barrier : IsBarrier s proof.barrier) where
  all_known : (columns : List Column) (first : ℕ) → All IsKey columns → All HasGreatTotals columns
      → AllZip (Encloses s) (all_blocks columns) (drop first proof.blocks)
      → AllZip (Known s c) columns (factors_from s c proof first columns)
  all_known [] first keys great enc = tt
  all_known (column ∷ columns) first keys great enc = (
    zone_known grid s c sound of stands proof.barrier barrier column proof.blocks first
        (All-head IsKey column columns keys) (All-head HasGreatTotals column columns great)
        (front (Encloses s) column.blocks (all_blocks columns) (drop first proof.blocks) enc),
    all_known columns (first + length column.blocks) (All-tail IsKey column columns keys)
        (All-tail HasGreatTotals column columns great)
        (subst (λ (as' : List Angles). AllZip (Encloses s) (all_blocks columns) as') (drop-drop (length column.blocks) first proof.blocks)
        (back (Encloses s) column.blocks (all_blocks columns) (drop first proof.blocks) enc)),
  )

  pub zones_known : (columns : List Column) → All IsKey columns → All HasGreatTotals columns
      → AllZip (Encloses s) (all_blocks columns) proof.blocks
      → AllZip (Known s c) columns (factors_from s c proof 0 columns)
  zones_known columns keys great enc = all_known columns 0 keys great enc

-- ---- in the row's direction

pub turned_ordered : (against : Bool) (span : ℤ × ℤ) → IsOrdered span → IsOrdered (directed against span)
turned_ordered false span h = h
turned_ordered true span h = omega (arith, ints, h)

turned_width : (against : Bool) (span : ℤ × ℤ)
    → (directed against span).1 -ℤ (directed against span).0 ≡ span.1 -ℤ span.0
turned_width false span = refl
turned_width true span = omega (arith, ints)

pub turned_narrow : (against : Bool) (unit most : ℤ) (span : ℤ × ℤ) → IsNarrow unit most span
    → IsNarrow unit most (directed against span)
turned_narrow against unit most span h = subst (λ (w : ℤ). (unit *ℤ w) <ℤ most) (sym (turned_width against span)) h

pub hold_directed : (s : GridState) (c : NumberedBranch) (against : Bool) (columns : List Column) (spans : List (ℤ × ℤ))
    → AllZip (Known s c) columns spans → HoldFactors s c (direction_of against) columns (map (directed against) spans)
hold_directed s c against [] [] h = tt
hold_directed s c against [] (span ∷ spans) h = absurd h
hold_directed s c against (column ∷ columns) [] h = absurd h
hold_directed s c against (column ∷ columns) (span ∷ spans) h =
    (λ es sol. turned_lies against span (factor_of s c column es) (h.0.held es sol), hold_directed s c against columns spans h.1)

pub ordered_directed : (s : GridState) (c : NumberedBranch) (against : Bool) (columns : List Column) (spans : List (ℤ × ℤ))
    → AllZip (Known s c) columns spans → All IsOrdered (map (directed against) spans)
ordered_directed s c against [] [] h = All-nil IsOrdered
ordered_directed s c against [] (span ∷ spans) h = absurd h
ordered_directed s c against (column ∷ columns) [] h = absurd h
ordered_directed s c against (column ∷ columns) (span ∷ spans) h =
    All-cons IsOrdered (directed against span) (map (directed against) spans) (turned_ordered against span h.0.ordered)
    (ordered_directed s c against columns spans h.1)

pub narrow_directed : (s : GridState) (c : NumberedBranch) (against : Bool) (columns : List Column) (spans : List (ℤ × ℤ))
    → AllZip (Known s c) columns spans
    → All (IsNarrow trillion (factor_most (stretch_of s c.branch))) (map (directed against) spans)
narrow_directed s c against [] [] h = All-nil (IsNarrow trillion (factor_most (stretch_of s c.branch)))
narrow_directed s c against [] (span ∷ spans) h = absurd h
narrow_directed s c against (column ∷ columns) [] h = absurd h
narrow_directed s c against (column ∷ columns) (span ∷ spans) h =
    All-cons (IsNarrow trillion (factor_most (stretch_of s c.branch))) (directed against span)
    (map (directed against) spans)
    (turned_narrow against trillion (factor_most (stretch_of s c.branch)) span h.0.narrow)
    (narrow_directed s c against columns spans h.1)

pub within_directed : (s : GridState) (c : NumberedBranch) (against : Bool) (columns : List Column) (spans : List (ℤ × ℤ))
    → AllZip (Known s c) columns spans → All (EndsWithin (10 ^ 12)) (map (directed against) spans)
within_directed s c against [] [] h = All-nil (EndsWithin (10 ^ 12))
within_directed s c against [] (span ∷ spans) h = absurd h
within_directed s c against (column ∷ columns) [] h = absurd h
within_directed s c against (column ∷ columns) (span ∷ spans) h =
    All-cons (EndsWithin (10 ^ 12)) (directed against span) (map (directed against) spans)
    (turned_within (10 ^ 12) against span (directed against span) h.0.within refl)
    (within_directed s c against columns spans h.1)

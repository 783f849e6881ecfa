-- A valid certificate of whole inputs has the due lengths, and its lines are in the ranges of the text.
use Rattle.std.proofs.Common.{◌≡◌, ℕ, ◌+◌, ◌^◌, ◌<◌, ◌≤◌, List, [], ◌∷◌, ◌++◌, length, map, refl, sym, ◌∙◌, arith, length-append}
use Rattle.std.specs.Prelude.{Some, IsUtf8}
use Rattle.std.specs.List.{All, AllZip, flat_map, enumerate_from}
use Rattle.std.proofs.lemmas.List.{length-map}
use Rattle.std.proofs.lemmas.List.Elements.{All-cons, All-nil, All-append, All-map}
use Rattle.std.proofs.lemmas.List.FromFn.{length-enumerate_from}
use Rattle.fb_types.specs.declared.keys.Block.{Block}
use Rattle.fb_types.specs.declared.keys.Column.{Column}
use Rattle.grid_state.specs.GridState.{classes_of}
use Rattle.state_proofs.specs.StateProofs.{IsStateProof, all_blocks}
use Rattle.row_gaps.specs.ProofRanges.{IsProofInRange}
use Rattle.run_settings.specs.Laws.{core_bounds}
use Rattle.domain_report.specs.DomainTexts.{contingency_id}
use Rattle.fb_certificate.specs.CracRows.{crac_rows}
use Rattle.fb_certificate.specs.Lists.{inner_list, outer_list}
use Rattle.fb_certificate.specs.RunRows.{run_row}
use Rattle.fb_certificate.specs.Valid.{IsRowOf, IsValid}
use Rattle.fb_certificate.specs.Whole.{IsWhole}
use Rattle.fb_certificate.specs.declared.types.Certificate.{Certificate}
use Rattle.fb_certificate.specs.declared.types.Inputs.{Inputs}
use Rattle.fb_certificate.proofs.RunLaws.{few_rows}
use Rattle.fb_certificate.proofs.WholeLaws.{zip_length, states_long, few_outages}
use Rattle.valid_domains.specs.Ranges.{core_count, HasNumbersInRange}
use Rattle.certificate_text.specs.CertificateTexts.{state_ids, zone_places, block_places, lines_of_states, lines_of_rows, labelled}
use Rattle.certificate_text.specs.Lines.{version_line, inner_line, outer_line, end_line, IsGood}
use Rattle.certificate_reader.specs.Reading.{HasDueLengths}
use Rattle.certificate_files.proofs.GoodLines.{IsShortProof, places_small, ids_are_texts, good_states, good_rows, good_cites}

-- ---- Lists side by side

-- what follows for the second of two holds of each second one
seconds : {X Y : Type 0} (R : X → Y → Type 0) (Q : Y → Type 0) → ((x : X) (y : Y) → R x y → Q y) → (xs : List X)
    (ys : List Y) → AllZip R xs ys → All Q ys
seconds R Q f [] [] h = All-nil Q
seconds R Q f [] (y ∷ ys) h = absurd h
seconds R Q f (x ∷ xs) [] h = absurd h
seconds R Q f (x ∷ xs) (y ∷ ys) h = All-cons Q y ys (f x y h.0) (seconds R Q f xs ys h.1)

-- ---- Lengths

zone_count : (n : ℕ) (c : Column) → length (zone_places (n, c)) ≡ length c.blocks
zone_count n c =
    length-map (enumerate_from 1 c.blocks) (λ (block : ℕ × Block). (n, block.0)) ∙ length-enumerate_from 1 c.blocks

places_count : (n : ℕ) (columns : List Column)
    → length (flat_map zone_places (enumerate_from n columns)) ≡ length (flat_map (λ c. c.blocks) columns)
places_count n [] = refl
places_count n (c ∷ columns) =
    let rest = flat_map zone_places (enumerate_from (n + 1) columns) in
    let here = length-append (zone_places (n, c)) rest in
    let there = length-append c.blocks (flat_map (λ (c : Column). c.blocks) columns) in
    let zone = zone_count n c in
    let more = places_count (n + 1) columns in
    omega (arith, here, there, zone, more)

module _ (inputs : Inputs) (c : Certificate) (whole : IsWhole inputs) (valid : IsValid inputs c) where
  states_due : length c.states ≡ length (state_ids inputs)
  states_due =
      let long = zip_length (λ s p. IsStateProof s inputs.grid inputs.keys.columns p) inputs.states c.states
      valid.states in
      let states = states_long inputs whole in
      let ids = length-map inputs.outages (λ (k : ℕ). contingency_id inputs.crac.contingencies (Some k)) in
      omega (arith, long, states, ids)

  pub rows_due : length c.rows ≡ length (crac_rows inputs.crac.elements)
  rows_due = sym (zip_length (IsRowOf inputs c.states) (crac_rows inputs.crac.elements) c.rows valid.rows)

  rows_few : length c.rows ≤ 40000
  rows_few =
      let due = rows_due in
      let few = few_rows inputs whole in
      let same = length-map (crac_rows inputs.crac.elements) (run_row inputs) in
      omega (arith, due, few, same)

  pub due_lengths : HasNumbersInRange inputs c → HasDueLengths inputs c
  due_lengths ranges = record {
    version = valid.version;
    states = states_due;
    blocks = seconds (λ s p. IsProofInRange (classes_of s) (length (all_blocks inputs.keys.columns)) p)
        (λ p. length p.blocks ≡ length (block_places inputs.keys.columns))
        (λ s p range. range.each_block ∙ sym (places_count 1 inputs.keys.columns)) inputs.states c.states ranges.states;
  }

  -- ---- Ranges

  columns_short : All (λ c. length c.blocks ≤ 4) inputs.keys.columns
  columns_short = λ k d l.
      let long = whole.keys.columns in
      (whole.keys.each k d (omega (arith, l, long))).few

  states_good : All (λ c. IsUtf8 c.id) inputs.crac.contingencies → HasNumbersInRange inputs c
      → All IsGood (lines_of_states inputs c.states)
  states_good texts ranges =
      let ids = length-map inputs.outages (λ (k : ℕ). contingency_id inputs.crac.contingencies (Some k)) in
      let few = few_outages inputs whole in
      let long = whole.keys.columns in
      let zones : length inputs.settings.zones ≤ 64 = whole.settings.few in
      good_states (block_places inputs.keys.columns) 0 (state_ids inputs) c.states
      (places_small 1 inputs.keys.columns (omega (arith, long, zones)) columns_short) (omega (arith, ids, few))
      (ids_are_texts inputs.crac.contingencies inputs.outages texts)
      (seconds (λ s p. IsProofInRange (classes_of s) (length (all_blocks inputs.keys.columns)) p) IsShortProof
      (λ s p range. record { classes = classes_of s; count = length (all_blocks inputs.keys.columns); range = range })
      inputs.states c.states ranges.states)

  pub all_good : All (λ c. IsUtf8 c.id) inputs.crac.contingencies → HasNumbersInRange inputs c
      → All IsGood (labelled inputs c)
  all_good texts ranges =
      let few : length c.rows < 2 ^ 32 = let at_most = rows_few in omega (arith, at_most) in
      let bounds = core_bounds inputs.settings.zones in
      let states = lines_of_states inputs c.states in
      let rows = lines_of_rows c.rows in
      let inner = map inner_line c.inner in
      let outer = map outer_line c.outer in
      let last = end_line ∷ [] in
      let good_last = All-cons IsGood end_line [] tt (All-nil IsGood) in
      let good_outer = All-map IsGood outer_line c.outer
      (good_cites outer_list bounds c.rows c.outer few valid.outer.each) in
      let good_inner = All-map IsGood inner_line c.inner
      (good_cites inner_list bounds c.rows c.inner few valid.inner.each) in
      All-cons IsGood version_line (states ++ (rows ++ (inner ++ (outer ++ last)))) tt
      (All-append IsGood states (rows ++ (inner ++ (outer ++ last))) (states_good texts ranges)
      (All-append IsGood rows (inner ++ (outer ++ last)) (good_rows (core_count inputs) 1 c.rows
      (let at_most = rows_few in omega (arith, at_most)) ranges.rows)
      (All-append IsGood inner (outer ++ last) good_inner (All-append IsGood outer last good_outer good_last))))

-- The trees of the rows of a run, one after another.
use Rattle.std.proofs.Common.{◌≡◌, ℕ, ◌+◌, ◌<◌, Bool, true, false, List, length, map, get_or, Some, refl, sym, ap, ◌∙◌, arith}
use Rattle.std.specs.List.{enumerate_from, zip}
use Rattle.std.proofs.lemmas.List.{length-map, get_or-map}
use Rattle.std.proofs.lemmas.List.FromFn.{length-enumerate_from, get_or-enumerate_from}
use Rattle.std.proofs.lemmas.Option.{get_or_from_slice_get}
use Rattle.std.proofs.lemmas.Slice.Zip.{get_or-zip, length-zip}
use Rattle.serde_json.specs.Data.{Data}
use Rattle.serde_json.specs.Written.{compact_text}
use Rattle.fb_types.specs.declared.crac.Element.{Element}
use Rattle.cnec_rows.specs.declared.types.RowProof.{RowProof}
use Rattle.cnec_rows.specs.declared.types.RowSpans.{RowSpans}
use Rattle.fb_certificate.specs.CracRows.{CracRow, crac_rows}
use Rattle.fb_certificate.specs.RunRows.{directed, is_opposite, run_row, run_rows}
use Rattle.fb_certificate.specs.declared.types.Inputs.{Inputs}
use Rattle.fb_certificate.specs.declared.types.RunRow.{RunRow}
use Rattle.fb_certificate.proofs.RunLaws.{crac_row_at}
use Rattle.domain_report.proofs.RunRecords.{element_stands}
use Rattle.run_report.specs.ReportTexts.{row_tree, row_trees}

direction_back : (opposite : Bool) → is_opposite (directed opposite) ≡ opposite
direction_back true = refl
direction_back false = refl

abbrev Entry : Type 0
Entry = (ℕ × CracRow) × (RowProof × RowSpans)

abbrev tree_of : Entry → Data
tree_of e = row_tree e.0.0 e.0.1.element e.0.1.opposite e.1.0 e.1.1

module _ (inputs : Inputs) (numbers : List RowProof) (spans : List RowSpans)
    (long : length numbers ≡ length (crac_rows inputs.crac.elements))
    (as_long : length spans ≡ length (crac_rows inputs.crac.elements)) where
  abbrev entries : List Entry
  entries = zip (enumerate_from 1 (crac_rows inputs.crac.elements)) (zip numbers spans)

  many : length entries ≡ length (crac_rows inputs.crac.elements)
  many =
      let rows = crac_rows inputs.crac.elements in
      let places = enumerate_from 1 rows in
      let pairs = zip numbers spans in
      omega (arith, long, as_long, length-enumerate_from 1 rows, length-zip numbers spans, length-zip places pairs)

  abbrev texts : List (List ℕ)
  texts = map compact_text (row_trees (crac_rows inputs.crac.elements) numbers spans)

  pub many_texts : length texts ≡ length (run_rows inputs)
  many_texts =
      let rows = crac_rows inputs.crac.elements in
      omega (arith, many, length-map rows (run_row inputs), length-map entries tree_of, length-map (row_trees rows numbers spans) compact_text)

  -- the text of the row at a place
  pub text_at : (k : ℕ) (row : RunRow) (n : RowProof) (s : RowSpans) (element : Element) (text : List ℕ)
      → k < length (run_rows inputs) → row ≡ get_or (run_rows inputs) k row → n ≡ get_or numbers k n
      → s ≡ get_or spans k s
      → element ≡ get_or inputs.crac.elements row.element element
      → text ≡ compact_text (row_tree (k + 1) element (is_opposite row.direction) n s)
      → text ≡ get_or texts k text
  text_at k row n s element text within row_is n_is s_is element_is text_is =
      let rows = crac_rows inputs.crac.elements in
      let below : k < length rows = let l = length-map rows (run_row inputs) in omega (arith, l, within) in
      let numbered : k < length (enumerate_from 1 rows) =
      let l = length-enumerate_from 1 rows in omega (arith, l, below) in
      let beside : k < length (zip numbers spans) =
      let l = length-zip numbers spans in omega (arith, l, below, long, as_long) in
      let here : k < length entries = omega (arith, many, below) in
      let c = crac_row_at rows k below in
      let this : Entry = ((k + 1, c.0), (n, s)) in
      let same_row : run_row inputs c.0 ≡ row =
      sym (row_is ∙ (get_or-map (run_row inputs) rows k c.0 row below ∙ ap (run_row inputs) c.1)) in
      let same_element : element ≡ c.0.element =
      element_is ∙ get_or_from_slice_get inputs.crac.elements row.element c.0.element element
      (element_stands inputs k row within row_is c.0 ∙ ap (λ (d : CracRow). Some d.element) c.1) in
      let same_direction : is_opposite row.direction ≡ c.0.opposite =
      ap (λ (r : RunRow). is_opposite r.direction) (sym same_row) ∙ direction_back c.0.opposite in
      let pair : get_or (zip numbers spans) k (n, s) ≡ (n, s) =
      get_or-zip numbers spans k (n, s) (omega (arith, below, long)) (omega (arith, below, as_long))
      ∙ (λ i. (sym n_is i, sym s_is i)) in
      let entry : get_or entries k this ≡ this =
      get_or-zip (enumerate_from 1 rows) (zip numbers spans) k this numbered beside
      ∙ ap (λ (p : ℕ × CracRow). (p, get_or (zip numbers spans) k (n, s)))
      (get_or-enumerate_from 1 rows k (k + 1, c.0) below)
      ∙ ap (λ (m : ℕ). ((m, get_or rows k c.0), get_or (zip numbers spans) k (n, s))) (omega arith)
      ∙ ap (λ (d : CracRow). ((k + 1, d), get_or (zip numbers spans) k (n, s))) c.1
      ∙ ap (λ (p : RowProof × RowSpans). ((k + 1, c.0), p)) pair in
      let tree : get_or (row_trees rows numbers spans) k (tree_of this) ≡ tree_of this =
      get_or-map tree_of entries k this (tree_of this) here ∙ ap tree_of entry in
      let text_here : text ≡ compact_text (tree_of this) =
      text_is ∙ (λ i. compact_text (row_tree (k + 1) (same_element i) (same_direction i) n s)) in
      let l = length-map entries tree_of in
      text_here ∙ ap compact_text (sym tree)
      ∙ sym (get_or-map compact_text (row_trees rows numbers spans) k (tree_of this) text (omega (arith, l, here)))

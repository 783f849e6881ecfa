-- The report of a run: one line of the compact JSON of serde_json, whose objects have their members in the order of
-- their names.
use Rattle.std.specs.Prelude.{◌≡◌, ℕ, ◌&&◌, ℤ, pos, ◌-ℤ◌, Bool, true, false, not, List, [], ◌∷◌, ◌++◌, length, map, filter, codes}
use Rattle.std.specs.Int.{int_max}
use Rattle.std.specs.List.{AllZip, enumerate_from, fold, zip}
use Rattle.whole_laws.specs.Quotients.{floor_of, ceil_of}
use Rattle.serde_json.specs.Data.{Data, number, unsigned, string, array, object, item, no_items, member, no_members}
use Rattle.serde_json.specs.Find.{of_integer}
use Rattle.serde_json.specs.View.{items_of}
use Rattle.serde_json.specs.Written.{compact_text}
use Rattle.fb_types.specs.declared.crac.Element.{Element}
use Rattle.fb_types.specs.declared.grid.Branch.{Branch}
use Rattle.cnec_selection.specs.declared.Class.{Class}
use Rattle.cnec_selection.specs.declared.Class.TheVariants.{Below, Doubtful, Certain}
use Rattle.cnec_rows.specs.declared.types.RowProof.{RowProof}
use Rattle.cnec_rows.specs.declared.types.RowSpans.{RowSpans}
use Rattle.fb_certificate.specs.CracRows.{CracRow, crac_rows}
use Rattle.fb_certificate.specs.Lists.{ListKind, inner_list, outer_list, is_removed}
use Rattle.fb_certificate.specs.Valid.{AreNumbersOf}
use Rattle.fb_certificate.specs.declared.types.Cite.{Cite}
use Rattle.fb_certificate.specs.declared.types.Certificate.{Certificate}
use Rattle.fb_certificate.specs.declared.types.Inputs.{Inputs}
use Rattle.domain_report.specs.DomainTexts.{class_word, direction_word}

-- ---- Numbers

abbrev pub whole : ℤ → Data
whole z = number (of_integer z)

abbrev pub count : ℕ → Data
count n = number (unsigned n)

-- two numbers, the low one first
abbrev pub ends : ℤ → ℤ → Data
ends low high = array (item (whole low) (item (whole high) no_items))

-- a span in picowatts, in watts: its low end rounded down, and its high end up
abbrev pub watts : ℤ × ℤ → Data
watts span = ends (floor_of span.0 (pos 1000000000000)) (ceil_of span.1 (pos 1000000000000))

-- ---- Rows

-- the right side in the outer list less that in the inner one
abbrev pub gap_of : RowProof → ℤ
gap_of row = row.r_out -ℤ row.r_in

-- the row with this number, of an element in a direction, with its numbers in the certificate and their spans
abbrev pub row_tree : ℕ → Element → Bool → RowProof → RowSpans → Data
row_tree n element opposite row spans = object (
    member (codes "class") (string (class_word row.class)) (
    member (codes "direction") (string (direction_word opposite)) (
    member (codes "element") (string element.id) (
    member (codes "f0all") (watts spans.f0all) (
    member (codes "f0core") (watts spans.f0core) (
    member (codes "fref") (watts spans.fref) (
    member (codes "fuaf") (watts spans.fuaf) (
    member (codes "gap") (whole (gap_of row)) (
    member (codes "ram") (watts spans.ram) (
    member (codes "row") (count n) (
    member (codes "spread") (ends spans.spread.0 spans.spread.1)
    no_members)))))))))))

-- each row of the CRAC, numbered from 1, beside its numbers and their spans
abbrev pub row_trees : List CracRow → List RowProof → List RowSpans → List Data
row_trees rows numbers spans =
    map (λ e. row_tree e.0.0 e.0.1.element e.0.1.opposite e.1.0 e.1.1)
    (zip (enumerate_from 1 rows) (zip numbers spans))

-- ---- Counts

abbrev pub is_below : Class → Bool
is_below Below = true
is_below Doubtful = false
is_below Certain = false

abbrev pub is_doubtful : Class → Bool
is_doubtful Below = false
is_doubtful Doubtful = true
is_doubtful Certain = false

abbrev pub count_where : (Class → Bool) → List RowProof → ℕ
count_where test rows = length (filter (λ row. test row.class) rows)

-- how many rows, numbered from 1, are kept in a list: they stand in it, and no cite removes them
abbrev pub kept_count : ListKind → List RowProof → List Cite → ℕ
kept_count kind rows cites =
    length (filter (λ e. kind.holds e.1.class && not (is_removed cites e.0)) (enumerate_from 1 rows))

-- how many rows are removed from a list: a certificate has one cite for each
abbrev pub removed_count : List Cite → ℕ
removed_count cites = length cites

-- the greatest gap of all rows, 0 where there is none
abbrev pub greatest_gap : List RowProof → ℤ
greatest_gap [] = pos 0
greatest_gap (row ∷ rows) = fold (λ gap r. int_max gap (gap_of r)) (gap_of row) rows

-- the ids of the branches whose reactance was raised
abbrev pub notes : List Branch → List Data
notes branches = map (λ branch. string branch.id) (filter (λ branch. branch.floored) branches)

-- ---- The report

abbrev pub report_tree : Inputs → Certificate → List RowSpans → Data
report_tree inputs c spans = object (
    member (codes "below") (count (count_where is_below c.rows)) (
    member (codes "doubtful") (count (count_where is_doubtful c.rows)) (
    member (codes "greatestGap") (whole (greatest_gap c.rows)) (
    member (codes "innerKept") (count (kept_count inner_list c.rows c.inner)) (
    member (codes "innerRemoved") (count (removed_count c.inner)) (
    member (codes "notes") (array (items_of (notes inputs.grid.branches))) (
    member (codes "outerKept") (count (kept_count outer_list c.rows c.outer)) (
    member (codes "outerRemoved") (count (removed_count c.outer)) (
    member (codes "rows") (array (items_of (row_trees (crac_rows inputs.crac.elements) c.rows spans)))
    no_members)))))))))

abbrev pub report_text : Inputs → Certificate → List RowSpans → List ℕ
report_text inputs c spans = compact_text (report_tree inputs c spans) ++ 10 ∷ []

-- the spans of a row are those that the proofs of the states give
pub record IsSpansOf (inputs : Inputs) (c : Certificate) (row : CracRow) (spans : RowSpans) : Type 0 where
  pub numbers : RowProof
  pub are : AreNumbersOf inputs c.states row spans numbers

-- the text is the report, with the spans of each row
pub record IsReport (inputs : Inputs) (c : Certificate) (text : List ℕ) : Type 0 where
  pub spans : List RowSpans
  pub are : AllZip (IsSpansOf inputs c) (crac_rows inputs.crac.elements) spans
  pub same : text ≡ report_text inputs c spans

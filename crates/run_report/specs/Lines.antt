-- How the texts of a report and of a summary are put together: words of private contracts, which nobody need believe.
use Rattle.std.specs.Prelude.{ℕ, ℤ, Bool, true, false, List, [], ◌∷◌, ◌++◌, codes, decimal}
use Rattle.std.specs.Fmt.{signed_decimal}
use Rattle.serde_json.specs.Data.{string}
use Rattle.serde_json.specs.Written.{comma_if, compact_text}
use Rattle.fb_types.specs.declared.crac.Element.{Element}
use Rattle.cnec_rows.specs.declared.types.RowProof.{RowProof}
use Rattle.cnec_rows.specs.declared.types.RowSpans.{RowSpans}
use Rattle.domain_report.specs.DomainTexts.{class_word, direction_word}
use Rattle.run_report.specs.ReportTexts.{ends, gap_of, watts}
use Rattle.run_report.specs.declared.summary.Summary.{Summary}

-- texts with a comma before each but the first
abbrev pub joined : Bool → List (List ℕ) → List ℕ
joined later [] = []
joined later (text ∷ texts) = comma_if later ++ (text ++ joined true texts)

abbrev pub array_text : List (List ℕ) → List ℕ
array_text texts = 91 ∷ (joined false texts ++ 93 ∷ [])

-- ---- A row

-- what names it
abbrev pub labels_text : List ℕ → List ℕ → List ℕ → List ℕ
labels_text class direction element =
    codes "{\"class\":" ++ (class ++ (codes ",\"direction\":" ++ (direction ++ (codes ",\"element\":" ++ element))))

-- its flows
abbrev pub without_text : List ℕ → List ℕ → List ℕ
without_text f0all f0core = codes ",\"f0all\":" ++ (f0all ++ (codes ",\"f0core\":" ++ f0core))

abbrev pub with_text : List ℕ → List ℕ → List ℕ
with_text fref fuaf = codes ",\"fref\":" ++ (fref ++ (codes ",\"fuaf\":" ++ fuaf))

-- what follows them
abbrev pub margins_text : ℤ → List ℕ → ℕ → List ℕ → List ℕ
margins_text gap ram row spread =
    codes ",\"gap\":" ++ (signed_decimal gap ++ (codes ",\"ram\":" ++ (ram
    ++ (codes ",\"row\":" ++ (decimal row ++ (codes ",\"spread\":" ++ (spread ++ codes "}")))))))

-- all of it: the row with this number, of an element in a direction
abbrev pub row_text : ℕ → Element → Bool → RowProof → RowSpans → List ℕ
row_text number element opposite row spans =
    labels_text (compact_text (string (class_word row.class))) (compact_text (string (direction_word opposite)))
    (compact_text (string element.id))
    ++ (without_text (compact_text (watts spans.f0all)) (compact_text (watts spans.f0core))
    ++ (with_text (compact_text (watts spans.fref)) (compact_text (watts spans.fuaf))
    ++ margins_text (gap_of row) (compact_text (watts spans.ram)) number
    (compact_text (ends spans.spread.0 spans.spread.1))))

-- ---- The line

abbrev pub gap_text : ℤ → List ℕ
gap_text gap = codes ",\"greatestGap\":" ++ signed_decimal gap

abbrev pub classes_text : Summary → List ℕ
classes_text s =
    codes "{\"below\":" ++ (decimal s.below ++ (codes ",\"doubtful\":" ++ (decimal s.doubtful
    ++ gap_text s.greatest_gap)))

abbrev pub inner_text : Summary → List ℕ
inner_text s =
    codes ",\"innerKept\":" ++ (decimal s.inner_kept ++ (codes ",\"innerRemoved\":" ++ (decimal s.inner_removed
    ++ codes ",\"notes\":")))

abbrev pub outer_text : Summary → List ℕ
outer_text s =
    codes ",\"outerKept\":" ++ (decimal s.outer_kept ++ (codes ",\"outerRemoved\":" ++ (decimal s.outer_removed
    ++ codes ",\"rows\":")))

-- all before the rows
abbrev pub head_text : Summary → List ℕ → List ℕ
head_text s notes = classes_text s ++ (inner_text s ++ (notes ++ (outer_text s ++ 91 ∷ [])))

abbrev pub line_text : Summary → List ℕ → List ℕ → List ℕ
line_text s notes rows = classes_text s ++ (inner_text s ++ (notes ++ (outer_text s ++ (rows ++ 125 ∷ 10 ∷ []))))

-- ---- The summary of a generated case

-- the lines of the case and of its rows
abbrev pub size_lines : ℕ → ℕ → ℕ → List ℕ
size_lines case nodes rows =
    codes "case " ++ (decimal case ++ (codes " nodes " ++ (decimal nodes
    ++ (10 ∷ (codes "rows " ++ (decimal rows ++ 10 ∷ []))))))

abbrev pub class_lines : Summary → List ℕ
class_lines s =
    codes "below " ++ (decimal s.below ++ (10 ∷ (codes "doubtful " ++ (decimal s.doubtful ++ 10 ∷ []))))

-- the line of a list
abbrev pub list_line : List ℕ → ℕ → ℕ → List ℕ
list_line list kept removed =
    list ++ (codes " kept " ++ (decimal kept ++ (codes " removed " ++ (decimal removed ++ 10 ∷ []))))

abbrev pub list_lines : Summary → List ℕ
list_lines s =
    list_line (codes "inner") s.inner_kept s.inner_removed ++ list_line (codes "outer") s.outer_kept s.outer_removed

abbrev pub gap_line : ℤ → List ℕ
gap_line gap = codes "greatest gap " ++ (signed_decimal gap ++ 10 ∷ [])

-- all of them
abbrev pub summary_lines : ℕ → ℕ → ℕ → Summary → List ℕ
summary_lines case nodes rows s =
    size_lines case nodes rows
    ++ (class_lines s ++ (list_lines s ++ (gap_line s.greatest_gap ++ (codes "check yes" ++ 10 ∷ []))))

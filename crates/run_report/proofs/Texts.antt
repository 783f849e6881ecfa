-- The texts of a report and of a summary are those of their pieces, one after another.
use Rattle.std.proofs.Common.{◌≡◌, ℕ, ◌+◌, ◌<◌, ℤ, pos, negsuc, Bool, true, false, List, [], ◌∷◌, ◌++◌, length, map, take, get_or, refl, sym, ap, ◌∙◌, arith, append_assoc, zero, suc}
use Rattle.std.specs.Prelude.{codes, decimal}
use Rattle.std.specs.Fmt.{signed_decimal}
use Rattle.std.proofs.lemmas.List.{append-nil, length-take, take_more}
use Rattle.serde_json.specs.Data.{Data, string, array, object, member, no_members}
use Rattle.serde_json.specs.View.{items_of}
use Rattle.serde_json.specs.Written.{comma_if, compact_text, items_text}
use Rattle.fb_types.specs.declared.crac.Element.{Element}
use Rattle.cnec_rows.specs.declared.types.RowProof.{RowProof}
use Rattle.cnec_rows.specs.declared.types.RowSpans.{RowSpans}
use Rattle.domain_report.specs.DomainTexts.{class_word, direction_word}
use Rattle.serde_json.proofs.OnLiterals.{serde_json_on_literals}
use Rattle.run_report.specs.Lines.{array_text, joined, labels_text, line_text, margins_text, row_text, summary_lines, with_text, without_text}
use Rattle.fb_certificate.specs.Lists.{inner_list, outer_list}
use Rattle.fb_certificate.specs.declared.types.Certificate.{Certificate}
use Rattle.run_report.specs.ReportTexts.{count, count_where, ends, gap_of, greatest_gap, is_below, is_doubtful, kept_count, removed_count, row_tree, watts, whole}
use Rattle.run_report.specs.SummaryTexts.{summary_text}
use Rattle.run_report.specs.declared.summary.Summary.{Summary}

-- ---- arrays

items_joined : (later : Bool) (ds : List Data)
    → items_text later (items_of ds) ≡ joined later (map compact_text ds) ++ 93 ∷ []
items_joined later [] = refl
items_joined later (d ∷ ds) =
    ap (λ t. comma_if later ++ (compact_text d ++ t)) (items_joined true ds)
    ∙ ap (λ t. comma_if later ++ t)
    (sym (append_assoc (compact_text d) (joined true (map compact_text ds)) (93 ∷ [])))
    ∙ sym (append_assoc (comma_if later) (compact_text d ++ joined true (map compact_text ds)) (93 ∷ []))

pub array_joined : (ds : List Data) → compact_text (array (items_of ds)) ≡ array_text (map compact_text ds)
array_joined ds = ap (λ t. 91 ∷ t) (items_joined false ds)

joined_behind : (xs : List (List ℕ)) (y : List ℕ) → joined true (xs ++ y ∷ []) ≡ joined true xs ++ 44 ∷ y
joined_behind [] y = ap (λ t. 44 ∷ t) (append-nil y)
joined_behind (x ∷ xs) y = ap (λ t. 44 ∷ (x ++ t)) (joined_behind xs y)
    ∙ ap (λ t. 44 ∷ t) (sym (append_assoc x (joined true xs) (44 ∷ y)))

joined_after : (xs : List (List ℕ)) (y : List ℕ) → 0 < length xs
    → joined false (xs ++ y ∷ []) ≡ joined false xs ++ 44 ∷ y
joined_after [] y l = absurd (omega arith)
joined_after (x ∷ xs) y l = ap (λ t. x ++ t) (joined_behind xs y) ∙ sym (append_assoc x (joined true xs) (44 ∷ y))

-- the first text, and one more
module _ (items : List (List ℕ)) (k : ℕ) (d old text new : List ℕ) (l : k < length items)
    (was : text ≡ old ++ joined false (take k items)) where
  pub joined_first : k ≡ 0 → new ≡ text ++ get_or items k d → new ≡ old ++ joined false (take (k + 1) items)
  joined_first none is =
      let front : take k items ≡ [] = ap (λ n. take n items) none in
      is ∙ ap (λ t. t ++ get_or items k d) (was ∙ ap (λ xs. old ++ joined false xs) front ∙ append-nil old)
      ∙ ap (λ t. old ++ t) (sym (append-nil (get_or items k d)))
      ∙ ap (λ xs. old ++ joined false (xs ++ get_or items k d ∷ [])) (sym front)
      ∙ ap (λ xs. old ++ joined false xs) (sym (take_more items k d l))

  pub joined_more : 0 < k → new ≡ (text ++ 44 ∷ []) ++ get_or items k d
      → new ≡ old ++ joined false (take (k + 1) items)
  joined_more some is =
      let front : 0 < length (take k items) = let long = length-take k items in omega (arith, long, l, some) in
      is ∙ append_assoc text (44 ∷ []) (get_or items k d) ∙ ap (λ t. t ++ 44 ∷ get_or items k d) was
      ∙ append_assoc old (joined false (take k items)) (44 ∷ get_or items k d)
      ∙ ap (λ t. old ++ t) (sym (joined_after (take k items) (get_or items k d) front))
      ∙ ap (λ xs. old ++ joined false xs) (sym (take_more items k d l))

pub joined_next : (items : List (List ℕ)) (k : ℕ) (d old text new : List ℕ) → k < length items
    → text ≡ old ++ joined false (take k items)
    → (k ≡ 0 → new ≡ text ++ get_or items k d) → (0 < k → new ≡ (text ++ 44 ∷ []) ++ get_or items k d)
    → new ≡ old ++ joined false (take (k + 1) items)
joined_next items zero d old text new l was first more = joined_first items 0 d old text new l was refl (first refl)
joined_next items (suc k) d old text new l was first more =
    joined_more items (suc k) d old text new l was (omega arith) (more (omega arith))

-- the pieces of a line, one behind another
pub line_joined : (classes inner notes outer rows : List ℕ)
    → ((classes ++ (inner ++ (notes ++ (outer ++ 91 ∷ [])))) ++ rows) ++ 93 ∷ 125 ∷ 10 ∷ []
    ≡ classes ++ (inner ++ (notes ++ (outer ++ ((91 ∷ (rows ++ 93 ∷ [])) ++ 125 ∷ 10 ∷ []))))
line_joined classes inner notes outer rows =
    let behind : List ℕ = rows ++ 93 ∷ 125 ∷ 10 ∷ [] in
    append_assoc (classes ++ (inner ++ (notes ++ (outer ++ 91 ∷ [])))) rows (93 ∷ 125 ∷ 10 ∷ [])
    ∙ append_assoc classes (inner ++ (notes ++ (outer ++ 91 ∷ []))) behind
    ∙ ap (λ t. classes ++ t)
    (append_assoc inner (notes ++ (outer ++ 91 ∷ [])) behind
    ∙ ap (λ t. inner ++ t)
    (append_assoc notes (outer ++ 91 ∷ []) behind
    ∙ ap (λ t. notes ++ t)
    (append_assoc outer (91 ∷ []) behind
    ∙ ap (λ t. outer ++ 91 ∷ t) (sym (append_assoc rows (93 ∷ []) (125 ∷ 10 ∷ []))))))

-- ---- numbers

pub whole_text : (z : ℤ) → compact_text (whole z) ≡ signed_decimal z
whole_text (pos n) = refl
whole_text (negsuc n) = refl

-- ---- a row

row_pieces : (class direction element f0all f0core fref fuaf ram spread : Data) (gap : ℤ) (row : ℕ)
    → compact_text (object (
    member (codes "class") class (member (codes "direction") direction (member (codes "element") element (
    member (codes "f0all") f0all (member (codes "f0core") f0core (member (codes "fref") fref (
    member (codes "fuaf") fuaf (member (codes "gap") (whole gap) (member (codes "ram") ram (
    member (codes "row") (count row) (member (codes "spread") spread no_members))))))))))))
    ≡ labels_text (compact_text class) (compact_text direction) (compact_text element)
    ++ (without_text (compact_text f0all) (compact_text f0core)
    ++ (with_text (compact_text fref) (compact_text fuaf)
    ++ margins_text gap (compact_text ram) row (compact_text spread)))
unfolding serde_json_on_literals
row_pieces class direction element f0all f0core fref fuaf ram spread gap row = simp (append_assoc, whole_text)

pub row_is : (n : ℕ) (element : Element) (opposite : Bool) (row : RowProof) (spans : RowSpans)
    → row_text n element opposite row spans ≡ compact_text (row_tree n element opposite row spans)
row_is n element opposite row spans =
    sym (row_pieces (string (class_word row.class)) (string (direction_word opposite)) (string element.id)
    (watts spans.f0all) (watts spans.f0core) (watts spans.fref) (watts spans.fuaf)
    (watts spans.ram) (ends spans.spread.0 spans.spread.1) (gap_of row) n)

-- ---- the line

abbrev pub line_tree : ℕ → ℕ → ℤ → ℕ → ℕ → Data → ℕ → ℕ → Data → Data
line_tree below doubtful gap inner_kept inner_removed notes outer_kept outer_removed rows = object (
    member (codes "below") (count below) (
    member (codes "doubtful") (count doubtful) (
    member (codes "greatestGap") (whole gap) (
    member (codes "innerKept") (count inner_kept) (
    member (codes "innerRemoved") (count inner_removed) (
    member (codes "notes") notes (
    member (codes "outerKept") (count outer_kept) (
    member (codes "outerRemoved") (count outer_removed) (
    member (codes "rows") rows
    no_members)))))))))

pub line_is : (s : Summary) (notes rows : Data)
    → line_text s (compact_text notes) (compact_text rows)
    ≡ compact_text (line_tree s.below s.doubtful s.greatest_gap s.inner_kept s.inner_removed notes s.outer_kept
    s.outer_removed rows) ++ 10 ∷ []
unfolding serde_json_on_literals
line_is s notes rows = simp (append_assoc, whole_text)

-- ---- the summary of a generated case

-- the counts of a certificate, and its greatest gap
abbrev pub counts_of : Certificate → Summary
counts_of c = record {
  below = count_where is_below c.rows;
  doubtful = count_where is_doubtful c.rows;
  greatest_gap = greatest_gap c.rows;
  inner_kept = kept_count inner_list c.rows c.inner;
  inner_removed = removed_count c.inner;
  outer_kept = kept_count outer_list c.rows c.outer;
  outer_removed = removed_count c.outer;
}

pub summary_is : (case nodes : ℕ) (c : Certificate)
    → summary_lines case nodes (length c.rows) (counts_of c) ≡ summary_text case nodes c
summary_is case nodes c =
    simp (
      append_assoc,
      append_assoc (decimal (length c.rows)) (10 ∷ []),
      append_assoc (decimal (count_where is_below c.rows)) (10 ∷ []),
      append_assoc (decimal (count_where is_doubtful c.rows)) (10 ∷ []),
    )

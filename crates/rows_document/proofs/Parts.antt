-- What a document says of its parts.
use Rattle.std.proofs.Common.{List, [], ◌∷◌, ◌++◌, map, length}
use Rattle.std.specs.List.{All}
use Rattle.std.proofs.lemmas.List.Elements.{All-head, All-tail, All-cons, All-nil}
use Rattle.fb_types.specs.Domain.{IsHalfOver, AreBounds}
use Rattle.rows_document.specs.Records.{IsGood, IsGoodHalf, IsGoodZone}
use Rattle.rows_document.specs.declared.record.Record.TheVariants.{Zone, Row, Target, Cite, Balance}
use Rattle.rows_document.specs.Reading.{IsDocument}
use Rattle.rows_document.specs.declared.reader.RowsDocument.{RowsDocument}

pub all_left : {X : Type 0} (P : X → Type 0) (xs ys : List X) → All P (xs ++ ys) → All P xs
all_left P [] ys h = All-nil P
all_left P (x ∷ xs) ys h = All-cons P x xs (All-head P x (xs ++ ys) h) (all_left P xs ys (All-tail P x (xs ++ ys) h))

pub all_right : {X : Type 0} (P : X → Type 0) (xs ys : List X) → All P (xs ++ ys) → All P ys
all_right P [] ys h = h
all_right P (x ∷ xs) ys h = all_right P xs ys (All-tail P x (xs ++ ys) h)

pub all_unmapped : {X Y : Type 0} (P : Y → Type 0) (f : X → Y) (xs : List X) → All P (map f xs) → All (λ x. P (f x)) xs
all_unmapped P f [] h = All-nil (λ x. P (f x))
all_unmapped P f (x ∷ xs) h = All-cons (λ x. P (f x)) x xs (All-head P (f x) (map f xs) h) (all_unmapped P f xs (All-tail P (f x) (map f xs) h))

pub good_zones : (d : RowsDocument) → IsDocument d → All IsGoodZone d.bounds
good_zones d h = all_unmapped IsGood Zone d.bounds (all_left IsGood (map Zone d.bounds) _ h.in_range)

after_zones : (d : RowsDocument) → IsDocument d → All IsGood (map Row d.rows ++ (Target d.target ∷ (map Cite d.by.mults ++ Balance d.by.mu ∷ [])))
after_zones d h = all_right IsGood (map Zone d.bounds) _ h.in_range

pub good_rows : (d : RowsDocument) → IsDocument d → All IsGoodHalf d.rows
good_rows d h = all_unmapped IsGood Row d.rows (all_left IsGood (map Row d.rows) _ (after_zones d h))

pub good_target : (d : RowsDocument) → IsDocument d → IsGoodHalf d.target
good_target d h = All-head IsGood (Target d.target) _ (all_right IsGood (map Row d.rows) _ (after_zones d h))

pub target_over : (d : RowsDocument) → IsDocument d → IsHalfOver (length d.bounds) d.target
target_over d h = let g = good_target d h in record { long = h.target_over; coefficients = g.coefficients.small; side = g.side }

pub rows_over : (d : RowsDocument) → IsDocument d → All (λ row. IsHalfOver (length d.bounds) row) d.rows
rows_over d h k e l = let g = good_rows d h k e l in record { long = h.rows_over k e l; coefficients = g.coefficients.small; side = g.side }

pub are_bounds : (d : RowsDocument) → IsDocument d → AreBounds d.bounds
are_bounds d h = record {
  few = h.few_zones;
  lows = λ k e l. (good_zones d h k e l).small.low;
  highs = λ k e l. (good_zones d h k e l).small.high;
}

-- A draft of the first lines, and the documents that have them.
use Rattle.std.proofs.Common.{◌≡◌, ℕ, ℤ, true, List, [], ◌∷◌, ◌++◌, map, refl, sym, ap, ◌∙◌, subst}
use Rattle.std.specs.Prelude.{Option, Some, None}
use Rattle.std.specs.List.{All}
use Rattle.std.proofs.lemmas.List.{map_push}
use Rattle.std.proofs.lemmas.List.Elements.{All-head, All-tail, All-push, All-same}
use Rattle.fb_types.specs.declared.rows.Bounds.{Bounds}
use Rattle.fb_types.specs.declared.rows.Half.{Half}
use Rattle.fb_types.specs.declared.rows.Mult.{Mult}
use Rattle.rows_document.specs.Table.{fields_of}
use Rattle.rows_document.specs.Records.{IsGood, line_of}
use Rattle.rows_document.specs.RecordLaws.{line_same}
use Rattle.rows_document.specs.Reading.{IsDocument, AreLinesOf, IsReading, records_of}
use Rattle.rows_document.specs.Drafts.{start, takes, after, finished, runs, records_so_far, IsDraftOf}
use Rattle.rows_document.specs.declared.record.Record.{Record}
use Rattle.rows_document.specs.declared.reader.RowsDocument.{RowsDocument}
use Rattle.rows_document.specs.declared.draft.Draft.{Draft}
use Rattle.rows_document.proofs.Runs.{some_same, runs_push, runs-document, step, whole}

cons_same : {X : Type 0} (x y : X) (xs ys : List X) → (x ∷ xs) ≡ (y ∷ ys) → (x ≡ y) × (xs ≡ ys)
cons_same x y xs ys e = (cc, cc)

-- the same lines are those of the same records
pub records_same : (xs ys : List Record) → All IsGood xs → All IsGood ys → map line_of xs ≡ map line_of ys → xs ≡ ys
records_same [] [] p q e = refl
records_same [] (y ∷ ys) p q e = cc
records_same (x ∷ xs) [] p q e = cc
records_same (x ∷ xs) (y ∷ ys) p q e =
    let c = cons_same (line_of x) (line_of y) (map line_of xs) (map line_of ys) e in
    let first = line_same x y (All-head IsGood x xs p) (All-head IsGood y ys q) c.0 in
    let rest = records_same xs ys (All-tail IsGood x xs p) (All-tail IsGood y ys q) c.1 in
    λ i. first i ∷ rest i

-- one more line
pub one_more : (texts : List (List ℕ)) (line : List ℕ) (e : Draft) (r : Record) → IsDraftOf texts e → IsGood r → fields_of line ≡ line_of r → takes e r ≡ true → IsDraftOf (texts ++ line ∷ []) (after e r)
one_more texts line e r is good here taken =
    let s = step e r is.staged taken in
    record {
      spelled = ap (map line_of) s.0 ∙ map_push line_of (records_so_far e) r ∙ (λ i. is.spelled i ++ (sym here i ∷ [])) ∙ sym (map_push fields_of texts line);
      good = All-same IsGood (records_so_far (after e r)) (records_so_far e ++ r ∷ []) s.0 (All-push IsGood (records_so_far e) r is.good good);
      run = ap (runs start) s.0 ∙ runs_push (records_so_far e) r start e is.run taken;
      staged = s.1;
    }

-- the draft of all the lines is that of the one document with these lines
pub all_lines : (texts : List (List ℕ)) (e : Draft) (d : RowsDocument) → IsDraftOf texts e → IsDocument d → map fields_of texts ≡ map line_of (records_of d) → e ≡ whole d
all_lines texts e d is doc lines =
    let same = records_same (records_so_far e) (records_of d) is.good doc.in_range (is.spelled ∙ lines) in
    let here : runs start (records_of d) ≡ Some e = ap (runs start) (sym same) ∙ is.run in
    let there = runs-document d doc in
    cc

pub whole_finishes : (d : RowsDocument) → finished (whole d) ≡ Some d
whole_finishes d = refl

-- a draft that is whole is a document
finish_parts : (texts : List (List ℕ)) (bs : List Bounds) (hs : List Half) (t : Option Half) (ms : List Mult) (mu : Option ℤ) (d : RowsDocument) → IsDraftOf texts (record { bounds = bs; rows = hs; target = t; mults = ms; mu = mu }) → finished (record { bounds = bs; rows = hs; target = t; mults = ms; mu = mu }) ≡ Some d → AreLinesOf texts d
finish_parts texts bs hs None ms mu d is e = cc
finish_parts texts bs hs (Some h) ms None d is e = cc
finish_parts texts bs hs (Some h) ms (Some v) d is e =
    let made : RowsDocument = record { bounds = bs; rows = hs; target = h; by = record { mu = v; mults = ms } } in
    let same : made ≡ d = some_same made d e in
    let over = is.staged.target_over in
    let found : AreLinesOf texts made = record {
      document = record { some_zone = over.0; few_zones = is.staged.few_zones; few_rows = is.staged.few_rows; rows_over = is.staged.rows_over; target_over = over.1; in_range = is.good };
      spelled = sym is.spelled;
    } in
    subst (AreLinesOf texts) same found

pub finish_found : (texts : List (List ℕ)) (e : Draft) (d : RowsDocument) → IsDraftOf texts e → finished e ≡ Some d → AreLinesOf texts d
finish_found texts e d is f = finish_parts texts e.bounds e.rows e.target e.mults e.mu d is f

-- a draft that is not whole is that of no document
pub finish_none : (texts : List (List ℕ)) (e : Draft) → IsDraftOf texts e → finished e ≡ None → (d : RowsDocument) → AreLinesOf texts d → ⊥
finish_none texts e is none d lines =
    let here : finished e ≡ Some d = ap finished (all_lines texts e d is lines.document lines.spelled) ∙ whole_finishes d in
    cc

-- ---- the bytes spell one document at most
whole_same : (d e : RowsDocument) → whole d ≡ whole e → d ≡ e
whole_same d e same =
    let here : Some d ≡ Some e = ap finished same in
    some_same d e here

pub reading_same : (bytes : List ℕ) (d e : RowsDocument) → IsReading bytes d → IsReading bytes e → d ≡ e
reading_same bytes d e r s =
    let records = records_same (records_of d) (records_of e) r.document.in_range s.document.in_range (sym r.spelled ∙ s.spelled) in
    let here = runs-document d r.document in
    let there = runs-document e s.document in
    let runs_same = ap (runs start) records in
    let both : Some (whole d) ≡ Some (whole e) = cc in
    whole_same d e (some_same (whole d) (whole e) both)

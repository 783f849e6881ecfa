-- Runs of lines into a draft.
use Rattle.std.proofs.Common.{◌≡◌, pos, Bool, true, false, cond, List, [], ◌∷◌, ◌++◌, map, refl, sym, ap, ◌∙◌, append_assoc, append-nil}
use Rattle.std.specs.Prelude.{Option, Some, None}
use Rattle.std.specs.List.{flat_map}
use Rattle.fb_types.specs.declared.rows.Angles.{Angles}
use Rattle.state_proofs.specs.declared.StateProof.{StateProof}
use Rattle.cnec_rows.specs.declared.types.RowProof.{RowProof}
use Rattle.fb_certificate.specs.declared.types.Certificate.{Certificate}
use Rattle.fb_certificate.specs.declared.types.Cite.{Cite}
use Rattle.certificate_text.specs.Lines.{Line, column_line, row_line, inner_line, outer_line, end_line}
use Rattle.certificate_reader.specs.declared.draft.Draft.{Draft}
use Rattle.certificate_reader.specs.declared.draft.Last.TheVariants as last
use Rattle.certificate_reader.specs.Reading.{no_place, state_lines, lines_of}
use Rattle.certificate_reader.specs.Drafts.{start, admits, with_line, runs}
use Rattle.certificate_reader.proofs.Steps.{made}

pub some_same : {X : Type 0} (x y : X) → Some x ≡ Some y → x ≡ y
some_same x y e = cc

run_one : (d : Draft) (l : Line) (ls : List Line) → admits d l ≡ true → runs d (l ∷ ls) ≡ runs (with_line d l) ls
run_one d l ls t = ap (λ (b : Bool). cond b (runs (with_line d l) ls) None) t

pub run_stops : (d : Draft) (l : Line) (ls : List Line) → admits d l ≡ false → runs d (l ∷ ls) ≡ None
run_stops d l ls t = ap (λ (b : Bool). cond b (runs (with_line d l) ls) None) t

run_taken : (b : Bool) (o : Option Draft) (e : Draft) → cond b o None ≡ Some e → (b ≡ true) × (o ≡ Some e)
run_taken true o e h = (refl, h)
run_taken false o e h = cc

pub runs-append : (xs ys : List Line) (d e : Draft) → runs d xs ≡ Some e → runs d (xs ++ ys) ≡ runs e ys
runs-append [] ys d e h = ap (λ (t : Draft). runs t ys) (some_same d e h)
runs-append (x ∷ xs) ys d e h =
    let t = run_taken (admits d x) (runs (with_line d x) xs) e h in
    run_one d x (xs ++ ys) t.0 ∙ runs-append xs ys (with_line d x) e t.1

pub runs_push : (xs : List Line) (l : Line) (d e : Draft) → runs d xs ≡ Some e → admits e l ≡ true → runs d (xs ++ l ∷ []) ≡ Some (with_line e l)
runs_push xs l d e h t = runs-append xs (l ∷ []) d e h ∙ run_one e l [] t

-- ---- the lines of a certificate run through

outer_tail : (states : List StateProof) (rows : List RowProof) (inner front outer : List Cite) → runs (made last.Outer states rows inner front) (map outer_line outer ++ end_line ∷ []) ≡ Some (made last.End states rows inner (front ++ outer))
outer_tail states rows inner front [] = ap (λ (o : List Cite). Some (made last.End states rows inner o)) (sym (append-nil front))
outer_tail states rows inner front (c ∷ outer) =
    outer_tail states rows inner (front ++ c ∷ []) outer
    ∙ ap (λ (o : List Cite). Some (made last.End states rows inner o)) (append_assoc front (c ∷ []) outer)

inner_end : (states : List StateProof) (rows : List RowProof) (inner outer : List Cite) → runs (made last.Inner states rows inner []) (map outer_line outer ++ end_line ∷ []) ≡ Some (made last.End states rows inner outer)
inner_end states rows inner [] = refl
inner_end states rows inner (c ∷ outer) = outer_tail states rows inner (c ∷ []) outer

inner_tail : (states : List StateProof) (rows : List RowProof) (front inner outer : List Cite) → runs (made last.Inner states rows front []) (map inner_line inner ++ (map outer_line outer ++ end_line ∷ [])) ≡ Some (made last.End states rows (front ++ inner) outer)
inner_tail states rows front [] outer = inner_end states rows front outer ∙ ap (λ (i : List Cite). Some (made last.End states rows i outer)) (sym (append-nil front))
inner_tail states rows front (c ∷ inner) outer =
    inner_tail states rows (front ++ c ∷ []) inner outer
    ∙ ap (λ (i : List Cite). Some (made last.End states rows i outer)) (append_assoc front (c ∷ []) inner)

row_end : (states : List StateProof) (rows : List RowProof) (inner outer : List Cite) → runs (made last.Row states rows [] []) (map inner_line inner ++ (map outer_line outer ++ end_line ∷ [])) ≡ Some (made last.End states rows inner outer)
row_end states rows [] [] = refl
row_end states rows [] (c ∷ outer) = outer_tail states rows [] (c ∷ []) outer
row_end states rows (c ∷ inner) outer = inner_tail states rows (c ∷ []) inner outer

row_tail : (states : List StateProof) (front rows : List RowProof) (inner outer : List Cite) → runs (made last.Row states front [] []) (map (row_line (pos 0)) rows ++ (map inner_line inner ++ (map outer_line outer ++ end_line ∷ []))) ≡ Some (made last.End states (front ++ rows) inner outer)
row_tail states front [] inner outer = row_end states front inner outer ∙ ap (λ (r : List RowProof). Some (made last.End states r inner outer)) (sym (append-nil front))
row_tail states front (x ∷ rows) inner outer =
    row_tail states (front ++ x ∷ []) rows inner outer
    ∙ ap (λ (r : List RowProof). Some (made last.End states r inner outer)) (append_assoc front (x ∷ []) rows)

abbrev tail_lines : List RowProof → List Cite → List Cite → List Line
tail_lines rows inner outer = map (row_line (pos 0)) rows ++ (map inner_line inner ++ (map outer_line outer ++ end_line ∷ []))

-- behind a state
column_tail : (s : StateProof) (states : List StateProof) (rows : List RowProof) (inner outer : List Cite) → runs (made (last.Column s) states [] [] []) (tail_lines rows inner outer) ≡ Some (made last.End (states ++ s ∷ []) rows inner outer)
column_tail s states [] [] [] = refl
column_tail s states [] [] (c ∷ outer) = outer_tail (states ++ s ∷ []) [] [] (c ∷ []) outer
column_tail s states [] (c ∷ inner) outer = inner_tail (states ++ s ∷ []) [] (c ∷ []) inner outer
column_tail s states (r ∷ rows) inner outer = row_tail (states ++ s ∷ []) (r ∷ []) rows inner outer

-- behind the version
version_tail : (rows : List RowProof) (inner outer : List Cite) → runs (made last.Version [] [] [] []) (tail_lines rows inner outer) ≡ Some (made last.End [] rows inner outer)
version_tail [] [] [] = refl
version_tail [] [] (c ∷ outer) = outer_tail [] [] [] (c ∷ []) outer
version_tail [] (c ∷ inner) outer = inner_tail [] [] (c ∷ []) inner outer
version_tail (r ∷ rows) inner outer = row_tail [] (r ∷ []) rows inner outer

abbrev with_blocks : StateProof → List Angles → StateProof
with_blocks s bs = record { barrier = s.barrier; reference = s.reference; blocks = bs }

blocks_run : (s : StateProof) (front bs : List Angles) (states : List StateProof) (rest : List Line) → runs (made (last.Column (with_blocks s front)) states [] [] []) (map (column_line no_place) bs ++ rest) ≡ runs (made (last.Column (with_blocks s (front ++ bs))) states [] [] []) rest
blocks_run s front [] states rest = ap (λ (t : List Angles). runs (made (last.Column (with_blocks s t)) states [] [] []) rest) (sym (append-nil front))
blocks_run s front (b ∷ bs) states rest =
    blocks_run s (front ++ b ∷ []) bs states rest
    ∙ ap (λ (t : List Angles). runs (made (last.Column (with_blocks s t)) states [] [] []) rest) (append_assoc front (b ∷ []) bs)

states_run : (s : StateProof) (states more : List StateProof) (rows : List RowProof) (inner outer : List Cite) → runs (made (last.Column s) states [] [] []) (flat_map state_lines more ++ tail_lines rows inner outer) ≡ Some (made last.End (states ++ s ∷ more) rows inner outer)
states_run s states [] rows inner outer = column_tail s states rows inner outer
states_run s states (t ∷ more) rows inner outer =
    let rest = tail_lines rows inner outer in
    let columns = map (column_line no_place) t.blocks in
    ap (runs (made (last.Column (with_blocks t [])) (states ++ s ∷ []) [] [] [])) (append_assoc columns (flat_map state_lines more) rest)
    ∙ blocks_run t [] t.blocks (states ++ s ∷ []) (flat_map state_lines more ++ rest)
    ∙ states_run t (states ++ s ∷ []) more rows inner outer
    ∙ ap (λ (a : List StateProof). Some (made last.End a rows inner outer)) (append_assoc states (s ∷ []) (t ∷ more))

all_run : (states : List StateProof) (rows : List RowProof) (inner outer : List Cite) → runs (made last.Version [] [] [] []) (flat_map state_lines states ++ tail_lines rows inner outer) ≡ Some (made last.End states rows inner outer)
all_run [] rows inner outer = version_tail rows inner outer
all_run (s ∷ more) rows inner outer =
    let rest = tail_lines rows inner outer in
    ap (runs (made (last.Column (with_blocks s [])) [] [] [] [])) (append_assoc (map (column_line no_place) s.blocks) (flat_map state_lines more) rest)
    ∙ blocks_run s [] s.blocks [] (flat_map state_lines more ++ rest)
    ∙ states_run s [] more rows inner outer

abbrev pub whole : Certificate → Draft
whole c = made last.End c.states c.rows c.inner c.outer

pub runs-certificate : (c : Certificate) → runs start (lines_of c) ≡ Some (whole c)
runs-certificate c = all_run c.states c.rows c.inner c.outer

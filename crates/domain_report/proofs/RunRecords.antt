-- The records of the rows of a run, one after another.
use Rattle.std.proofs.Common.{◌≡◌, ℕ, zero, suc, ◌+◌, ◌<◌, ◌≤◌, Bool, true, false, List, [], ◌∷◌, ◌++◌, length, take, get_or, None, Some, pos, refl, sym, ap, ◌∙◌, arith}
use Rattle.std.specs.Prelude.{min, slice_get}
use Rattle.std.specs.List.{enumerate_from, zip}
use Rattle.std.proofs.lemmas.List.{length-map, get_or-map, take_all, take_more}
use Rattle.std.proofs.lemmas.List.Elements.{All-get_or}
use Rattle.std.proofs.lemmas.List.FromFn.{length-enumerate_from, get_or-enumerate_from}
use Rattle.std.proofs.lemmas.Option.{slice_get_within, get_or_from_slice_get}
use Rattle.std.proofs.lemmas.Slice.Zip.{get_or-zip, length-zip}
use Rattle.csv_rows.specs.Tables.{record_text, table_text}
use Rattle.csv_rows.specs.TableLaws.{record_more}
use Rattle.fb_types.specs.declared.crac.Element.{Element}
use Rattle.cnec_rows.specs.declared.types.RowProof.{RowProof}
use Rattle.fb_certificate.specs.CracRows.{CracRow, crac_rows}
use Rattle.fb_certificate.specs.RunRows.{IsCracRow, directed, is_opposite, run_row, run_rows}
use Rattle.fb_certificate.specs.declared.types.Certificate.{Certificate}
use Rattle.fb_certificate.specs.declared.types.Direction.TheVariants.{Direct}
use Rattle.fb_certificate.specs.declared.types.Inputs.{Inputs}
use Rattle.fb_certificate.specs.declared.types.RunRow.{RunRow}
use Rattle.fb_certificate.proofs.RunLaws.{crac_rows_are, crac_row_at}
use Rattle.domain_report.specs.DomainTexts.{record_of, records, row_fields}

direction_back : (opposite : Bool) → is_opposite (directed opposite) ≡ opposite
direction_back true = refl
direction_back false = refl

module _ (inputs : Inputs) (k : ℕ) (row : RunRow) (within : k < length (run_rows inputs)) (read : row ≡ get_or (run_rows inputs) k row) where
  -- the row of the CRAC
  crac_row : (d : CracRow) → get_or (run_rows inputs) k row ≡ run_row inputs (get_or (crac_rows inputs.crac.elements) k d)
  crac_row d = get_or-map (run_row inputs) (crac_rows inputs.crac.elements) k d row (let long = length-map (crac_rows inputs.crac.elements) (run_row inputs) in omega (arith, long, within))

  -- its element stands at the row's place
  pub element_stands : (d : CracRow) → slice_get inputs.crac.elements row.element ≡ Some (get_or (crac_rows inputs.crac.elements) k d).element
  element_stands d =
      let rows = crac_rows inputs.crac.elements in
      let long = length-map rows (run_row inputs) in
      ap (λ (r : RunRow). slice_get inputs.crac.elements r.element) (read ∙ crac_row d)
      ∙ (All-get_or (IsCracRow inputs.crac.elements) rows k d (omega (arith, long, within)) (crac_rows_are inputs.crac.elements)).same_element

-- the row that stands for one past the end of a list
abbrev pub no_row : RunRow
no_row = record {
  element = 0;
  direction = Direct;
  state = 0;
  terms = record { branch = 0; against = false; limit = pos 0; margin = pos 0; cva = pos 0; iva = pos 0; ramr = 0; threshold = 0 };
}

-- a row is read with any default
pub reads : {A : Type 0} (xs : List A) (k : ℕ) (d e : A) → k < length xs → get_or xs k d ≡ get_or xs k e
reads [] k d e l = absurd (omega arith)
reads (x ∷ xs) zero d e l = refl
reads (x ∷ xs) (suc k) d e l = reads xs k d e (omega arith)

pub read_as : (inputs : Inputs) (rows : List RunRow) (k : ℕ) (d : RunRow) → rows ≡ run_rows inputs → k < length rows → get_or rows k d ≡ get_or (run_rows inputs) k (get_or rows k d)
read_as inputs rows k d same l = reads rows k d (get_or rows k d) l ∙ ap (λ (rs : List RunRow). get_or rs k (get_or rows k d)) same

pub element_within : (inputs : Inputs) (rows : List RunRow) (k : ℕ) (d : RunRow) → rows ≡ run_rows inputs → k < length rows → (get_or rows k d).element < length inputs.crac.elements
element_within inputs rows k d same l =
    let here = crac_row_at (crac_rows inputs.crac.elements) k (omega (arith, l, ap length same, length-map (crac_rows inputs.crac.elements) (run_row inputs))) in
    slice_get_within inputs.crac.elements (get_or rows k d).element (get_or (crac_rows inputs.crac.elements) k here.0).element
    (element_stands inputs k (get_or rows k d) (omega (arith, l, ap length same)) (read_as inputs rows k d same l) here.0)

-- there are no numbers from the end of the list on
pub none_past : {A : Type 0} (xs : List A) (k : ℕ) → None ≡ slice_get xs k → length xs ≤ k
none_past [] k e = omega arith
none_past (x ∷ xs) zero e = absurd (cc)
none_past (x ∷ xs) (suc k) e = let l = none_past xs k e in omega (arith, l)

-- one record more
pub record_added : (inputs : Inputs) (certificate : Certificate) (k : ℕ) (row : RunRow) (numbers : RowProof) (element : Element) (old text new : List ℕ)
    → k < length (run_rows inputs) → k < length certificate.rows → row ≡ get_or (run_rows inputs) k row → numbers ≡ get_or certificate.rows k numbers
    → element ≡ get_or inputs.crac.elements row.element element
    → text ≡ old ++ table_text (take k (records inputs.crac certificate))
    → new ≡ text ++ record_text (row_fields inputs.crac.contingencies certificate (k + 1) element (is_opposite row.direction) numbers)
    → new ≡ old ++ table_text (take (k + 1) (records inputs.crac certificate))
record_added inputs certificate k row numbers element old text new within listed row_is numbers_are element_is was is =
    let rows = crac_rows inputs.crac.elements in
    let text_of : (ℕ × CracRow) × RowProof → List (List ℕ) = record_of inputs.crac.contingencies certificate in
    let pairs = zip (enumerate_from 1 rows) certificate.rows in
    let below : k < length rows = let long = length-map rows (run_row inputs) in omega (arith, long, within) in
    let numbered : k < length (enumerate_from 1 rows) = let long = length-enumerate_from 1 rows in omega (arith, long, below) in
    let here : k < length pairs = let long = length-zip (enumerate_from 1 rows) certificate.rows in omega (arith, long, numbered, listed) in
    let c = crac_row_at rows k below in
    let this : (ℕ × CracRow) × RowProof = ((k + 1, c.0), numbers) in
    let same_row : run_row inputs c.0 ≡ row = sym (row_is ∙ (get_or-map (run_row inputs) rows k c.0 row below ∙ ap (run_row inputs) c.1)) in
    let same_element : element ≡ c.0.element =
    element_is ∙ get_or_from_slice_get inputs.crac.elements row.element c.0.element element
    (element_stands inputs k row within row_is c.0 ∙ ap (λ (d : CracRow). Some d.element) c.1) in
    let same_direction : is_opposite row.direction ≡ c.0.opposite = ap (λ (r : RunRow). is_opposite r.direction) (sym same_row) ∙ direction_back c.0.opposite in
    let pair : get_or pairs k this ≡ this =
    get_or-zip (enumerate_from 1 rows) certificate.rows k this numbered listed
    ∙ ap (λ (p : ℕ × CracRow). (p, get_or certificate.rows k numbers)) (get_or-enumerate_from 1 rows k (k + 1, c.0) below)
    ∙ ap (λ (n : ℕ). ((n, get_or rows k c.0), get_or certificate.rows k numbers)) (omega arith)
    ∙ ap (λ (d : CracRow). ((k + 1, d), get_or certificate.rows k numbers)) c.1
    ∙ ap (λ (p : RowProof). ((k + 1, c.0), p)) (sym numbers_are) in
    record_more old text new (take k (records inputs.crac certificate)) (text_of this) was
    (is ∙ ap (λ (e : Element). text ++ record_text (row_fields inputs.crac.contingencies certificate (k + 1) e (is_opposite row.direction) numbers)) same_element
    ∙ ap (λ (o : Bool). text ++ record_text (row_fields inputs.crac.contingencies certificate (k + 1) c.0.element o numbers)) same_direction)
    ∙ ap (λ (r : List (List ℕ)). old ++ table_text (take k (records inputs.crac certificate) ++ r ∷ [])) (sym (get_or-map text_of pairs k this (text_of this) here ∙ ap text_of pair))
    ∙ ap (λ (rs : List (List (List ℕ))). old ++ table_text rs) (sym (take_more (records inputs.crac certificate) k (text_of this) (let long = length-map pairs text_of in omega (arith, long, here))))

-- all records, after the last row that has numbers
pub records_done : (inputs : Inputs) (certificate : Certificate) (k : ℕ) (old text : List ℕ) → min (length (run_rows inputs)) (length certificate.rows) ≤ k
    → text ≡ old ++ table_text (take k (records inputs.crac certificate)) → text ≡ old ++ table_text (records inputs.crac certificate)
records_done inputs certificate k old text past was =
    let rows = crac_rows inputs.crac.elements in
    let pairs = zip (enumerate_from 1 rows) certificate.rows in
    was ∙ ap (λ (rs : List (List (List ℕ))). old ++ table_text rs)
    (take_all k (records inputs.crac certificate)
    (omega (arith, past, length-map rows (run_row inputs), length-enumerate_from 1 rows, length-zip (enumerate_from 1 rows) certificate.rows, length-map pairs (record_of inputs.crac.contingencies certificate))))

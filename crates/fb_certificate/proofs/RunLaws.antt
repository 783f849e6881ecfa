-- The rows of a run: each is the row of an element in a direction in which it has a limit.
use Rattle.std.proofs.Common.{◌≡◌, ℕ, zero, suc, ◌+◌, ◌*◌, ◌-◌, ◌<◌, ◌≤◌, Bool, true, false, List, [], ◌∷◌, ◌++◌, length, map, take, get_or, All, Option, Some, None, ℤ, refl, sym, ap, subst, ◌∙◌, arith, append_assoc, length-append}
use Rattle.std.specs.Prelude.{slice_get}
use Rattle.std.specs.List.{Contains, enumerate_from, flat_map}
use Rattle.std.proofs.lemmas.List.{append-nil, length-map, get_or-map, map-append, take_all, take_more}
use Rattle.std.proofs.lemmas.List.Concat.{flat_map-append}
use Rattle.std.proofs.lemmas.List.Elements.{All-nil, All-cons, All-append, All-get_or}
use Rattle.std.proofs.lemmas.List.FromFn.{length-enumerate_from, get_or-enumerate_from}
use Rattle.std.proofs.lemmas.Option.{slice_get_within, get_or_from_slice_get}
use Rattle.fb_types.specs.declared.crac.Element.{Element}
use Rattle.cnec_rows.specs.declared.types.RowTerms.{RowTerms}
use Rattle.run_settings.specs.Reductions.{limit_in}
use Rattle.fb_certificate.specs.CracRows.{CracRow, row_if, rows_of_element, crac_rows, state_number}
use Rattle.fb_certificate.specs.Lists.{numbered}
use Rattle.fb_certificate.specs.RunRows.{IsCracRow, directed, is_opposite, row_with, run_row, run_rows}
use Rattle.fb_certificate.specs.Situations.{stated}
use Rattle.fb_certificate.specs.Whole.{IsWhole}
use Rattle.fb_certificate.specs.declared.types.Direction.{Direction}
use Rattle.fb_certificate.specs.declared.types.Direction.TheVariants.{Direct, Opposite}
use Rattle.fb_certificate.specs.declared.types.Inputs.{Inputs}
use Rattle.fb_certificate.specs.declared.types.RunRow.{RunRow}

-- ---- what holds of each row

row_if_is : (elements : List Element) (place : ℕ) (e : Element) (is_opposite : Bool) (limit : Option ℤ) → slice_get elements place ≡ Some e → limit_in is_opposite e ≡ limit
    → All (IsCracRow elements) (row_if (place, e) is_opposite limit)
row_if_is elements place e is_opposite None stands same = All-nil (IsCracRow elements)
row_if_is elements place e is_opposite (Some limit) stands same =
    All-cons (IsCracRow elements) (record { place = place; element = e; opposite = is_opposite; limit = limit }) [] (record { same_element = stands; limited = same }) (All-nil (IsCracRow elements))

rows_from : (elements : List Element) (place : ℕ) (es : List Element) → ((i : ℕ) (e : Element) → slice_get es i ≡ Some e → slice_get elements (place + i) ≡ Some e)
    → All (IsCracRow elements) (flat_map rows_of_element (enumerate_from place es))
rows_from elements place [] at = All-nil (IsCracRow elements)
rows_from elements place (e ∷ es) at =
    let here : slice_get elements place ≡ Some e = ap (slice_get elements) (omega arith) ∙ at 0 e refl in
    All-append (IsCracRow elements) (rows_of_element (place, e)) (flat_map rows_of_element (enumerate_from (place + 1) es))
    (All-append (IsCracRow elements) (row_if (place, e) false e.direct) (row_if (place, e) true e.opposite)
    (row_if_is elements place e false e.direct here refl) (row_if_is elements place e true e.opposite here refl))
    (rows_from elements (place + 1) es (λ i d h. ap (slice_get elements) (omega arith) ∙ at (suc i) d h))

pub crac_rows_are : (elements : List Element) → All (IsCracRow elements) (crac_rows elements)
crac_rows_are elements = rows_from elements 0 elements (λ i e h. ap (slice_get elements) (omega arith) ∙ h)

-- a row of the run is that of a row of the CRAC
pub record IsListed (inputs : Inputs) (row : RunRow) : Type 0 where
  pub of : CracRow
  pub is : run_row inputs of ≡ row
  pub fits : IsCracRow inputs.crac.elements of

row_within : (rows : List CracRow) (k : ℕ) → k < length rows → (c : CracRow) × (get_or rows k c ≡ c)
row_within [] k l = absurd (omega arith)
row_within (c ∷ cs) zero l = (c, refl)
row_within (c ∷ cs) (suc k) l = row_within cs k (omega arith)

pub listed : (inputs : Inputs) (row : RunRow) → Contains (run_rows inputs) row → IsListed inputs row
listed inputs row (k, below, is) =
    let rows = crac_rows inputs.crac.elements in
    let within : k < length rows = subst (λ n. k < n) (length-map rows (run_row inputs)) below in
    let c = row_within rows k within in
    record {
      of = c.0;
      is = sym (get_or-map (run_row inputs) rows k c.0 row within ∙ ap (run_row inputs) c.1) ∙ is;
      fits = subst (IsCracRow inputs.crac.elements) c.1 (All-get_or (IsCracRow inputs.crac.elements) rows k c.0 within (crac_rows_are inputs.crac.elements));
    }

-- ---- the number of rows

one_row : (e : ℕ × Element) (is_opposite : Bool) (limit : Option ℤ) → length (row_if e is_opposite limit) ≤ 1
one_row e is_opposite None = omega arith
one_row e is_opposite (Some limit) = omega arith

two_rows : (es : List (ℕ × Element)) → length (flat_map rows_of_element es) ≤ 2 * length es
two_rows [] = omega arith
two_rows (e ∷ es) =
    let direct = row_if e false e.1.direct in
    let opposite = row_if e true e.1.opposite in
    omega (arith, length-append (direct ++ opposite) (flat_map rows_of_element es), length-append direct opposite, one_row e false e.1.direct, one_row e true e.1.opposite, two_rows es)

pub few_rows : (inputs : Inputs) → IsWhole inputs → length (run_rows inputs) ≤ 40000
few_rows inputs whole =
    omega (arith, length-map (crac_rows inputs.crac.elements) (run_row inputs), two_rows (enumerate_from 0 inputs.crac.elements), length-enumerate_from 0 inputs.crac.elements, whole.crac.few_elements)

-- ---- the rows of one element more

pub rows_more : (inputs : Inputs) (k : ℕ) (e : Element) (before between after : List RunRow) → slice_get inputs.crac.elements k ≡ Some e
    → before ≡ map (run_row inputs) (flat_map rows_of_element (take k (enumerate_from 0 inputs.crac.elements)))
    → between ≡ before ++ map (run_row inputs) (row_if (k, e) false e.direct)
    → after ≡ between ++ map (run_row inputs) (row_if (k, e) true e.opposite)
    → after ≡ map (run_row inputs) (flat_map rows_of_element (take (k + 1) (enumerate_from 0 inputs.crac.elements)))
rows_more inputs k e before between after stands was direct opposite =
    let elements = inputs.crac.elements in
    let numbered = enumerate_from 0 elements in
    let below : k < length elements = slice_get_within elements k e stands in
    let within : k < length numbered = let long = length-enumerate_from 0 elements in omega (arith, long) in
    let front = flat_map rows_of_element (take k numbered) in
    let none_before : 0 + k ≡ k = omega arith in
    let at : get_or numbered k (k, e) ≡ (k, e) =
    get_or-enumerate_from 0 elements k (k, e) below ∙ ap (λ (d : Element). (0 + k, d)) (get_or_from_slice_get elements k e e stands) ∙ ap (λ (n : ℕ). (n, e)) none_before in
    opposite
    ∙ ap (λ rows. rows ++ map (run_row inputs) (row_if (k, e) true e.opposite)) (direct ∙ ap (λ rows. rows ++ map (run_row inputs) (row_if (k, e) false e.direct)) was)
    ∙ ap (λ rows. rows ++ map (run_row inputs) (row_if (k, e) true e.opposite)) (sym (map-append (run_row inputs) front (row_if (k, e) false e.direct)))
    ∙ sym (map-append (run_row inputs) (front ++ row_if (k, e) false e.direct) (row_if (k, e) true e.opposite))
    ∙ ap (map (run_row inputs)) (append_assoc front (row_if (k, e) false e.direct) (row_if (k, e) true e.opposite)
    ∙ sym (ap (flat_map rows_of_element) (take_more numbered k (k, e) within)
    ∙ flat_map-append rows_of_element (take k numbered) (get_or numbered k (k, e) ∷ [])
    ∙ ap (λ (p : ℕ × Element). front ++ (rows_of_element p ++ [])) at
    ∙ ap (λ rows. front ++ rows) (append-nil (rows_of_element (k, e)))))

-- after the last element all rows are there
pub rows_done : (inputs : Inputs) (k : ℕ) (rows : List RunRow) → length inputs.crac.elements ≤ k
    → rows ≡ map (run_row inputs) (flat_map rows_of_element (take k (enumerate_from 0 inputs.crac.elements))) → rows ≡ run_rows inputs
rows_done inputs k rows l so_far =
    let long = length-enumerate_from 0 inputs.crac.elements in
    so_far ∙ ap (λ (ps : List (ℕ × Element)). map (run_row inputs) (flat_map rows_of_element ps)) (take_all k (enumerate_from 0 inputs.crac.elements) (omega (arith, long)))

-- ---- one row more

abbrev pub the_row : ℕ → Direction → ℕ → RowTerms → RunRow
the_row element direction state terms = record { element = element; direction = direction; state = state; terms = terms }

pushed_same : (element state state' : ℕ) (direction direction' : Direction) (terms terms' : RowTerms) → direction ≡ direction' → state ≡ state' → terms ≡ terms'
    → the_row element direction state terms ∷ [] ≡ the_row element direction' state' terms' ∷ []
pushed_same element state state' direction direction' terms terms' d s t = λ i. the_row element (d i) (s i) (t i) ∷ []

directed_back : (direction : Direction) → direction ≡ directed (is_opposite direction)
directed_back Direct = refl
directed_back Opposite = refl

pub row_pushed : (inputs : Inputs) (place : ℕ) (e : Element) (direction : Direction) (limit : ℤ) (o : Option ℤ) (state : ℕ) (terms : RowTerms) → o ≡ Some limit
    → state ≡ state_number inputs.outages e.contingency → terms ≡ stated inputs (row_with place e direction limit)
    → the_row place direction state terms ∷ [] ≡ map (run_row inputs) (row_if (place, e) (is_opposite direction) o)
row_pushed inputs place e direction limit o state terms same s t =
    pushed_same place state (state_number inputs.outages e.contingency) direction (directed (is_opposite direction)) terms (stated inputs (row_with place e direction limit)) (directed_back direction) s t
    ∙ ap (λ (l : Option ℤ). map (run_row inputs) (row_if (place, e) (is_opposite direction) l)) (sym same)

-- ---- rows by number

-- the row of the run at the place of a row of the CRAC
pub run_row_at : (inputs : Inputs) (rows : List RunRow) (k : ℕ) (c : CracRow) (d : RunRow) → rows ≡ run_rows inputs → k < length (crac_rows inputs.crac.elements) → get_or (crac_rows inputs.crac.elements) k c ≡ c
    → run_row inputs c ≡ get_or rows k d
run_row_at inputs rows k c d same l read =
    sym (ap (λ (rs : List RunRow). get_or rs k d) same ∙ (get_or-map (run_row inputs) (crac_rows inputs.crac.elements) k c d l ∙ ap (run_row inputs) read))

pub numbered_row : (inputs : Inputs) (rows : List RunRow) (n : ℕ) (c : CracRow) (row : RunRow) → rows ≡ run_rows inputs → numbered (crac_rows inputs.crac.elements) n ≡ Some c → row ≡ get_or rows (n - 1) row
    → run_row inputs c ≡ row
numbered_row inputs rows zero c row same h read = absurd (cc)
numbered_row inputs rows (suc n) c row same h read =
    run_row_at inputs rows n c row same (slice_get_within (crac_rows inputs.crac.elements) n c h) (get_or_from_slice_get (crac_rows inputs.crac.elements) n c c h)
    ∙ (ap (λ (k : ℕ). get_or rows k row) (omega arith) ∙ sym read)

pub crac_row_at : (rows : List CracRow) (k : ℕ) → k < length rows → (c : CracRow) × (get_or rows k c ≡ c)
crac_row_at rows k l = row_within rows k l

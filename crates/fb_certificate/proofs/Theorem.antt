-- The rows of a valid certificate have the capacity theorem.
use Rattle.std.proofs.Common.{◌≡◌, ℕ, zero, suc, ◌-◌, ◌<◌, Bool, true, false, List, [], ◌∷◌, length, get_or, map, All, refl, sym, ap, subst, ◌∙◌, arith, pos, ℤ}
use Rattle.std.specs.Prelude.{Option, Some, None, IfSome, slice_get, ◌==◌, ◌&&◌, ◌||◌, not}
use Rattle.std.specs.List.{AllZip}
use Rattle.std.specs.Option.{option_map_or}
use Rattle.std.proofs.lemmas.Bool.{eqb-true}
use Rattle.std.proofs.lemmas.List.Elements.{All-head, All-tail, All-map}
use Rattle.fb_types.specs.Domain.{IsPoint, Meets, Follows, row_at}
use Rattle.fb_types.specs.FollowsLaws.{Follows-implies}
use Rattle.fb_types.specs.declared.grid.Grid.{Grid}
use Rattle.fb_types.specs.declared.rows.Bounds.{Bounds}
use Rattle.fb_types.specs.declared.rows.Half.{Half}
use Rattle.grid_state.specs.GridState.{GridState}
use Rattle.security.specs.Spreads.{IsSelected}
use Rattle.row_security.specs.Choices.{HasChoices}
use Rattle.security.specs.Rows.{Row, KeyedZone, Choice, IsChoice, spread_of_row, IsAlwaysSelected}
use Rattle.security.specs.Points.{IsInBox}
use Rattle.security.specs.Secure.{IsSafeRow, IsSecure}
use Rattle.security.specs.Capacity.{IsPosition}
use Rattle.cnec_selection.specs.declared.Class.{Class}
use Rattle.cnec_selection.specs.declared.Class.TheVariants.{Below, Doubtful, Certain}
use Rattle.cnec_rows.specs.RowNumbers.{IsOfClass}
use Rattle.cnec_rows.specs.declared.types.RowProof.{RowProof}
use Rattle.run_settings.specs.Laws.{core_bounds}
use Rattle.fb_certificate.specs.CracRows.{CracRow, crac_rows, state_of_row}
use Rattle.fb_certificate.specs.Lists.{ListKind, is_inner, is_outer, outer_half, inner_list, outer_list, numbered, is_listed, is_removed, is_kept, IsCite, AreCites}
use Rattle.fb_certificate.specs.Valid.{IsRowOf, IsValid}
use Rattle.fb_certificate.specs.Situations.{zones_in, monitored, situation_of, exact_row}
use Rattle.fb_certificate.specs.Capacity.{MeetsRow, MeetsInner, MeetsOuter, IsRight, IsCapacity}
use Rattle.fb_certificate.specs.declared.types.Inputs.{Inputs}
use Rattle.fb_certificate.specs.declared.types.Cite.{Cite}
use Rattle.fb_certificate.specs.declared.types.Certificate.{Certificate}

-- ---- Places in lists

module _ {X : Type 0} where
  get_some : (xs : List X) (k : ℕ) (e : X) → k < length xs → slice_get xs k ≡ Some (get_or xs k e)
  get_some [] k e lt = absurd (omega arith)
  get_some (x ∷ xs) zero e lt = refl
  get_some (x ∷ xs) (suc k) e lt = get_some xs k e (omega arith)

  found_below : (xs : List X) (k : ℕ) (x : X) → slice_get xs k ≡ Some x → k < length xs
  found_below [] k x e = absurd cc
  found_below (y ∷ xs) zero x e = omega arith
  found_below (y ∷ xs) (suc k) x e = let below = found_below xs k x e in omega arith

  same_some : (x y : X) → Some x ≡ Some y → x ≡ y
  same_some x y e = cc

  -- P of the item at a place
  all_found : (P : X → Type 0) (xs : List X) (k : ℕ) (x : X) → slice_get xs k ≡ Some x → All P xs → P x
  all_found P xs k x e h =
      let below = found_below xs k x e in
      subst P (same_some (get_or xs k x) x (sym (get_some xs k x below) ∙ e)) (h k x below)

-- P of the image of the item at a place
map_at : {X Y : Type 0} (P : Y → Type 0) (f : X → Y) (xs : List X) (k : ℕ) (d : X) → k < length xs → All P (map f xs) → P (f (get_or xs k d))
map_at P f [] k d lt h = absurd (omega arith)
map_at P f (x ∷ xs) zero d lt h = All-head P (f x) (map f xs) h
map_at P f (x ∷ xs) (suc k) d lt h = map_at P f xs k d (omega arith) (All-tail P (f x) (map f xs) h)

module _ {A B : Type 0} (R : A → B → Type 0) where
  zip_length : (xs : List A) (ys : List B) → AllZip R xs ys → length xs ≡ length ys
  zip_length [] [] h = refl
  zip_length [] (y ∷ ys) h = absurd h
  zip_length (x ∷ xs) [] h = absurd h
  zip_length (x ∷ xs) (y ∷ ys) h = let e = zip_length xs ys h.1 in omega arith

  zip_at : (xs : List A) (ys : List B) (k : ℕ) (d : A) (e : B) → AllZip R xs ys → k < length xs → R (get_or xs k d) (get_or ys k e)
  zip_at [] ys k d e h lt = absurd (omega arith)
  zip_at (x ∷ xs) [] k d e h lt = absurd h
  zip_at (x ∷ xs) (y ∷ ys) zero d e h lt = h.0
  zip_at (x ∷ xs) (y ∷ ys) (suc k) d e h lt = zip_at xs ys k d e h.1 (omega arith)

if_found : {X : Type 0} (P : X → Type 0) (o : Option X) (x : X) → o ≡ Some x → IfSome o P → P x
if_found P None x e h = absurd cc
if_found P (Some y) x e h = subst P (same_some y x e) h

found_if : {X : Type 0} (P : X → Type 0) (o : Option X) (x : X) → o ≡ Some x → P x → IfSome o P
found_if P None x e h = tt
found_if P (Some y) x e h = subst P (sym (same_some y x e)) h

and_left : (a b : Bool) → (a && b) ≡ true → a ≡ true
and_left true b e = refl
and_left false b e = e

and_both : (a b : Bool) → a ≡ true → b ≡ false → (a && not b) ≡ true
and_both true true e f = sym f
and_both true false e f = refl
and_both false b e f = absurd cc

-- ---- Lists of rows

-- a row of a list, with its place
record IsListedRow (kind : ListKind) (rows : List RowProof) (number : ℕ) : Type 0 where
  place : ℕ
  is_next : number ≡ suc place
  row : RowProof
  found : slice_get rows place ≡ Some row
  holds : kind.holds row.class ≡ true

listed_row : (kind : ListKind) (rows : List RowProof) (number : ℕ) → is_listed kind rows number ≡ true → IsListedRow kind rows number
listed_row kind rows zero h = absurd cc
listed_row kind rows (suc k) h = cases (slice_get rows k) refl h
  where
    cases : (o : Option RowProof) → slice_get rows k ≡ o → option_map_or (λ row. kind.holds row.class) o false ≡ true → IsListedRow kind rows (suc k)
    cases None e is = absurd cc
    cases (Some row) e is = record { place = k; is_next = refl; row = row; found = e; holds = is }

listed_is : (kind : ListKind) (rows : List RowProof) (k : ℕ) (row : RowProof) → slice_get rows k ≡ Some row → kind.holds row.class ≡ true → is_listed kind rows (suc k) ≡ true
listed_is kind rows k row e h = ap (λ (o : Option RowProof). option_map_or (λ (r : RowProof). kind.holds r.class) o false) e ∙ h

-- ---- Rows that are removed

abbrev MeetsKept : ListKind → List RowProof → List Cite → List ℤ → Type 0
MeetsKept kind rows cites x = (number : ℕ) → is_kept kind rows cites number ≡ true → MeetsRow kind rows x number

halves_meet : (half : RowProof → Half) (rows : List RowProof) (x : List ℤ) (k : ℕ) → IfSome (slice_get rows k) (λ row. Meets (half row) x) → IfSome (slice_get (map half rows) k) (λ h. Meets h x)
halves_meet half [] x k h = tt
halves_meet half (row ∷ rows) x zero h = h
halves_meet half (row ∷ rows) x (suc k) h = halves_meet half rows x k h

cited_meets : (kind : ListKind) (rows : List RowProof) (x : List ℤ) (number : ℕ) → is_listed kind rows number ≡ true → MeetsRow kind rows x number → IfSome (row_at (map kind.half rows) number) (λ h. Meets h x)
cited_meets kind rows x zero listed h = absurd cc
cited_meets kind rows x (suc k) listed h =
    let e : k ≡ suc k - 1 = omega arith in
    subst (λ (n : ℕ). IfSome (slice_get (map kind.half rows) n) (λ h'. Meets h' x)) e (halves_meet kind.half rows x k h)

-- the cite that removes a row
record IsRemovedBy (kind : ListKind) (bounds : List Bounds) (rows : List RowProof) (cites : List Cite) (number : ℕ) : Type 0 where
  cite : Cite
  is : IsCite kind bounds rows cites cite
  names : cite.row ≡ number

removed_by : (kind : ListKind) (bounds : List Bounds) (rows : List RowProof) (all cites : List Cite) (number : ℕ) → All (IsCite kind bounds rows all) cites → is_removed cites number ≡ true → IsRemovedBy kind bounds rows all number
removed_by kind bounds rows all [] number are h = absurd cc
removed_by kind bounds rows all (cite ∷ cites) number are h =
    cases (cite.row == number) refl h (removed_by kind bounds rows all cites number (All-tail (IsCite kind bounds rows all) cite cites are))
  where
    cases : (test : Bool) → (cite.row == number) ≡ test → (test || is_removed cites number) ≡ true → (is_removed cites number ≡ true → IsRemovedBy kind bounds rows all number)
        → IsRemovedBy kind bounds rows all number
    cases true e is later = record { cite = cite; is = All-head (IsCite kind bounds rows all) cite cites are; names = eqb-true cite.row number e }
    cases false e is later = later is

module _ (kind : ListKind) (bounds : List Bounds) (rows : List RowProof) (cites : List Cite) (are : AreCites kind bounds rows cites) (x : List ℤ) (point : IsPoint bounds x) (meets : MeetsKept kind rows cites x) where
  cite_holds : (number : ℕ) (row : RowProof) → numbered rows number ≡ Some row → IsRemovedBy kind bounds rows cites number → Meets (kind.half row) x
  cite_holds number row found by =
      let here : numbered rows by.cite.row ≡ Some row = ap (numbered rows) by.names ∙ found in
      let follows = if_found (λ (r : RowProof). Follows (kind.half r) (map kind.half rows) by.cite.by bounds) (numbered rows by.cite.row) row here by.is.follows in
      Follows-implies (kind.half row) (map kind.half rows) by.cite.by bounds x follows point
      (record {
        each = λ j d lt. let kept = by.is.cites_kept j d lt in
            cited_meets kind rows x (get_or by.cite.by.mults j d).row (and_left _ _ kept) (meets (get_or by.cite.by.mults j d).row kept);
      })

  -- x meets every row of the list, kept or removed
  listed_meets : (k : ℕ) (row : RowProof) → slice_get rows k ≡ Some row → kind.holds row.class ≡ true → Meets (kind.half row) x
  listed_meets k row found holds = cases (is_removed cites (suc k)) refl
    where
      cases : (test : Bool) → is_removed cites (suc k) ≡ test → Meets (kind.half row) x
      cases true e = cite_holds (suc k) row found (removed_by kind bounds rows cites cites (suc k) are.each e)
      cases false e = if_found (λ (r : RowProof). Meets (kind.half r) x) (slice_get rows k) row found (meets (suc k) (and_both _ _ (listed_is kind rows k row found holds) e))

-- ---- Classes

module _ (s : GridState) (grid : Grid) (zones : List KeyedZone) (row : Row) (threshold : ℕ) where
  selected_is_inner : (class : Class) → IsOfClass s grid zones row threshold class → (choice : Choice) → IsChoice s grid zones choice → IsSelected (pos threshold) (spread_of_row s row choice) → is_inner class ≡ true
  selected_is_inner Below of_class choice is selected = absurd (of_class choice is selected)
  selected_is_inner Doubtful of_class choice is selected = refl
  selected_is_inner Certain of_class choice is selected = refl

  outer_is_selected : (class : Class) → IsOfClass s grid zones row threshold class → is_outer class ≡ true → IsAlwaysSelected s grid zones row threshold
  outer_is_selected Below of_class outer = absurd cc
  outer_is_selected Doubtful of_class outer = absurd cc
  outer_is_selected Certain of_class outer = of_class

in_box : (bounds : List Bounds) (x : List ℤ) → IsPoint bounds x → IsInBox bounds x
in_box bounds x point = record { zones = point.zones; inside = point.inside }

no_row : RowProof
no_row = record { class = Below; a = []; r_in = pos 0; r_out = pos 0 }

-- ---- The theorem

module _ (inputs : Inputs) (c : Certificate) (valid : IsValid inputs c) (choices : All (λ s. HasChoices s inputs.grid) inputs.states) (right : AllZip (IsRight inputs) (crac_rows inputs.crac.elements) c.rows) where
  abbrev rows : List CracRow
  rows = crac_rows inputs.crac.elements

  abbrev bounds : List Bounds
  bounds = core_bounds inputs.settings.zones

  as_many : length rows ≡ length c.rows
  as_many = zip_length (IsRight inputs) rows c.rows right

  safe : (x : List ℤ) → IsPosition (situation_of inputs) x → MeetsInner c x → (row : CracRow) (numbers : RowProof) (k : ℕ) → slice_get c.rows k ≡ Some numbers → IsRight inputs row numbers → IsSafeRow (situation_of inputs) x (monitored inputs row)
  safe x point meets row numbers k found is place is_place choice is_choice e at_x selected =
      let holds = is place is_place in
      let inner = selected_is_inner place.state inputs.grid (zones_in inputs) (exact_row inputs row place) inputs.settings.threshold numbers.class holds.of_class choice is_choice selected in
      let met = listed_meets inner_list bounds c.rows c.inner valid.inner x point meets k numbers found inner in
      holds.brackets.inner choice is_choice x (in_box bounds x point) e at_x met

  secure : (x : List ℤ) → IsPosition (situation_of inputs) x → MeetsInner c x → IsSecure (situation_of inputs) x
  secure x point meets = record {
    each = All-map (IsSafeRow (situation_of inputs) x) (monitored inputs) rows
        (λ k d lt. safe x point meets (get_or rows k d) (get_or c.rows k no_row) k (get_some c.rows k no_row (let e = as_many in omega arith)) (zip_at (IsRight inputs) rows c.rows k d no_row right lt));
  }

  met : (x : List ℤ) → IsPosition (situation_of inputs) x → IsSecure (situation_of inputs) x → (row : CracRow) (numbers : RowProof) → is_outer numbers.class ≡ true → IsSafeRow (situation_of inputs) x (monitored inputs row) → IsRowOf inputs c.states row numbers → IsRight inputs row numbers → Meets (outer_half numbers) x
  met x point is_secure row numbers outer is_safe of is =
      let place = of.are.place in
      let is_place = of.are.is_place in
      let holds = is place is_place in
      let some = all_found (λ (s : GridState). HasChoices s inputs.grid) inputs.states (state_of_row inputs.outages row) place.state is_place.state choices in
      let choice = (some.some (zones_in inputs)).0 in
      let is_choice = (some.some (zones_in inputs)).1 in
      let at_x = some.each (zones_in inputs) x in
      let selected = outer_is_selected place.state inputs.grid (zones_in inputs) (exact_row inputs row place) inputs.settings.threshold numbers.class holds.of_class outer choice is_choice in
      holds.brackets.outer choice is_choice x (in_box bounds x point) at_x.0 at_x.1 (is_safe place is_place choice is_choice at_x.0 at_x.1 selected)

  meets_outer : (x : List ℤ) → IsPosition (situation_of inputs) x → IsSecure (situation_of inputs) x → MeetsOuter c x
  meets_outer x point is_secure number listed =
      let l = listed_row outer_list c.rows number listed in
      let below = found_below c.rows l.place l.row l.found in
      let there : l.place < length rows = let e = as_many in omega arith in
      let found : numbered c.rows number ≡ Some l.row = ap (numbered c.rows) l.is_next ∙ l.found in
      found_if (λ (r : RowProof). Meets (outer_half r) x) (numbered c.rows number) l.row found (at_place l.place l.row l.found l.holds there)
    where
      at_place : (k : ℕ) (numbers : RowProof) → slice_get c.rows k ≡ Some numbers → is_outer numbers.class ≡ true → k < length rows → Meets (outer_half numbers) x
      at_place k numbers found outer there = from rows refl
        where
          from : (all : List CracRow) → rows ≡ all → Meets (outer_half numbers) x
          from [] e = absurd (let f = ap length e in omega arith)
          from (d ∷ more) e =
              let same : get_or c.rows k numbers ≡ numbers = same_some _ _ (sym (get_some c.rows k numbers (found_below c.rows k numbers found)) ∙ found) in
              met x point is_secure (get_or rows k d) numbers outer
              (map_at (IsSafeRow (situation_of inputs) x) (monitored inputs) rows k d there is_secure.each)
              (subst (IsRowOf inputs c.states (get_or rows k d)) same (zip_at (IsRowOf inputs c.states) rows c.rows k d numbers valid.rows there))
              (subst (IsRight inputs (get_or rows k d)) same (zip_at (IsRight inputs) rows c.rows k d numbers right there))

  pub capacity : IsCapacity inputs c
  capacity = record { rows = right; secure = record { inner = secure; outer = meets_outer } }

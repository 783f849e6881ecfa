-- All records pass exactly where the certificate is valid.
use Rattle.std.proofs.Common.{◌≡◌, ℕ, zero, suc, ◌+◌, ◌<◌, ◌≤◌, List, [], ◌∷◌, ◌++◌, length, map, All, ℤ, refl, sym, ap, subst, ◌∙◌, arith}
use Rattle.std.specs.Prelude.{slice_index_or}
use Rattle.std.specs.List.{AllZip, AllAdjacentBelow}
use Rattle.std.proofs.lemmas.List.Elements.{All-head, All-tail, All-cons, All-nil, All-append}
use Rattle.std.proofs.lemmas.Option.{same_Some}
use Rattle.fb_types.specs.declared.rows.Angles.{Angles}
use Rattle.grid_state.specs.GridState.{GridState}
use Rattle.grid_laplacian.specs.Enclosures.{EnclosesColumn}
use Rattle.security.specs.Balances.{block_side}
use Rattle.state_proofs.specs.StateProofs.{all_blocks, IsStateProof}
use Rattle.state_proofs.specs.declared.StateProof.{StateProof}
use Rattle.cnec_rows.specs.RowNumbers.{row_proof_of}
use Rattle.cnec_rows.specs.declared.types.RowProof.{RowProof}
use Rattle.cnec_selection.specs.declared.Class.{Class}
use Rattle.run_settings.specs.Laws.{core_bounds}
use Rattle.fb_certificate.specs.CracRows.{CracRow, crac_rows}
use Rattle.fb_certificate.specs.Whole.{row_zones}
use Rattle.fb_certificate.specs.Lists.{ListKind, inner_list, outer_list, IsCite, AreCites}
use Rattle.fb_certificate.specs.Valid.{IsRowOf, IsValid}
use Rattle.fb_certificate.specs.Situations.{stated}
use Rattle.fb_certificate.specs.declared.types.Cite.{Cite}
use Rattle.fb_certificate.specs.declared.types.Inputs.{Inputs}
use Rattle.fb_certificate.specs.declared.types.Certificate.{Certificate}
use Rattle.certificate_check.specs.declared.verdict.Reason.TheVariants as why
use Rattle.certificate_check.specs.Records.{Record, version, mark, misplaced, barrier, column, row, cite, beside, sides_of, column_records, state_records, row_records, cite_records, records_of, IsColumn, IsCited}
use Rattle.certificate_check.specs.Verdicts.{Passes}

-- ---- lists

pub all_front : {X : Type 0} (P : X → Type 0) (xs ys : List X) → All P (xs ++ ys) → All P xs
all_front P [] ys h = All-nil P
all_front P (x ∷ xs) ys h = All-cons P x xs (All-head P x (xs ++ ys) h) (all_front P xs ys (All-tail P x (xs ++ ys) h))

pub all_back : {X : Type 0} (P : X → Type 0) (xs ys : List X) → All P (xs ++ ys) → All P ys
all_back P [] ys h = h
all_back P (x ∷ xs) ys h = all_back P xs ys (All-tail P x (xs ++ ys) h)

pub beside_zip : {X Y : Type 0} (P : Record → Type 0) (f : X → Y → List Record) (R : X → Y → Type 0)
    → (P misplaced → ⊥) → ((x : X) (y : Y) → All P (f x y) → R x y)
    → (xs : List X) (ys : List Y) → All P (beside f xs ys) → AllZip R xs ys
beside_zip P f R none each [] [] h = tt
beside_zip P f R none each [] (y ∷ ys) h = none (All-head P misplaced [] h)
beside_zip P f R none each (x ∷ xs) [] h = none (All-head P misplaced [] h)
beside_zip P f R none each (x ∷ xs) (y ∷ ys) h = (
  each x y (all_front P (f x y) (beside f xs ys) h),
  beside_zip P f R none each xs ys
      (all_back P (f x y) (beside f xs ys) h),
)

pub zip_beside : {X Y : Type 0} (P : Record → Type 0) (f : X → Y → List Record) (R : X → Y → Type 0)
    → ((x : X) (y : Y) → R x y → All P (f x y))
    → (xs : List X) (ys : List Y) → AllZip R xs ys → All P (beside f xs ys)
zip_beside P f R each [] [] h = All-nil P
zip_beside P f R each [] (y ∷ ys) h = absurd h
zip_beside P f R each (x ∷ xs) [] h = absurd h
zip_beside P f R each (x ∷ xs) (y ∷ ys) h =
    All-append P (f x y) (beside f xs ys) (each x y h.0) (zip_beside P f R each xs ys h.1)

zip_map : {X Y Z : Type 0} (g : X → Z) (R : Z → Y → Type 0) (xs : List X) (ys : List Y)
    → AllZip (λ x y. R (g x) y) xs ys → AllZip R (map g xs) ys
zip_map g R [] [] h = tt
zip_map g R [] (y ∷ ys) h = absurd h
zip_map g R (x ∷ xs) [] h = absurd h
zip_map g R (x ∷ xs) (y ∷ ys) h = (h.0, zip_map g R xs ys h.1)

map_zip : {X Y Z : Type 0} (g : X → Z) (R : Z → Y → Type 0) (xs : List X) (ys : List Y) → AllZip R (map g xs) ys
    → AllZip (λ x y. R (g x) y) xs ys
map_zip g R [] [] h = tt
map_zip g R [] (y ∷ ys) h = absurd h
map_zip g R (x ∷ xs) [] h = absurd h
map_zip g R (x ∷ xs) (y ∷ ys) h = (h.0, map_zip g R xs ys h.1)

module _ (inputs : Inputs) (c : Certificate) where
  pub no_misplaced : Passes inputs c misplaced → ⊥
  no_misplaced h = h why.Order refl

  -- ---- states

  column_encloses : (s : GridState) (p : List ℤ) (angles : Angles) → All (Passes inputs c) (column_records s p angles)
      → EnclosesColumn s p angles
  column_encloses s p angles h =
      let this = All-head (Passes inputs c) (column s p angles) [] h in
      let is : IsColumn s p angles = (this why.Angle).0 refl in
      record {
        each_class = is.each_class;
        small = is.small;
        fixed = is.fixed;
        near = is.near;
        at_most_one = is.at_most_one;
        least = (this why.Kappa).1 refl;
      }

  encloses_column : (s : GridState) (p : List ℤ) (angles : Angles) → EnclosesColumn s p angles
      → All (Passes inputs c) (column_records s p angles)
  encloses_column s p angles h =
      All-cons (Passes inputs c) (column s p angles) []
      (λ reason. (
        (λ e. record {
          each_class = h.each_class;
          small = h.small;
          fixed = h.fixed;
          near = h.near;
          at_most_one = h.at_most_one;
        }),
        (λ e. h.least),
      ))
      (All-nil (Passes inputs c))

  pub state_proved : (s : GridState) (proof : StateProof) → All (Passes inputs c) (state_records inputs s proof)
      → IsStateProof s inputs.grid inputs.keys.columns proof
  state_proved s proof h =
      let P = Passes inputs c in
      let columns = beside (column_records s) (sides_of inputs s) (proof.reference ∷ proof.blocks) in
      let rest = All-tail P mark (barrier s proof.barrier ∷ columns) h in
      let zip = beside_zip P (column_records s) (EnclosesColumn s) no_misplaced (column_encloses s)
      (sides_of inputs s) (proof.reference ∷ proof.blocks) (All-tail P (barrier s proof.barrier) columns rest) in
      record {
        barrier = All-head P (barrier s proof.barrier) columns rest why.Barrier refl;
        reference = zip.0;
        blocks = map_zip (block_side s) (EnclosesColumn s) (all_blocks inputs.keys.columns) proof.blocks zip.1;
      }

  proved_state : (s : GridState) (proof : StateProof) → IsStateProof s inputs.grid inputs.keys.columns proof
      → All (Passes inputs c) (state_records inputs s proof)
  proved_state s proof h =
      let P = Passes inputs c in
      let columns = beside (column_records s) (sides_of inputs s) (proof.reference ∷ proof.blocks) in
      All-cons P mark (barrier s proof.barrier ∷ columns) (λ reason. tt)
      (All-cons P (barrier s proof.barrier) columns (λ reason e. h.barrier)
      (zip_beside P (column_records s) (EnclosesColumn s) (encloses_column s) (sides_of inputs s)
      (proof.reference ∷ proof.blocks)
      (h.reference, zip_map (block_side s) (EnclosesColumn s) (all_blocks inputs.keys.columns) proof.blocks h.blocks)))

  -- ---- rows

  -- the proofs of the states give a row one list of numbers
  pub due_is_one : (crac_row : CracRow) (a b : RowProof) → IsRowOf inputs c.states crac_row a
      → IsRowOf inputs c.states crac_row b → a ≡ b
  due_is_one crac_row a b ha hb =
      let states = same_Some ha.are.place.state hb.are.place.state
      (sym ha.are.is_place.state ∙ hb.are.is_place.state) in
      let branches = same_Some ha.are.place.branch hb.are.place.branch
      (sym ha.are.is_place.branch ∙ hb.are.is_place.branch) in
      let proofs = same_Some ha.are.proof hb.are.proof (sym ha.are.is_proof ∙ hb.are.is_proof) in
      ha.are.numbers_are
      ∙ ((λ i. row_proof_of (states i) inputs.keys.columns (row_zones inputs.settings inputs.keys)
      (stated inputs crac_row) (record { number = crac_row.element.branch; branch = branches i }) (proofs i))
      ∙ sym hb.are.numbers_are)

  abbrev numbers_with : Class → List ℤ → ℤ → ℤ → RowProof
  numbers_with k a i o = record { class = k; a = a; r_in = i; r_out = o }

  same_numbers : (k k' : Class) (a a' : List ℤ) (i i' o o' : ℤ) → k ≡ k' → a ≡ a' → i ≡ i' → o ≡ o'
      → numbers_with k a i o ≡ numbers_with k' a' i' o'
  same_numbers k k' a a' i i' o o' ek ea ei eo = λ t. numbers_with (ek t) (ea t) (ei t) (eo t)

  pub row_due : (crac_row : CracRow) (numbers : RowProof) → All (Passes inputs c) (row_records crac_row numbers)
      → IsRowOf inputs c.states crac_row numbers
  row_due crac_row numbers h =
      let this = All-head (Passes inputs c) (row crac_row numbers) [] h in
      let class = (this why.Class).0 refl in
      let a = (this why.Coefficient).1 refl in
      let sides = (this why.RightSide).2 refl in
      let due = class.due in
      let a_same = a.agrees ∙ ap (λ (r : RowProof). r.a) (due_is_one crac_row a.due due a.is_due class.is_due) in
      let in_same = sides.agrees.0 ∙ ap (λ (r : RowProof). r.r_in)
      (due_is_one crac_row sides.due due sides.is_due class.is_due) in
      let out_same = sides.agrees.1 ∙ ap (λ (r : RowProof). r.r_out)
      (due_is_one crac_row sides.due due sides.is_due class.is_due) in
      subst (IsRowOf inputs c.states crac_row)
      (sym (same_numbers numbers.class due.class numbers.a due.a numbers.r_in due.r_in numbers.r_out due.r_out
      class.agrees a_same in_same out_same)) class.is_due

  due_row : (crac_row : CracRow) (numbers : RowProof) → IsRowOf inputs c.states crac_row numbers
      → All (Passes inputs c) (row_records crac_row numbers)
  due_row crac_row numbers h =
      All-cons (Passes inputs c) (row crac_row numbers) []
      (λ reason. (
        (λ e. record { due = numbers; is_due = h; agrees = refl }),
        (λ e. record { due = numbers; is_due = h; agrees = refl }),
        (λ e. record { due = numbers; is_due = h; agrees = (refl, refl) }),
      ))
      (All-nil (Passes inputs c))

  -- ---- cites

  module _ (kind : ListKind) (cites : List Cite) where
    each_cited : (least : ℕ) (cs : List Cite) → All (Passes inputs c) (cite_records kind cites least cs)
        → All (IsCite kind (core_bounds inputs.settings.zones) c.rows cites) cs
    each_cited least [] h = All-nil (IsCite kind (core_bounds inputs.settings.zones) c.rows cites)
    each_cited least (x ∷ xs) h =
        let P = Passes inputs c in
        let this = All-head P (cite kind cites least x) (cite_records kind cites (x.row + 1) xs) h in
        let is : IsCited kind c.rows cites x = (this why.Cited).1 refl in
        All-cons (IsCite kind (core_bounds inputs.settings.zones) c.rows cites) x xs
        (record { listed = is.listed; cites_kept = is.cites_kept; follows = (this why.Follows).2 refl })
        (each_cited (x.row + 1) xs (All-tail P (cite kind cites least x) (cite_records kind cites (x.row + 1) xs) h))

    rising : (least : ℕ) (cs : List Cite) → All (Passes inputs c) (cite_records kind cites least cs)
        → AllAdjacentBelow (λ a b. a.row < b.row) cs (length cs)
    rising least [] h k d l = absurd (omega arith)
    rising least (x ∷ []) h k d l = absurd (omega arith)
    rising least (x ∷ y ∷ xs) h zero d l =
        let P = Passes inputs c in
        let rest = All-tail P (cite kind cites least x) (cite_records kind cites (x.row + 1) (y ∷ xs)) h in
        let above = (All-head P (cite kind cites (x.row + 1) y)
        (cite_records kind cites (y.row + 1) xs) rest why.Order).0 refl in
        omega (arith, above)
    rising least (x ∷ y ∷ xs) h (suc k) d l =
        let next : suc (k + 1) ≡ suc k + 1 = omega arith in
        subst (λ (n : ℕ). (slice_index_or (x ∷ y ∷ xs) (suc k) d).row < (slice_index_or (x ∷ y ∷ xs) n d).row) next
        (rising (x.row + 1) (y ∷ xs) (All-tail (Passes inputs c) (cite kind cites least x)
        (cite_records kind cites (x.row + 1) (y ∷ xs)) h) k d (omega (arith, l)))

    cites_pass : (least : ℕ) (cs : List Cite) → ((d : Cite) → 0 < length cs → least ≤ (slice_index_or cs 0 d).row)
        → AllAdjacentBelow (λ a b. a.row < b.row) cs (length cs)
        → All (IsCite kind (core_bounds inputs.settings.zones) c.rows cites) cs
        → All (Passes inputs c) (cite_records kind cites least cs)
    cites_pass least [] above adjacent each = All-nil (Passes inputs c)
    cites_pass least (x ∷ xs) above adjacent each =
        let is = All-head (IsCite kind (core_bounds inputs.settings.zones) c.rows cites) x xs each in
        All-cons (Passes inputs c) (cite kind cites least x) (cite_records kind cites (x.row + 1) xs)
        (λ reason. (
          (λ e. above x (omega arith)),
          (λ e. record { listed = is.listed; cites_kept = is.cites_kept }),
          (λ e. is.follows),
        ))
        (cites_pass (x.row + 1) xs (λ d l. let a = adjacent 0 d (omega (arith, l)) in omega (arith, a)) (λ k d l.
        let next : suc k + 1 ≡ suc (k + 1) = omega arith in
        subst (λ (n : ℕ). (slice_index_or (x ∷ xs) (suc k) d).row < (slice_index_or (x ∷ xs) n d).row) next
        (adjacent (suc k) d (omega (arith, l))))
        (All-tail (IsCite kind (core_bounds inputs.settings.zones) c.rows cites) x xs each))

    are_cites : All (Passes inputs c) (cite_records kind cites 0 cites)
        → AreCites kind (core_bounds inputs.settings.zones) c.rows cites
    are_cites h = record { rising = rising 0 cites h; each = each_cited 0 cites h }

    cites_are : AreCites kind (core_bounds inputs.settings.zones) c.rows cites
        → All (Passes inputs c) (cite_records kind cites 0 cites)
    cites_are h = cites_pass 0 cites (λ d l. omega arith) h.rising h.each

  -- ---- the whole

  pub valid_where_passed : All (Passes inputs c) (records_of inputs c) → IsValid inputs c
  valid_where_passed h =
      let P = Passes inputs c in
      let states = beside (state_records inputs) inputs.states c.states in
      let rows = beside row_records (crac_rows inputs.crac.elements) c.rows in
      let inner = cite_records inner_list c.inner 0 c.inner in
      let outer = cite_records outer_list c.outer 0 c.outer in
      let last : List Record = mark ∷ [] in
      let first = All-tail P (version c.version) (states ++ (rows ++ (inner ++ (outer ++ last)))) h in
      let second = all_back P states (rows ++ (inner ++ (outer ++ last))) first in
      let third = all_back P rows (inner ++ (outer ++ last)) second in
      record {
        version = All-head P (version c.version) (states ++ (rows ++ (inner ++ (outer ++ last)))) h why.Order refl;
        states = beside_zip P (state_records inputs)
            (λ s proof. IsStateProof s inputs.grid inputs.keys.columns proof) no_misplaced state_proved inputs.states
            c.states (all_front P states (rows ++ (inner ++ (outer ++ last))) first);
        rows = beside_zip P row_records (IsRowOf inputs c.states) no_misplaced row_due
            (crac_rows inputs.crac.elements) c.rows (all_front P rows (inner ++ (outer ++ last)) second);
        inner = are_cites inner_list c.inner (all_front P inner (outer ++ last) third);
        outer = are_cites outer_list c.outer (all_front P outer last (all_back P inner (outer ++ last) third));
      }

  pub passed_where_valid : IsValid inputs c → All (Passes inputs c) (records_of inputs c)
  passed_where_valid h =
      let P = Passes inputs c in
      let states = beside (state_records inputs) inputs.states c.states in
      let rows = beside row_records (crac_rows inputs.crac.elements) c.rows in
      let inner = cite_records inner_list c.inner 0 c.inner in
      let outer = cite_records outer_list c.outer 0 c.outer in
      let last : List Record = mark ∷ [] in
      All-cons P (version c.version) (states ++ (rows ++ (inner ++ (outer ++ last)))) (λ reason e. h.version)
      (All-append P states (rows ++ (inner ++ (outer ++ last)))
      (zip_beside P (state_records inputs)
      (λ s proof. IsStateProof s inputs.grid inputs.keys.columns proof) proved_state inputs.states c.states h.states)
      (All-append P rows (inner ++ (outer ++ last))
      (zip_beside P row_records (IsRowOf inputs c.states) due_row (crac_rows inputs.crac.elements) c.rows h.rows)
      (All-append P inner (outer ++ last) (cites_are inner_list c.inner h.inner)
      (All-append P outer last (cites_are outer_list c.outer h.outer)
      (All-cons P mark [] (λ reason. tt) (All-nil P))))))

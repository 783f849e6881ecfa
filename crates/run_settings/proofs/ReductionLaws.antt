-- What holds of reductions that were read.
use Rattle.std.proofs.Common.{◌≡◌, ◌≢◌, ℕ, suc, ◌+◌, ◌<◌, ◌^◌, Bool, true, false, cond, List, [], ◌∷◌, length, get_or, map, drop, Option, Some, None, Result, Ok, Err, ℤ, pos, refl, sym, ap, ◌∙◌, subst, All, arith}
use Rattle.std.specs.Prelude.{◌≤ℤ◌, ◌&&◌, ◌==◌, not, is_none, unwrap_or, slice_get, int_le, IfOk}
use Rattle.std.specs.Bool.{beq}
use Rattle.std.specs.List.{AllPairs, filter}
use Rattle.std.specs.Str.{bytes_eq}
use Rattle.std.proofs.lemmas.List.Elements.{All-cons, All-nil, All-head, All-tail}
use Rattle.std.proofs.lemmas.List.Kept.{AllPairs-cons}
use Rattle.std.proofs.lemmas.Slice.Eq.{bytes_eq-Decides}
use Rattle.std.proofs.lemmas.Option.{slice_get_within}
use Rattle.csv_rows.specs.Rows.{records_in}
use Rattle.fb_types.specs.declared.crac.Element.{Element}
use Rattle.first_fault.specs.FirstFault.{HasNoFault}
use Rattle.name_tables.specs.Names.{is_among, value_at, numbered_from}
use Rattle.json_reading.proofs.Tests.{both, neither, not_not, at_most}
use Rattle.run_settings.specs.ReductionLaws.{IsReduction, AreApart, AreReductionsOf}
use Rattle.run_settings.specs.Records.{Reads, fault_among}
use Rattle.run_settings.specs.Reductions.{Row, field_in, is_opposite, is_formed, is_amount, cva_in, iva_in, element_ids, element_in, element_named, limited_at, is_limited, ids_in, named_by, names_in, record_fault, reduction_in, row_fault, some_rows}
use Rattle.run_settings.specs.declared.named.Named.{Named}
use Rattle.run_settings.specs.declared.reduction.Reduction.{Reduction}
use Rattle.run_settings.specs.declared.reduction.ReductionKind.TheVariants.{Missing, WrongType, UnknownElement, OutOfRange, Twice}
use Rattle.run_settings.specs.declared.reduction.ReductionError.{ReductionError}

-- ---- one record

passes : {K : Type 0} (test : Bool) (kind : K) (rest : Option K) → cond test (Some kind) rest ≡ None → (test ≡ false) × (rest ≡ None)
passes true kind rest e = absurd cc
passes false kind rest e = (refl, e)

amount : (z : ℤ) → is_amount z ≡ true → (pos 0 ≤ℤ z) × (z ≤ℤ pos (10 ^ 11))
amount z e = let ends = both (int_le (pos 0) z) (int_le z (pos (10 ^ 11))) e in (at_most (pos 0) z ends.0, at_most z (pos (10 ^ 11)) ends.1)

limited_ok : (elements : List Element) (opposite : Bool) (found : Option ℕ) → is_none (limited_at elements opposite found) ≡ false
    → is_limited opposite (slice_get elements (unwrap_or (limited_at elements opposite found) 0)) ≡ true
limited_ok elements opposite None e = absurd cc
limited_ok elements opposite (Some place) e = by_test (is_limited opposite (slice_get elements place)) refl e
  where
    by_test : (b : Bool) → is_limited opposite (slice_get elements place) ≡ b → is_none (cond b (Some place) None) ≡ false
        → is_limited opposite (slice_get elements (unwrap_or (cond b (Some place) None) 0)) ≡ true
    by_test true same h = same
    by_test false same h = absurd cc

limited_below : (elements : List Element) (opposite : Bool) (place : ℕ) (found : Option Element) → slice_get elements place ≡ found → is_limited opposite found ≡ true → place < length elements
limited_below elements opposite place None e h = absurd cc
limited_below elements opposite place (Some x) e h = slice_get_within elements place x e

record_holds : (elements : List Element) (named : Named) (row : Row) → record_fault elements named row ≡ None → IsReduction elements (reduction_in elements row)
unfolding record_fault reduction_in element_named
record_holds elements named row e =
    let four = passes (not (length row == 4)) Missing _ e in
    let formed = passes (not (is_formed row)) WrongType _ four.1 in
    let found = passes (is_none (element_in elements row)) UnknownElement _ formed.1 in
    let range = passes (not (is_amount (cva_in row) && is_amount (iva_in row))) OutOfRange _ found.1 in
    let amounts = both (is_amount (cva_in row)) (is_amount (iva_in row)) (not_not (is_amount (cva_in row) && is_amount (iva_in row)) range.0) in
    let limited = limited_ok elements (is_opposite row) (value_at (numbered_from 0 (element_ids elements)) (field_in 0 row)) found.0 in
    let place : ℕ = unwrap_or (element_in elements row) 0 in
    record {
      place = limited_below elements (is_opposite row) place (slice_get elements place) refl limited;
      limited = limited;
      cva = amount (cva_in row) amounts.0;
      iva = amount (iva_in row) amounts.1;
    }

-- the place of a name has an equal name
found_at : (names : List (List ℕ)) (n place : ℕ) (name : List ℕ) → value_at (numbered_from n names) name ≡ Some place → (k : ℕ) × (n + k ≡ place) × (get_or names k [] ≡ name)
found_at [] n place name e = absurd cc
found_at (x ∷ xs) n place name e = by_test (bytes_eq name x) refl e (found_at xs (n + 1) place name)
  where
    by_test : (b : Bool) → bytes_eq name x ≡ b → cond b (Some n) (value_at (numbered_from (n + 1) xs) name) ≡ Some place
        → (value_at (numbered_from (n + 1) xs) name ≡ Some place → (k : ℕ) × (n + 1 + k ≡ place) × (get_or xs k [] ≡ name))
        → (k : ℕ) × (n + k ≡ place) × (get_or (x ∷ xs) k [] ≡ name)
    by_test true same h later = let here : n ≡ place = cc in (0, omega arith, sym ((bytes_eq-Decides name x).0 same))
    by_test false same h later = let there = later h in let further = there.1 in (suc there.0, omega arith, there.2)

named_place : (elements : List Element) (opposite : Bool) (name : List ℕ) (found : Option ℕ) → value_at (numbered_from 0 (element_ids elements)) name ≡ found
    → is_none (limited_at elements opposite found) ≡ false → get_or (element_ids elements) (unwrap_or (limited_at elements opposite found) 0) [] ≡ name
named_place elements opposite name None e h = absurd cc
named_place elements opposite name (Some place) e h = by_test (is_limited opposite (slice_get elements place)) h
  where
    here : get_or (element_ids elements) place [] ≡ name
    here =
        let there = found_at (element_ids elements) 0 place name e in
        let same : there.0 ≡ place = let k = there.1 in omega arith in
        subst (λ (k : ℕ). get_or (element_ids elements) k [] ≡ name) same there.2

    by_test : (b : Bool) → is_none (cond b (Some place) None) ≡ false → get_or (element_ids elements) (unwrap_or (cond b (Some place) None) 0) [] ≡ name
    by_test true limited = here
    by_test false limited = absurd cc

-- the id of a row is that of its element
abbrev IsFound : List Element → Row → Type 0
IsFound elements row = get_or (element_ids elements) (reduction_in elements row).element [] ≡ field_in 0 row

-- the id of a row is that of its element, and no earlier row of its direction has it
record Fresh (elements : List Element) (before : List Row) (row : Row) : Type 0 where
  found : IsFound elements row
  new : is_among (ids_in (is_opposite row) before) (field_in 0 row) ≡ false

record_fresh : (elements : List Element) (before : List Row) (row : Row) → record_fault elements (named_by before) row ≡ None → Fresh elements before row
unfolding record_fault reduction_in element_named
record_fresh elements before row e =
    let four = passes (not (length row == 4)) Missing _ e in
    let formed = passes (not (is_formed row)) WrongType _ four.1 in
    let known = passes (is_none (element_in elements row)) UnknownElement _ formed.1 in
    let range = passes (not (is_amount (cva_in row) && is_amount (iva_in row))) OutOfRange _ known.1 in
    let new = passes (is_among (names_in (is_opposite row) (named_by before)) (field_in 0 row)) Twice None range.1 in
    record {
      found = named_place elements (is_opposite row) (field_in 0 row) (value_at (numbered_from 0 (element_ids elements)) (field_in 0 row)) refl known.0;
      new = sym (ap (λ (names : List (List ℕ)). is_among names (field_in 0 row)) (by_direction (is_opposite row))) ∙ new.0;
    }
  where
    by_direction : (opposite : Bool) → names_in opposite (named_by before) ≡ ids_in opposite before
    by_direction true = refl
    by_direction false = refl

-- ---- all records

all_hold : {I J K : Type 0} (fault_of : List I → I → Option K) (P : J → Type 0) (g : I → J) → ((before : List I) (item : I) → fault_of before item ≡ None → P (g item))
    → (items : List I) → HasNoFault fault_of items → All P (map g items)
all_hold fault_of P g holds [] none = All-nil P
all_hold {I} fault_of P g holds (x ∷ xs) none = All-cons P (g x) (map g xs) (holds [] x (none [] x xs refl))
    (all_hold (λ (before : List I). fault_of (x ∷ before)) P g (λ before item e. holds (x ∷ before) item e) xs (λ front item rest e. none (x ∷ front) item rest (ap (λ (ys : List I). x ∷ ys) e)))

rows_hold : (elements : List Element) (rows : List Row) → HasNoFault (row_fault elements) (some_rows rows) → All (IsReduction elements) (map (reduction_in elements) (drop 1 rows))
rows_hold elements [] none = All-nil (IsReduction elements)
rows_hold elements (header ∷ records) none =
    all_hold (fault_among elements) (IsReduction elements) (reduction_in elements) (λ before row e. record_holds elements (named_by before) row e) records
    (λ front item rest e. none (header ∷ front) item rest (ap (λ (rows : List Row). header ∷ rows) e))

-- ---- two records

same_direction : (a b : Bool) → a ≡ b → beq a b ≡ true
same_direction true true e = refl
same_direction true false e = absurd cc
same_direction false true e = absurd cc
same_direction false false e = refl

-- where an id is not among those of a direction, no row of that direction has it
has_id : (opposite : Bool) (id : List ℕ) (rows : List Row) → is_among (ids_in opposite rows) id ≡ false → All (λ row. is_opposite row ≡ opposite → field_in 0 row ≢ id) rows
has_id opposite id [] e = All-nil (λ (row : Row). is_opposite row ≡ opposite → field_in 0 row ≢ id)
has_id opposite id (r ∷ rs) e = by_test (beq (is_opposite r) opposite) refl e (has_id opposite id rs)
  where
    by_test : (b : Bool) → beq (is_opposite r) opposite ≡ b
        → is_among (map (field_in 0) (cond b (r ∷ filter (λ (row : Row). beq (is_opposite row) opposite) rs) (filter (λ (row : Row). beq (is_opposite row) opposite) rs))) id ≡ false
        → (is_among (ids_in opposite rs) id ≡ false → All (λ row. is_opposite row ≡ opposite → field_in 0 row ≢ id) rs)
        → All (λ row. is_opposite row ≡ opposite → field_in 0 row ≢ id) (r ∷ rs)
    by_test true direction h later =
        let none = neither (bytes_eq id (field_in 0 r)) (is_among (ids_in opposite rs) id) h in
        All-cons (λ (row : Row). is_opposite row ≡ opposite → field_in 0 row ≢ id) r rs (λ _ same. let equal = (bytes_eq-Decides id (field_in 0 r)).1 (sym same) in absurd cc) (later none.1)
    by_test false direction h later =
        All-cons (λ (row : Row). is_opposite row ≡ opposite → field_in 0 row ≢ id) r rs (λ of _. let equal = same_direction (is_opposite r) opposite of in absurd cc) (later h)

apart : (elements : List Element) (before : List Row) (row : Row) → record_fault elements (named_by before) row ≡ None
    → IsFound elements row × All (λ q. IsFound elements q → AreApart (reduction_in elements q) (reduction_in elements row)) before
unfolding reduction_in
apart elements before row e =
    let fresh = record_fresh elements before row e in (
      fresh.found,
      λ k d l found place direction.
          has_id (is_opposite row) (field_in 0 row) before fresh.new k d l direction
          (sym found ∙ ap (λ (n : ℕ). get_or (element_ids elements) n []) place ∙ fresh.found),
    )

-- a relation of each item to each later one
once_behind : {I J K : Type 0} (fault_of : List I → I → Option K) (P : I → Type 0) (R : J → J → Type 0) (g : I → J)
    → ((before : List I) (item : I) → fault_of before item ≡ None → P item × All (λ q. P q → R (g q) (g item)) before)
    → (items : List I) → HasNoFault fault_of items → AllPairs R (map g items)
once_behind fault_of P R g step [] none = λ i j d below within. absurd (omega arith)
once_behind {I} fault_of P R g step (x ∷ xs) none =
    let behind = λ (before : List I). fault_of (x ∷ before) in
    let first = (step [] x (none [] x xs refl)).0 in
    let none_behind : HasNoFault behind xs = λ front item rest e. none (x ∷ front) item rest (ap (λ (ys : List I). x ∷ ys) e) in
    AllPairs-cons R (g x) (map g xs)
    (all_hold behind (R (g x)) g (λ before item e. All-head (λ (q : I). P q → R (g q) (g item)) x before (step (x ∷ before) item e).1 first) xs none_behind)
    (once_behind behind P R g (λ before item e. let held = step (x ∷ before) item e in (held.0, All-tail (λ (q : I). P q → R (g q) (g item)) x before held.1)) xs none_behind)

once : (elements : List Element) (rows : List Row) → HasNoFault (row_fault elements) (some_rows rows) → AllPairs AreApart (map (reduction_in elements) (drop 1 rows))
once elements [] none = λ i j d below within. absurd (omega arith)
once elements (header ∷ records) none =
    once_behind (fault_among elements) (IsFound elements) AreApart (reduction_in elements) (apart elements) records
    (λ front item rest e. none (header ∷ front) item rest (ap (λ (rows : List Row). header ∷ rows) e))

-- ---- the document

pub reductions_hold : (elements : List Element) (bytes : List ℕ) (result : Result (List Reduction) ReductionError) → Reads elements bytes result → IfOk result (AreReductionsOf elements)
reductions_hold elements bytes (Ok reductions) r = subst (AreReductionsOf elements) (sym r.1) (record { each = rows_hold elements (records_in bytes) r.0; once = once elements (records_in bytes) r.0 })
reductions_hold elements bytes (Err e) r = tt

-- The records of a reductions document, one more at a time, and the document's first fault from theirs.
use Rattle.std.proofs.Common.{◌≡◌, ℕ, ◌+◌, Bool, true, false, cond, List, [], ◌∷◌, ◌++◌, length, map, drop, Some, None, Result, Ok, Err, refl, sym, ap, ◌∙◌, subst, arith, append_assoc, append-nil, length-append}
use Rattle.std.specs.Bool.{beq}
use Rattle.std.specs.List.{filter}
use Rattle.std.proofs.lemmas.List.{map_push, map-append}
use Rattle.std.proofs.lemmas.List.Elements.{filter-append}
use Rattle.csv_rows.specs.Rows.{records_in}
use Rattle.fb_types.specs.declared.crac.Element.{Element}
use Rattle.first_fault.specs.FirstFault.{IsFirstFault, HasNoFault}
use Rattle.first_fault.proofs.FirstFaultLaws.{HasNoFault-nil, HasNoFault-push, IsFirstFault-same, IsFirstFault-fault}
use Rattle.run_settings.specs.Records.{Reads, IsRowFault, ReadsRecords, HasHeader, HasNoHeader, JudgesAt, with_id, with_row, fault_among, AreTaken}
use Rattle.run_settings.specs.Reductions.{Row, field_in, is_opposite, ids_in, named_by, record_fault, reduction_in, is_header, row_fault, some_rows, document_rows, IsReductionFault}
use Rattle.run_settings.specs.declared.named.Named.{Named}
use Rattle.run_settings.specs.declared.reduction.Reduction.{Reduction}
use Rattle.run_settings.specs.declared.reduction.ReductionKind.{ReductionKind}
use Rattle.run_settings.specs.declared.reduction.ReductionKind.TheVariants.{WrongType}
use Rattle.run_settings.specs.declared.reduction.ReductionError.{ReductionError}
use Rattle.run_settings.specs.declared.reduction.ReductionError.TheVariants as errors

-- ---- names

ids_push : (opposite : Bool) (rows : List Row) (row : Row) → ids_in opposite (rows ++ row ∷ []) ≡ ids_in opposite rows ++ map (field_in 0) (cond (beq (is_opposite row) opposite) (row ∷ []) [])
ids_push opposite rows row =
    ap (λ (xs : List Row). map (field_in 0) xs) (filter-append (λ (r : Row). beq (is_opposite r) opposite) rows (row ∷ []))
    ∙ map-append (field_in 0) (filter (λ (r : Row). beq (is_opposite r) opposite) rows) (filter (λ (r : Row). beq (is_opposite r) opposite) (row ∷ []))

named-push : (rows : List Row) (row : Row) → with_row (named_by rows) row ≡ named_by (rows ++ row ∷ [])
named-push rows row = by_test (is_opposite row) refl
  where
    both : (d o e p : List (List ℕ)) → d ≡ e → o ≡ p → (let a : Named = record { direct = d; opposite = o } in let b : Named = record { direct = e; opposite = p } in a ≡ b)
    both d o e p h k = λ i. record { direct = h i; opposite = k i }

    by_test : (b : Bool) → is_opposite row ≡ b → with_id b (field_in 0 row) (named_by rows) ≡ named_by (rows ++ row ∷ [])
    by_test true e = both _ _ _ _
        (sym (append-nil (ids_in false rows)) ∙ sym (ids_push false rows row ∙ ap (λ (x : Bool). ids_in false rows ++ map (field_in 0) (cond (beq x false) (row ∷ []) [])) e))
        (sym (ids_push true rows row ∙ ap (λ (x : Bool). ids_in true rows ++ map (field_in 0) (cond (beq x true) (row ∷ []) [])) e))
    by_test false e = both _ _ _ _
        (sym (ids_push false rows row ∙ ap (λ (x : Bool). ids_in false rows ++ map (field_in 0) (cond (beq x false) (row ∷ []) [])) e))
        (sym (append-nil (ids_in true rows)) ∙ sym (ids_push true rows row ∙ ap (λ (x : Bool). ids_in true rows ++ map (field_in 0) (cond (beq x true) (row ∷ []) [])) e))

-- ---- from record to record

pub taken_none : (elements : List Element) (rows : List Row) (named : Named) (reductions : List Reduction) → named.direct ≡ [] → named.opposite ≡ [] → reductions ≡ [] → AreTaken elements rows rows named reductions 2
taken_none elements rows named reductions direct opposite none = record {
  before = [];
  split = refl;
  no_fault = HasNoFault-nil (fault_among elements);
  named_is = λ i. record { direct = direct i; opposite = opposite i };
  reductions_are = none;
  number_is = refl;
}

pub taken_more : (elements : List Element) (all left rest : List Row) (row : Row) (named next : Named) (reductions more : List Reduction) (r : Reduction) (number : ℕ)
    → AreTaken elements all left named reductions number → left ≡ row ∷ rest → record_fault elements named row ≡ None → r ≡ reduction_in elements row
    → next ≡ with_row named row → more ≡ reductions ++ r ∷ [] → AreTaken elements all rest next more (number + 1)
taken_more elements all left rest row named next reductions more r number so_far cut none is named_next pushed = record {
  before = so_far.before ++ row ∷ [];
  split = so_far.split ∙ ap (λ (rows : List Row). so_far.before ++ rows) cut ∙ sym (append_assoc so_far.before (row ∷ []) rest);
  no_fault = HasNoFault-push (fault_among elements) so_far.before row so_far.no_fault (ap (λ (n : Named). record_fault elements n row) (sym so_far.named_is) ∙ none);
  named_is = named_next ∙ ap (λ (n : Named). with_row n row) so_far.named_is ∙ named-push so_far.before row;
  reductions_are = pushed ∙ ap (λ (rs : List Reduction). rs ++ r ∷ []) so_far.reductions_are
      ∙ ap (λ (x : Reduction). map (reduction_in elements) so_far.before ++ x ∷ []) is ∙ sym (map_push (reduction_in elements) so_far.before row);
  number_is = let n = so_far.number_is in let l = length-append so_far.before (row ∷ []) in omega arith;
}

pub taken_fault : (elements : List Element) (all left rest : List Row) (row : Row) (named : Named) (reductions : List Reduction) (value : Reduction) (number : ℕ) (e : ReductionError)
    → AreTaken elements all left named reductions number → left ≡ row ∷ rest → (let answer : Result Reduction ReductionError = Err e in JudgesAt number (record_fault elements named row) value answer)
    → (let answer : Result (List Reduction) ReductionError = Err e in ReadsRecords elements all answer)
taken_fault elements all left rest row named reductions value number (errors.Memory m) so_far cut judged = tt
taken_fault elements all left rest row named reductions value number (errors.Fault n kind) so_far cut judged = (
  length so_far.before + 1,
  let is = so_far.number_is in let same = judged.0 in omega arith,
  record {
    before = so_far.before;
    here = row;
    after = rest;
    split = so_far.split ∙ ap (λ (rows : List Row). so_far.before ++ rows) cut;
    number_is = refl;
    fault = ap (λ (x : Named). record_fault elements x row) (sym so_far.named_is) ∙ judged.1;
    none_before = so_far.no_fault;
  },
)

pub taken_all : (elements : List Element) (all left : List Row) (named : Named) (reductions : List Reduction) (number : ℕ) → AreTaken elements all left named reductions number → left ≡ []
    → (let answer : Result (List Reduction) ReductionError = Ok reductions in ReadsRecords elements all answer)
taken_all elements all left named reductions number so_far none =
    let same : so_far.before ≡ all = sym (so_far.split ∙ ap (λ (rows : List Row). so_far.before ++ rows) none ∙ append-nil so_far.before) in (
      subst (HasNoFault (fault_among elements)) same so_far.no_fault,
      so_far.reductions_are ∙ ap (λ (rows : List Row). map (reduction_in elements) rows) same,
    )

-- ---- the header

pub no_header : (rows : List Row) → rows ≡ [] → HasNoHeader rows
unfolding is_header
no_header rows e = record { first = []; left = []; split = ap some_rows e; is_not = refl }

pub wrong_header : (rows left : List Row) (row : Row) → rows ≡ row ∷ left → is_header row ≡ false → HasNoHeader rows
wrong_header rows left row e f = record { first = row; left = left; split = ap some_rows e; is_not = f }

pub header_fault : (elements : List Element) (bytes : List ℕ) → HasNoHeader (records_in bytes) → IsReductionFault elements bytes 1 WrongType
header_fault elements bytes h = record {
  before = [];
  here = h.first;
  after = h.left;
  split = h.split;
  number_is = refl;
  fault = ap (λ (b : Bool). cond b None (Some WrongType)) h.is_not;
  none_before = HasNoFault-nil (row_fault elements);
}

-- ---- from the records to the document

-- no row has a fault where the header and the records have none
header_none : (elements : List Element) (header : Row) (records : List Row) → is_header header ≡ true → HasNoFault (fault_among elements) records → HasNoFault (row_fault elements) (header ∷ records)
header_none elements header records is none [] item rest e =
    let same : header ≡ item = cc in
    ap (λ (r : Row). cond (is_header r) None (Some WrongType)) (sym same) ∙ ap (λ (b : Bool). cond b None (Some WrongType)) is
header_none elements header records is none (f ∷ fs) item rest e =
    let tail : records ≡ fs ++ item ∷ rest = cc in
    none fs item rest tail

header_first : (elements : List Element) (header : Row) (records : List Row) (n : ℕ) (kind : ReductionKind) → is_header header ≡ true → IsFirstFault (fault_among elements) records n kind
    → IsFirstFault (row_fault elements) (header ∷ records) (n + 1) kind
header_first elements header records n kind is first = record {
  before = header ∷ first.before;
  here = first.here;
  after = first.after;
  split = ap (λ (rows : List Row). header ∷ rows) first.split;
  number_is = let e = first.number_is in omega arith;
  fault = first.fault;
  none_before = header_none elements header first.before is first.none_before;
}

pub document_read : (elements : List Element) (bytes : List ℕ) (rows left : List Row) (result : Result (List Reduction) ReductionError)
    → rows ≡ records_in bytes → HasHeader rows left → ReadsRecords elements left result → Reads elements bytes result
document_read elements bytes rows left (Err (errors.Memory m)) e h r = tt
document_read elements bytes rows left (Err (errors.Fault row kind)) e h r =
    let split : records_in bytes ≡ h.header ∷ left = sym e ∙ h.split in
    let here : IsFirstFault (row_fault elements) (h.header ∷ left) (r.0 + 1) kind = header_first elements h.header left r.0 kind h.is r.2 in
    let number : r.0 + 1 ≡ row = sym r.1 in
    subst (λ (n : ℕ). IsFirstFault (row_fault elements) (document_rows bytes) n kind) number
    (subst (λ (rs : List Row). IsFirstFault (row_fault elements) (some_rows rs) (r.0 + 1) kind) (sym split) here)
document_read elements bytes rows left (Ok reductions) e h r =
    let split : records_in bytes ≡ h.header ∷ left = sym e ∙ h.split in (
      subst (λ (rs : List Row). HasNoFault (row_fault elements) (some_rows rs)) (sym split) (header_none elements h.header left h.is r.0),
      r.1 ∙ ap (λ (rs : List Row). map (reduction_in elements) (drop 1 rs)) (sym split),
    )

pub answers_fault : (elements : List Element) (bytes : List ℕ) (result : Result (List Reduction) ReductionError) → Reads elements bytes result
    → (row : ℕ) (kind : ReductionKind) → IsReductionFault elements bytes row kind → IsRowFault row kind result
answers_fault elements bytes (Ok reductions) r row kind f = IsFirstFault-fault (row_fault elements) (document_rows bytes) row kind f r.0
answers_fault elements bytes (Err (errors.Fault n k)) r row kind f = IsFirstFault-same (row_fault elements) (document_rows bytes) n row k kind r f
answers_fault elements bytes (Err (errors.Memory m)) r row kind f = tt

-- How the records are gone over, and what the answer says. Reads, IsRowFault and AreReductions are of public contracts; nobody
-- need believe the rest.
use Rattle.std.specs.Prelude.{◌≡◌, ℕ, ◌+◌, Bool, true, false, List, [], ◌∷◌, ◌++◌, length, map, Option, Some, None, Result, Ok, Err}
use Rattle.fb_types.specs.declared.crac.Element.{Element}
use Rattle.first_fault.specs.FirstFault.{IsFirstFault, HasNoFault}
use Rattle.run_settings.specs.Reductions.{Row, field_in, is_opposite, is_formed, direction_in, watts_in, named_by, record_fault, reduction_in, is_header, some_rows, IsReductionFault, HasNoReductionFault, reductions_of}
use Rattle.run_settings.specs.declared.named.Named.{Named}
use Rattle.run_settings.specs.declared.record.Form.{Form}
use Rattle.run_settings.specs.declared.record.RecordError.{RecordError}
use Rattle.run_settings.specs.declared.record.RecordError.TheVariants as records
use Rattle.run_settings.specs.declared.reduction.Reduction.{Reduction}
use Rattle.run_settings.specs.declared.reduction.ReductionKind.{ReductionKind}
use Rattle.run_settings.specs.declared.reduction.ReductionError.{ReductionError}
use Rattle.run_settings.specs.declared.reduction.ReductionError.TheVariants as errors

-- ---- the answer

-- the reductions are those of a document without a fault; a fault is the document's first
abbrev pub Reads : List Element → List ℕ → Result (List Reduction) ReductionError → Type 0
Reads elements bytes (Ok reductions) = HasNoReductionFault elements bytes × (reductions ≡ reductions_of elements bytes)
Reads elements bytes (Err (errors.Fault row kind)) = IsReductionFault elements bytes row kind
Reads elements bytes (Err (errors.Memory e)) = Unit {0}

-- this fault, unless memory ran out
abbrev pub IsRowFault : ℕ → ReductionKind → Result (List Reduction) ReductionError → Type 0
IsRowFault row kind (Ok reductions) = ⊥
IsRowFault row kind (Err (errors.Fault r k)) = (r ≡ row) × (k ≡ kind)
IsRowFault row kind (Err (errors.Memory e)) = Unit {0}

-- these reductions, unless memory ran out
abbrev pub AreReductions : List Reduction → Result (List Reduction) ReductionError → Type 0
AreReductions what (Ok reductions) = reductions ≡ what
AreReductions what (Err (errors.Fault row kind)) = ⊥
AreReductions what (Err (errors.Memory e)) = Unit {0}

-- ---- one record

-- what a record of the right form says
pub record IsForm (row : Row) (form : Form) : Type 0 where
  pub formed : is_formed row ≡ true
  pub id : form.id.now ≡ field_in 0 row
  pub direction : direction_in row ≡ Some form.opposite
  pub cva : watts_in 2 row ≡ Some form.cva
  pub iva : watts_in 3 row ≡ Some form.iva

abbrev pub Judges : Option ReductionKind → Reduction → Result Reduction RecordError → Type 0
Judges fault reduction (Ok r) = (fault ≡ None) × (r ≡ reduction)
Judges fault reduction (Err (records.Fault kind)) = fault ≡ Some kind
Judges fault reduction (Err (records.Memory e)) = Unit {0}

abbrev pub JudgesAt : ℕ → Option ReductionKind → Reduction → Result Reduction ReductionError → Type 0
JudgesAt number fault reduction (Ok r) = (fault ≡ None) × (r ≡ reduction)
JudgesAt number fault reduction (Err (errors.Fault row kind)) = (row ≡ number) × (fault ≡ Some kind)
JudgesAt number fault reduction (Err (errors.Memory e)) = Unit {0}

-- the names with one id more
abbrev pub with_id : Bool → List ℕ → Named → Named
with_id false id named = record { direct = named.direct ++ id ∷ []; opposite = named.opposite }
with_id true id named = record { direct = named.direct; opposite = named.opposite ++ id ∷ [] }

-- the names with those of one record more
abbrev pub with_row : Named → Row → Named
with_row named row = with_id (is_opposite row) (field_in 0 row) named

-- ---- all records

-- the rows begin with the header, and the rest is left
pub record HasHeader (rows left : List Row) : Type 0 where
  pub header : Row
  pub split : rows ≡ header ∷ left
  pub is : is_header header ≡ true

-- the first row, or an empty one where there is none, is not the header
pub record HasNoHeader (rows : List Row) : Type 0 where
  pub first : Row
  pub left : List Row
  pub split : some_rows rows ≡ first ∷ left
  pub is_not : is_header first ≡ false

-- the fault of a record, after the records before it
abbrev pub fault_among : List Element → List Row → Row → Option ReductionKind
fault_among elements before row = record_fault elements (named_by before) row

-- the records before those that are left were taken, and the next has this number
pub record AreTaken (elements : List Element) (all left : List Row) (named : Named) (reductions : List Reduction) (number : ℕ) : Type 0 where
  pub before : List Row
  pub split : all ≡ before ++ left
  pub no_fault : HasNoFault (fault_among elements) before
  pub named_is : named ≡ named_by before
  pub reductions_are : reductions ≡ map (reduction_in elements) before
  pub number_is : number ≡ length before + 2

-- the answer over the records after the header
abbrev pub ReadsRecords : List Element → List Row → Result (List Reduction) ReductionError → Type 0
ReadsRecords elements rows (Ok reductions) = HasNoFault (fault_among elements) rows × (reductions ≡ map (reduction_in elements) rows)
ReadsRecords elements rows (Err (errors.Fault row kind)) = (number : ℕ) × (row ≡ number + 1) × IsFirstFault (fault_among elements) rows number kind
ReadsRecords elements rows (Err (errors.Memory e)) = Unit {0}

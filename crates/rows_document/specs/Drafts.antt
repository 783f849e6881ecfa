-- Words of private contracts: a document that is being read, record by record. Nobody need believe them, since what the
-- reader answers is said in Reading.
use Rattle.std.specs.List.{All}
use Rattle.rows_document.specs.Table.{fields_of, lines_of}
use Rattle.rows_document.specs.Records.{IsGood, line_of}
use Rattle.std.specs.Prelude.{◌≡◌, ◌+◌, take, drop, ◌≤◌, IfSome, IfNone, ℕ, ℤ, ◌==◌, Bool, ◌&&◌, List, [], ◌∷◌, ◌++◌, Option, Some, None, is_some, is_none, nat_lt, length, map, if◌then◌else◌}
use Rattle.fb_types.specs.declared.rows.Half.{Half}
use Rattle.rows_document.specs.declared.record.Record.{Record}
use Rattle.rows_document.specs.declared.record.Record.TheVariants.{Zone, Row, Target, Cite, Balance}
use Rattle.rows_document.specs.declared.reader.RowsDocument.{RowsDocument}
use Rattle.rows_document.specs.Reading.{IsFirstBadLine}
use Rattle.rows_document.specs.declared.reader.RowsError.{RowsError}
use Rattle.rows_document.specs.declared.reader.RowsError.TheVariants.{Fault, Memory}
use Rattle.rows_document.specs.declared.draft.Draft.{Draft}

abbrev pub start : Draft
start = record { bounds = []; rows = []; target = None; mults = []; mu = None }

abbrev pub takes : Draft → Record → Bool
takes d (Zone b) = is_none d.target && (length d.rows == 0) && nat_lt (length d.bounds) 64
takes d (Row h) = is_none d.target && nat_lt 0 (length d.bounds) && (length h.a == length d.bounds) && nat_lt (length d.rows) 40000
takes d (Target h) = is_none d.target && nat_lt 0 (length d.bounds) && (length h.a == length d.bounds)
takes d (Cite m) = is_some d.target && is_none d.mu
takes d (Balance mu) = is_some d.target && is_none d.mu

abbrev pub after : Draft → Record → Draft
after d (Zone b) = record d { bounds = d.bounds ++ b ∷ [] }
after d (Row h) = record d { rows = d.rows ++ h ∷ [] }
after d (Target h) = record d { target = Some h }
after d (Cite m) = record d { mults = d.mults ++ m ∷ [] }
after d (Balance mu) = record d { mu = Some mu }

abbrev pub finished_of : Draft → Option Half → Option ℤ → Option RowsDocument
finished_of d (Some target) (Some mu) = Some (record { bounds = d.bounds; rows = d.rows; target = target; by = record { mu = mu; mults = d.mults } })
finished_of d (Some target) None = None
finished_of d None mu = None

abbrev pub finished : Draft → Option RowsDocument
finished d = finished_of d d.target d.mu

-- the draft after all records, if each may stand where it stands
abbrev pub runs : Draft → List Record → Option Draft
runs d [] = Some d
runs d (r ∷ rs) = if takes d r then runs (after d r) rs else None

-- the records of a draft
abbrev pub target_records : Option Half → List Record
target_records None = []
target_records (Some h) = Target h ∷ []

abbrev pub balance_records : Option ℤ → List Record
balance_records None = []
balance_records (Some mu) = Balance mu ∷ []

abbrev pub records_so_far : Draft → List Record
records_so_far d = map Zone d.bounds ++ (map Row d.rows ++ (target_records d.target ++ (map Cite d.mults ++ balance_records d.mu)))

-- what holds of every draft on the way
pub record IsStaged (d : Draft) : Type 0 where
  pub few_zones : length d.bounds ≤ 64
  pub few_rows : length d.rows ≤ 40000
  pub rows_over : All (λ h. length h.a ≡ length d.bounds) d.rows
  pub rows_after : length d.bounds ≡ 0 → d.rows ≡ []
  pub target_over : IfSome d.target (λ h. (1 ≤ length d.bounds) × (length h.a ≡ length d.bounds))
  pub no_more : IfNone d.target ((d.mults ≡ []) × (d.mu ≡ None))

-- the draft of the first lines of a document
pub record IsDraftOf (texts : List (List ℕ)) (d : Draft) : Type 0 where
  pub spelled : map line_of (records_so_far d) ≡ map fields_of texts
  pub good : All IsGood (records_so_far d)
  pub run : runs start (records_so_far d) ≡ Some d
  pub staged : IsStaged d

-- how far the lines of the bytes are read
pub record IsReadSoFar (bytes rest : List ℕ) (number : ℕ) (d : Draft) : Type 0 where
  pub within : number ≤ length (lines_of bytes)
  pub drafted : IsDraftOf (take number (lines_of bytes)) d
  pub left : drop number (lines_of bytes) ≡ lines_of rest
  pub room : number + length rest ≤ length bytes

-- why reading the lines stopped
abbrev pub IsBadLineOf : List (List ℕ) → RowsError → Type 0
IsBadLineOf lines (Fault line) = IsFirstBadLine lines line
IsBadLineOf lines (Memory e) = Unit {0}

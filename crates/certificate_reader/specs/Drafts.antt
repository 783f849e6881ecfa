-- Words of private contracts: a certificate that is being read, record by record. Nobody need believe them, since what
-- the reader answers is said in Reading.
use Rattle.std.specs.Prelude.{◌≡◌, ◌≢◌, ℕ, ◌+◌, pos, Bool, true, false, ◌==◌, ◌||◌, List, [], ◌∷◌, ◌++◌, Option, Some, None, length, map, nat_lt, ⊤, if◌then◌else◌}
use Rattle.std.specs.List.{All, flat_map}
use Rattle.fb_types.specs.declared.rows.Angles.{Angles}
use Rattle.state_proofs.specs.declared.StateProof.{StateProof}
use Rattle.fb_certificate.specs.declared.types.Certificate.{Certificate}
use Rattle.certificate_text.specs.Lines.{Line, version_line, state_line, barrier_line, column_line, row_line, inner_line, outer_line, end_line, fields_of, IsGood}
use Rattle.certificate_reader.specs.Reading.{unlabelled, state_lines}
use Rattle.certificate_reader.specs.Records.{line_of}
use Rattle.certificate_reader.specs.declared.record.Record.{Record}
use Rattle.certificate_reader.specs.declared.draft.Draft.{Draft}
use Rattle.certificate_reader.specs.declared.draft.Last.{Last}
use Rattle.certificate_reader.specs.declared.draft.Last.TheVariants as last

abbrev pub start : Draft
start = record { last = last.Nothing; states = []; rows = []; inner = []; outer = [] }

-- ---- the order of kinds

-- a number for each kind
abbrev pub kind_of : Line → ℕ
kind_of version_line = 1
kind_of (state_line k id) = 2
kind_of (barrier_line k v) = 3
kind_of (column_line place x) = 4
kind_of (row_line n r) = 5
kind_of (inner_line c) = 6
kind_of (outer_line c) = 7
kind_of end_line = 8

-- whether a line of this kind may stand behind what is last
abbrev pub may_follow : Last → ℕ → Bool
may_follow last.Nothing kind = kind == 1
may_follow last.Version kind = (kind == 2) || nat_lt 4 kind
may_follow last.State kind = kind == 3
may_follow (last.Barrier v) kind = kind == 4
may_follow (last.Column s) kind = (kind == 2) || nat_lt 3 kind
may_follow last.Row kind = nat_lt 4 kind
may_follow last.Inner kind = nat_lt 5 kind
may_follow last.Outer kind = nat_lt 6 kind
may_follow last.End kind = false

abbrev pub admits : Draft → Line → Bool
admits d l = may_follow d.last (kind_of l)

abbrev pub takes : Draft → Record → Bool
takes d r = admits d (line_of r)

-- ---- one more line

abbrev pub closed : List StateProof → Last → List StateProof
closed states last.Nothing = states
closed states last.Version = states
closed states last.State = states
closed states (last.Barrier v) = states
closed states (last.Column s) = states ++ s ∷ []
closed states last.Row = states
closed states last.Inner = states
closed states last.Outer = states
closed states last.End = states

abbrev pub with_column : Last → Angles → Last
with_column last.Nothing x = last.Nothing
with_column last.Version x = last.Version
with_column last.State x = last.State
with_column (last.Barrier v) x = last.Column (record { barrier = v; reference = x; blocks = [] })
with_column (last.Column s) x = last.Column (record { barrier = s.barrier; reference = s.reference; blocks = s.blocks ++ x ∷ [] })
with_column last.Row x = last.Row
with_column last.Inner x = last.Inner
with_column last.Outer x = last.Outer
with_column last.End x = last.End

abbrev pub ended : Draft → Last → Draft
ended d next = record { last = next; states = d.states; rows = d.rows; inner = d.inner; outer = d.outer }

abbrev pub closed_at : Draft → Last → Draft
closed_at d next = record { last = next; states = closed d.states d.last; rows = d.rows; inner = d.inner; outer = d.outer }

abbrev pub column_at : Draft → Angles → Draft
column_at d x = ended d (with_column d.last x)

abbrev pub with_line : Draft → Line → Draft
with_line d version_line = ended d last.Version
with_line d (state_line k id) = closed_at d last.State
with_line d (barrier_line k v) = ended d (last.Barrier v)
with_line d (column_line place x) = column_at d x
with_line d (row_line n r) = record { last = last.Row; states = closed d.states d.last; rows = d.rows ++ r ∷ []; inner = d.inner; outer = d.outer }
with_line d (inner_line c) = record { last = last.Inner; states = closed d.states d.last; rows = d.rows; inner = d.inner ++ c ∷ []; outer = d.outer }
with_line d (outer_line c) = record { last = last.Outer; states = closed d.states d.last; rows = d.rows; inner = d.inner; outer = d.outer ++ c ∷ [] }
with_line d end_line = closed_at d last.End

abbrev pub after : Draft → Record → Draft
after d r = with_line d (line_of r)

abbrev pub finished_of : Last → Draft → Option Certificate
finished_of last.Nothing d = None
finished_of last.Version d = None
finished_of last.State d = None
finished_of (last.Barrier v) d = None
finished_of (last.Column s) d = None
finished_of last.Row d = None
finished_of last.Inner d = None
finished_of last.Outer d = None
finished_of last.End d = Some (record { version = 1; states = d.states; rows = d.rows; inner = d.inner; outer = d.outer })

abbrev pub finished : Draft → Option Certificate
finished d = finished_of d.last d

-- the draft after all lines, if each may stand where it stands
abbrev pub runs : Draft → List Line → Option Draft
runs d [] = Some d
runs d (l ∷ ls) = if admits d l then runs (with_line d l) ls else None

-- ---- the lines of a draft

abbrev pub first_lines : Last → List Line
first_lines last.Nothing = []
first_lines last.Version = version_line ∷ []
first_lines last.State = version_line ∷ []
first_lines (last.Barrier v) = version_line ∷ []
first_lines (last.Column s) = version_line ∷ []
first_lines last.Row = version_line ∷ []
first_lines last.Inner = version_line ∷ []
first_lines last.Outer = version_line ∷ []
first_lines last.End = version_line ∷ []

-- the lines of the state that is open
abbrev pub open_lines : Last → List Line
open_lines last.Nothing = []
open_lines last.Version = []
open_lines last.State = state_line (pos 0) [] ∷ []
open_lines (last.Barrier v) = state_line (pos 0) [] ∷ barrier_line (pos 0) v ∷ []
open_lines (last.Column s) = state_lines s
open_lines last.Row = []
open_lines last.Inner = []
open_lines last.Outer = []
open_lines last.End = []

abbrev pub last_lines : Last → List Line
last_lines last.Nothing = []
last_lines last.Version = []
last_lines last.State = []
last_lines (last.Barrier v) = []
last_lines (last.Column s) = []
last_lines last.Row = []
last_lines last.Inner = []
last_lines last.Outer = []
last_lines last.End = end_line ∷ []

abbrev pub lines_so_far : Draft → List Line
lines_so_far d =
    first_lines d.last
    ++ (flat_map state_lines d.states
    ++ (open_lines d.last
    ++ (map (row_line (pos 0)) d.rows ++ (map inner_line d.inner ++ (map outer_line d.outer ++ last_lines d.last)))))

-- what is empty as yet
abbrev pub IsStagedAt : Last → Draft → Type 0
IsStagedAt last.Nothing d = (d.states ≡ []) × (d.rows ≡ []) × (d.inner ≡ []) × (d.outer ≡ [])
IsStagedAt last.Version d = (d.states ≡ []) × (d.rows ≡ []) × (d.inner ≡ []) × (d.outer ≡ [])
IsStagedAt last.State d = (d.rows ≡ []) × (d.inner ≡ []) × (d.outer ≡ [])
IsStagedAt (last.Barrier v) d = (d.rows ≡ []) × (d.inner ≡ []) × (d.outer ≡ [])
IsStagedAt (last.Column s) d = (d.rows ≡ []) × (d.inner ≡ []) × (d.outer ≡ [])
IsStagedAt last.Row d = (d.inner ≡ []) × (d.outer ≡ [])
IsStagedAt last.Inner d = d.outer ≡ []
IsStagedAt last.Outer d = ⊤
IsStagedAt last.End d = ⊤

abbrev pub IsStaged : Draft → Type 0
IsStaged d = IsStagedAt d.last d

-- ---- reading

-- the draft of these records
pub record IsDraftOf (rows : List (List (List ℕ))) (d : Draft) : Type 0 where
  pub lines : List Line
  pub good : All IsGood lines
  pub spelled : rows ≡ map fields_of lines
  pub parts : map unlabelled lines ≡ lines_so_far d
  pub run : runs start (map unlabelled lines) ≡ Some d
  pub staged : IsStaged d

-- how far the records of a text are read: those that are left are from a place on, counted from 1
pub record IsReadSoFar (rows left : List (List (List ℕ))) (number : ℕ) (d : Draft) : Type 0 where
  pub before : List (List (List ℕ))
  pub whole : rows ≡ before ++ left
  pub counted : number ≡ length before + 1
  pub drafted : IsDraftOf before d

-- what the reading of one more record answers
abbrev pub IsNextDraft : Draft → List (List ℕ) → Option Draft → Type 0
IsNextDraft d row None = (l : Line) → IsGood l → admits d l ≡ true → row ≢ fields_of l
IsNextDraft d row (Some e) = (l : Line) × IsGood l × (admits d l ≡ true) × (row ≡ fields_of l) × (e ≡ with_line d l)

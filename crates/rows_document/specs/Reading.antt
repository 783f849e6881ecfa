-- What a rows document says, and its first bad line.
use Rattle.std.specs.Prelude.{◌≡◌, ℕ, ◌+◌, ◌<◌, ◌≤◌, List, [], ◌∷◌, ◌++◌, length, map, take, Result, Ok, Err}
use Rattle.std.specs.List.{All}
use Rattle.rows_document.specs.Table.{lines_of, fields_of}
use Rattle.rows_document.specs.Records.{IsGood, line_of}
use Rattle.rows_document.specs.declared.record.Record.{Record}
use Rattle.rows_document.specs.declared.record.Record.TheVariants.{Zone, Row, Target, Cite, Balance}
use Rattle.rows_document.specs.declared.reader.RowsDocument.{RowsDocument}
use Rattle.rows_document.specs.declared.reader.RowsError.{RowsError}
use Rattle.rows_document.specs.declared.reader.RowsError.TheVariants.{Fault, Memory}

-- bounds, rows, the target, the citations, and the balance, in this order
abbrev pub records_of : RowsDocument → List Record
records_of d = map Zone d.bounds ++ (map Row d.rows ++ (Target d.target ∷ (map Cite d.by.mults ++ Balance d.by.mu ∷ [])))

-- one to 64 zones, at most 40,000 rows, each row over all zones, and all numbers in their ranges
pub record IsDocument (d : RowsDocument) : Type 0 where
  pub some_zone : 1 ≤ length d.bounds
  pub few_zones : length d.bounds ≤ 64
  pub few_rows : length d.rows ≤ 40000
  pub rows_over : All (λ h. length h.a ≡ length d.bounds) d.rows
  pub target_over : length d.target.a ≡ length d.bounds
  pub in_range : All IsGood (records_of d)

-- the lines are those of the document
pub record AreLinesOf (lines : List (List ℕ)) (d : RowsDocument) : Type 0 where
  pub document : IsDocument d
  pub spelled : map fields_of lines ≡ map line_of (records_of d)

-- the bytes spell the document
abbrev pub IsReading : List ℕ → RowsDocument → Type 0
IsReading bytes d = AreLinesOf (lines_of bytes) d

-- some document begins with these lines
pub record IsBeginning (lines : List (List ℕ)) : Type 0 where
  pub whole : RowsDocument
  pub document : IsDocument whole
  pub front : List Record
  pub rest : List Record
  pub parts : records_of whole ≡ front ++ rest
  pub spelled : map fields_of lines ≡ map line_of front

-- The line, counted from 1, is the first bad one: some document begins with the lines before it, and none begins with
-- these and the line. Where all lines are good and no document has them, it is the place after the last.
pub record IsFirstBadLine (lines : List (List ℕ)) (line : ℕ) : Type 0 where
  pub before : ℕ
  pub place : line ≡ before + 1
  pub within : before ≤ length lines
  pub begun : IsBeginning (take before lines)
  pub broken : before < length lines → ¬ IsBeginning (take (before + 1) lines)
  pub unread : (d : RowsDocument) → ¬ AreLinesOf lines d

-- what an answer of the reader says: the document that the bytes spell, or their first bad line; want of memory may come
-- at any document
abbrev pub SaysOf : List ℕ → Result RowsDocument RowsError → Type 0
SaysOf bytes (Ok d) = IsReading bytes d
SaysOf bytes (Err (Fault line)) = IsFirstBadLine (lines_of bytes) line
SaysOf bytes (Err (Memory e)) = Unit {0}

-- the answer is this document, or memory ran out
abbrev pub IsDocumentOrMemory : Result RowsDocument RowsError → RowsDocument → Type 0
IsDocumentOrMemory (Ok e) d = e ≡ d
IsDocumentOrMemory (Err (Fault line)) d = ⊥
IsDocumentOrMemory (Err (Memory e)) d = Unit {0}

-- the answer is that this line is the first bad one, or memory ran out
abbrev pub IsBadLineOrMemory : Result RowsDocument RowsError → ℕ → Type 0
IsBadLineOrMemory (Ok d) line = ⊥
IsBadLineOrMemory (Err (Fault bad)) line = bad ≡ line
IsBadLineOrMemory (Err (Memory e)) line = Unit {0}

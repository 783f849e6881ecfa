-- Words of private contracts: the lines that records are. Nobody need believe them, since what the reader answers is
-- said in Reading.
use Rattle.std.specs.Prelude.{ℕ, List}
use Rattle.certificate_text.specs.Lines.{Line, version_line, state_line, barrier_line, column_line, row_line, inner_line, outer_line, end_line, fields_of, IsGood}
use Rattle.certificate_reader.specs.declared.record.Record.{Record}
use Rattle.certificate_reader.specs.declared.record.Record.TheVariants as rec
use Rattle.certificate_reader.specs.Spellings.{place_of}

abbrev pub line_of : Record → Line
line_of rec.Version = version_line
line_of (rec.State s) = state_line s.number s.id
line_of (rec.Barrier b) = barrier_line b.state b.heights
line_of (rec.Column c) = column_line (place_of c.spot) c.angles
line_of (rec.Row r) = row_line r.number r.proof
line_of (rec.Inner c) = inner_line c
line_of (rec.Outer c) = outer_line c
line_of rec.End = end_line

abbrev pub IsGoodRecord : Record → Type 0
IsGoodRecord r = IsGood (line_of r)

abbrev pub text_of : Record → List (List ℕ)
text_of r = fields_of (line_of r)

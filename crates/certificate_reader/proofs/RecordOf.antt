-- Each line is that of a record.
use Rattle.std.proofs.Common.{◌≡◌, refl}
use Rattle.certificate_text.specs.Lines.{Line, version_line, state_line, barrier_line, column_line, row_line, inner_line, outer_line, end_line}
use Rattle.certificate_reader.specs.declared.record.Record.{Record}
use Rattle.certificate_reader.specs.declared.record.Record.TheVariants as rec
use Rattle.certificate_reader.specs.Records.{line_of}

abbrev pub record_of : Line → Record
record_of version_line = rec.Version
record_of (state_line k id) = rec.State (record { number = k; id = id })
record_of (barrier_line k v) = rec.Barrier (record { state = k; heights = v })
record_of (column_line place x) = rec.Column (record { spot = record { state = place.state; zone = place.zone; block = place.block }; angles = x })
record_of (row_line n r) = rec.Row (record { number = n; proof = r })
record_of (inner_line c) = rec.Inner c
record_of (outer_line c) = rec.Outer c
record_of end_line = rec.End

pub line_back : (l : Line) → line_of (record_of l) ≡ l
line_back version_line = refl
line_back (state_line k id) = refl
line_back (barrier_line k v) = refl
line_back (column_line place x) = refl
line_back (row_line n r) = refl
line_back (inner_line c) = refl
line_back (outer_line c) = refl
line_back end_line = refl

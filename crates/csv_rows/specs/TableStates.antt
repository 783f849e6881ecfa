-- Words of contracts on a table under way, which nobody need believe: what is written in the end is a text.
use Rattle.std.specs.Prelude.{◌≡◌, ℕ, Bool, true, false, List, ◌++◌}
use Rattle.std.specs.Global.{Vec}
use Rattle.csv.specs.Writing.{default_writer, fields_written, has_written, with_flexible, writer_pending, writer_setup, writer_under}
use Rattle.csv.specs.declared.writer.Writer.{Writer}
use Rattle.csv.specs.declared.writer.WriterBuilder.{WriterBuilder}

-- (words of a contract) the text of the records of a table, and whether one has failed for want of memory
pub record TableState : Type 0 where
  pub text : List ℕ
  pub has_failed : Bool

-- (words of a private contract) how a table is written: as by default, with records of any lengths
abbrev pub table_writer : WriterBuilder
table_writer = with_flexible default_writer true

-- (words of a private contract) what a writer over bytes has written
abbrev pub written_text : Writer (Vec ℕ) → List ℕ
written_text w = (writer_under w).items ++ writer_pending w

-- (words of a private contract) a writer of a table at the start of a record
pub record IsAtRecord (w : Writer (Vec ℕ)) : Type 0 where
  pub setup : writer_setup w ≡ table_writer
  pub fields : fields_written w ≡ 0
  pub wrote : has_written w ≡ false

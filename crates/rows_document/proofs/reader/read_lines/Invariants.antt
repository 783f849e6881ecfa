use Rattle.std.proofs.Common.{length}
use Rattle.rows_document.specs.Drafts.{IsReadSoFar}
use Rattle.rows_document.proofs.reader.read_lines.Given as goal

abbrev pub invariant-lines : goal.invariant-lines
invariant-lines l = IsReadSoFar l.bytes l.rest l.number l.draft

abbrev pub decreases-lines : goal.decreases-lines
decreases-lines l = length l.rest

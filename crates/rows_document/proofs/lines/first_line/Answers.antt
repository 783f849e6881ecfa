use Rattle.std.proofs.Common.{take_all, rules}
use Rattle.std.proofs.lemmas.List.{take_rest}
use Rattle.rows_document.proofs.LineLaws.{line_ends, line_last, in_line_more}
use Rattle.rows_document.proofs.lines.first_line.Goals as goal

pub returns-then-bytes-at-eq10-clause-parted : goal.returns-then-bytes-at-eq10-clause-parted
returns-then-bytes-at-eq10-clause-parted c = rw take_rest (line_ends c.args.bytes.now c.loop-at.at 0 (search rules) (search rules) c.loop-at.invariant)

pub loop-at-preserved : goal.loop-at-preserved
loop-at-preserved c = in_line_more c.args.bytes.now c.loop-at.at 0 (search rules) (search rules) c.loop-at.invariant

pub returns-clause-parted : goal.returns-clause-parted
returns-clause-parted c = line_last c.args.bytes.now c.requires (rw (take_all _ _ c.loop-at-test.false) at c.loop-at.invariant)

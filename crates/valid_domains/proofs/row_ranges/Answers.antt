use Rattle.valid_domains.proofs.NumberRanges.{rows_in_box}
use Rattle.valid_domains.proofs.row_ranges.Goals as goal

pub returns : goal.returns
returns c = rows_in_box _ _ _ c.requires.whole c.requires.proofs c.requires.rows

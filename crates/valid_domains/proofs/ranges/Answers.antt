use Rattle.valid_domains.proofs.NumberRanges.{numbers_in_range}
use Rattle.valid_domains.proofs.ranges.Goals as goal

pub returns : goal.returns
returns c = numbers_in_range _ _ c.requires.whole c.requires.valid

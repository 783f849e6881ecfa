use Rattle.fractions.specs.GreatestLaws.{greatest_is, least_is}
use Rattle.fractions.proofs.ends.Goals as goal

pub returns : goal.returns
returns c = record { greatest = greatest_is; least = least_is }

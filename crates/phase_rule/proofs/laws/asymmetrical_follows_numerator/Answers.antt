use Rattle.phase_rule.proofs.Following.{asymmetrical_follows}
use Rattle.phase_rule.proofs.laws.asymmetrical_follows_numerator.Goals as goal

pub returns : goal.returns
returns c = asymmetrical_follows

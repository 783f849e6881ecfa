use Rattle.phase_rule.proofs.Following.{symmetrical_follows_tap}
use Rattle.phase_rule.proofs.laws.symmetrical_follows_tap.Goals as goal

pub returns : goal.returns
returns c = symmetrical_follows_tap

use Rattle.phase_rule.proofs.Following.{symmetrical_turns}
use Rattle.phase_rule.proofs.laws.symmetrical_turns_with_tap.Goals as goal

pub returns : goal.returns
returns c = symmetrical_turns

use Rattle.valid_domains.proofs.Theorem.{sound_domain}
use Rattle.valid_domains.proofs.sound.Goals as goal

pub returns : goal.returns
returns c = sound_domain _ _ c.requires.whole c.requires.valid

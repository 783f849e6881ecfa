use Rattle.row_security.proofs.Chosen.{has_choices}
use Rattle.row_security.proofs.choices.Goals as goal

pub returns : goal.returns
returns c = has_choices _ c.sound.ensures _

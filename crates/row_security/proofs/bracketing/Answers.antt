use Rattle.row_security.proofs.Exchanges.{held_rows_are_bracketed}
use Rattle.row_security.proofs.bracketing.Goals as goal

pub returns : goal.returns
returns c = held_rows_are_bracketed _ c.sound.ensures _

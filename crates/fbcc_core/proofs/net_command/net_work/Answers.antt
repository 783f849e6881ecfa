use Rattle.fbcc_core.proofs.Chains.{net_joined}
use Rattle.fbcc_core.proofs.net_command.net_work.Goals as goal

pub returns : goal.returns
returns g c = net_joined _ _ c.in_ok-grid.grid c.net_of.result c.in_ok-grid.ensures.step c.net_of.ensures

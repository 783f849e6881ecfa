use Rattle.security.proofs.ExchangeLaws.{external-outside}
use Rattle.security.proofs.external_flow.Goals as goal

pub returns : goal.returns
returns c = external-outside

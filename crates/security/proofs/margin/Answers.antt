use Rattle.security.proofs.MarginLaws.{ram-shortened, ram-top}
use Rattle.security.proofs.margin.Goals as goal

pub returns : goal.returns
returns c = record { shortened = ram-shortened; below_top = ram-top }

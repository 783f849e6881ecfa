use Rattle.first_fault.proofs.FirstFaultLaws.{IsFirstFault-same, IsFirstFault-fault}
use Rattle.first_fault.proofs.one_first_fault.Goals as goal

pub returns : goal.returns
returns g c = record { same = IsFirstFault-same; none = IsFirstFault-fault }

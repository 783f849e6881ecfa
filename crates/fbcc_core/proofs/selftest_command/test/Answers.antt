use Rattle.fbcc_core.proofs.Checking.{not_rejected}
use Rattle.fbcc_core.proofs.selftest_command.test.Goals as goal

pub unreachable-requires : goal.unreachable-requires
unreachable-requires g c =
    not_rejected c.args.inputs.now c.in-Ok.certificate c.in-Ok.ensures.valid c.in-Ok-No.field-0-0 c.in-Ok-No.field-0-1
    (rw c.in-Ok-No.field-0-is at c.in-Ok-No.ensures)

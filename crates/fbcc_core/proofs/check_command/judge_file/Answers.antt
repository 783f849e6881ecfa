use Rattle.certificate_check.proofs.Passing.{valid_where_passed}
use Rattle.fbcc_core.proofs.Checking.{yes_checked}
use Rattle.fbcc_core.proofs.check_command.judge_file.Goals as goal

pub sound-requires-clause-valid : goal.sound-requires-clause-valid
sound-requires-clause-valid g c =
    let verdict = rw c.in-Ok-Yes.field-0-is at c.in-Ok-Yes.ensures in
    valid_where_passed c.args.inputs.now c.args.file.now.certificate verdict.0

pub returns-in-Ok-Yes : goal.returns-in-Ok-Yes
returns-in-Ok-Yes g c =
    yes_checked c.args.inputs.now c.args.file.now c.as_slice-bytes.result.now c.yes.result c.as_slice-bytes.ensures.items
    (rw c.in-Ok-Yes.field-0-is at c.in-Ok-Yes.ensures) c.sound.ensures c.yes.ensures.text c.yes.ensures.verdict c.yes.ensures.memory

use Rattle.certificate_files.proofs.FileVerdicts.{one_file_verdict}
use Rattle.certificate_files.proofs.laws.file_verdicts_are_one.Goals as goal

pub returns : goal.returns
returns c = one_file_verdict

use Rattle.certificate_reader.proofs.Written.{records_written}
use Rattle.certificate_labels.proofs.laws.written_records_are_lines.Goals as goal

pub returns : goal.returns
returns c = records_written

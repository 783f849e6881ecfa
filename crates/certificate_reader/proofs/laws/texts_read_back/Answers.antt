use Rattle.certificate_reader.proofs.Written.{reads_back}
use Rattle.certificate_reader.proofs.laws.texts_read_back.Goals as goal

pub returns : goal.returns
returns c = reads_back

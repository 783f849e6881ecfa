use Rattle.fb_decimal.proofs.RoundTrip.{reads_back}
use Rattle.fb_decimal.proofs.put_decimal.Goals as goal

pub returns-in_err-text-clause-reads_back : goal.returns-in_err-text-clause-reads_back
returns-in_err-text-clause-reads_back c = reads_back c.args.d.millionths

pub returns-clause-reads_back : goal.returns-clause-reads_back
returns-clause-reads_back c = reads_back c.args.d.millionths

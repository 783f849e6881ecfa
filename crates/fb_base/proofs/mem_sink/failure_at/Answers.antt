use Rattle.std.proofs.Common.{rules}
use Rattle.fb_base.proofs.Views.{get-from_entries}
use Rattle.fb_base.proofs.mem_sink.failure_at.Goals as goal

pub returns : goal.returns
returns c = rw (get-from_entries c.args.to_fail.now c.args.call) (search rules)

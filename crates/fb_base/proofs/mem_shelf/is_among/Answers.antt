use Rattle.std.proofs.Common.{rules}
use Rattle.fb_base.proofs.Views.{contains-from_list}
use Rattle.fb_base.proofs.mem_shelf.is_among.Goals as goal

pub returns : goal.returns
returns c = rw (contains-from_list c.args.to_fail.now c.args.call) (search rules)

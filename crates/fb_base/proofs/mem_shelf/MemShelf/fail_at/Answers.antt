use Rattle.fb_base.proofs.Views.{from_list-insert}
use Rattle.fb_base.proofs.mem_shelf.MemShelf.fail_at.Goals as goal

pub returns-clause-added : goal.returns-clause-added
returns-clause-added c = λ _. rw (← c.self.view_is, from_list-insert c.self.inside.to_fail c.insert.new.self c.args.call c.in_ok-insert.ensures.updates)

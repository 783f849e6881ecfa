use Rattle.fb_base.proofs.Views.{documents_of-insert}
use Rattle.fb_base.proofs.mem_shelf.MemShelf.add.Goals as goal

pub returns-clause-added : goal.returns-clause-added
returns-clause-added c =
    rw (← c.self.view_is, documents_of-insert (λ bytes. bytes.items) c.self.inside.held c.insert.new.self c.in_ok-name.name c.in_ok-bytes.bytes c.in_ok-insert.ensures.updates, c.in_ok-name.ensures.ok, c.in_ok-bytes.ensures.items)

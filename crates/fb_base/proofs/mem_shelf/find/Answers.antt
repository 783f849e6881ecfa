use Rattle.std.proofs.Common.{ap}
use Rattle.std.specs.Option.{option_map}
use Rattle.fb_base.proofs.Views.{get-documents_of}
use Rattle.fb_base.proofs.mem_shelf.find.Goals as goal

pub returns-in-None : goal.returns-in-None
returns-in-None c = rw (get-documents_of (λ bytes. bytes.items) c.args.held.now c.args.name.now) (ap (option_map (λ bytes. bytes.items)) c.in-None.ensures.value)

pub returns-in-Some : goal.returns-in-Some
returns-in-Some c = rw (get-documents_of (λ bytes. bytes.items) c.args.held.now c.args.name.now, c.as_slice.ensures.value) (ap (option_map (λ bytes. bytes.items)) c.in-Some.ensures.value)

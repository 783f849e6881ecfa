use Rattle.std.proofs.Common.{◌≡◌, map, take}
use Rattle.grid_state.specs.Links.{between}
use Rattle.grid_state.proofs.links.class_links.Given as goal

abbrev pub invariant-loop-link : goal.invariant-loop-link
invariant-loop-link l = l.made.items ≡ map (between l.class_of) (take l.link-index l.links)

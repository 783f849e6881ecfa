use Rattle.std.proofs.Common.{take}
use Rattle.grid_state.specs.Unions.{AreTrees}
use Rattle.grid_state.proofs.components.unite_all.Given as goal

abbrev pub invariant-loop-link : goal.invariant-loop-link
invariant-loop-link l = AreTrees (take l.link-index l.links) l.up

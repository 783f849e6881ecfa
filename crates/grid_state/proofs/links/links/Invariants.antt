use Rattle.std.proofs.Common.{◌≡◌}
use Rattle.grid_state.specs.Unions.{links_before}
use Rattle.grid_state.proofs.links.links.Given as goal

abbrev pub invariant-loop-number : goal.invariant-loop-number
invariant-loop-number l = l.chosen.items ≡ links_before l.couplers l.out l.branches l.number

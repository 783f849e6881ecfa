use Rattle.std.proofs.Common.{◌≡◌, take}
use Rattle.net_table.specs.NetTexts.{nets_of}
use Rattle.net_table.specs.Totals.{totals_in}
use Rattle.net_table.proofs.totals.totals.Given as goal

abbrev pub invariant-loop-node : goal.invariant-loop-node
invariant-loop-node l = totals_in l.totals.entries ≡ nets_of (take l.node-index l.grid.nodes)

use Rattle.std.proofs.Common.{◌≡◌, ◌++◌, drop}
use Rattle.std.specs.List.{flat_map}
use Rattle.crac_model.specs.Crac.{branches_named}
use Rattle.crac_model.proofs.outages.branches_of.Given as goal

abbrev pub invariant-loop-outage : goal.invariant-loop-outage
invariant-loop-outage l = l.branches ++ flat_map branches_named (drop l.outage-index l.outages) ≡ flat_map branches_named l.outages

use Rattle.std.proofs.Common.{◌≡◌, ◌+◌, ◌-◌, ◌<◌, ◌≤◌, true, false}
use Rattle.crac_model.specs.Power.{most_watts, is_carried}
use Rattle.crac_model.proofs.power.greatest_carried.Given as goal

abbrev pub invariant-loop-low : goal.invariant-loop-low
invariant-loop-low l = record {
  order : l.low ≤ l.high;
  most : l.high ≤ most_watts;
  holds : is_carried l.square l.low ≡ true;
  fails : l.high < most_watts → is_carried l.square (l.high + 1) ≡ false;
}

abbrev pub decreases-loop-low : goal.decreases-loop-low
decreases-loop-low l = l.high - l.low

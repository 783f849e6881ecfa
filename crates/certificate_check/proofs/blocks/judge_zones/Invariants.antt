use Rattle.std.proofs.Common.{◌*◌, ◌≤◌, length}
use Rattle.certificate_check.specs.Judged.{AreZonesReached}
use Rattle.certificate_check.proofs.blocks.judge_zones.Given as goal

abbrev pub invariant-loop-zone : goal.invariant-loop-zone
invariant-loop-zone l = record {
  reached : AreZonesReached l.state l.zones l.columns l.zone-index l.first;
  there : l.first ≤ length l.columns;
  few : l.first ≤ 4 * l.zone-index;
}

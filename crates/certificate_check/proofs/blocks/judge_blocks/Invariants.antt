use Rattle.std.proofs.Common.{◌+◌, ◌≤◌, length}
use Rattle.certificate_check.specs.Judged.{AreBlocksReached}
use Rattle.certificate_check.proofs.blocks.judge_blocks.Given as goal

abbrev pub invariant-loop-i : goal.invariant-loop-i
invariant-loop-i l = record {
  reached : AreBlocksReached l.state l.blocks l.columns l.first l.i;
  there : l.first + l.i ≤ length l.columns;
}

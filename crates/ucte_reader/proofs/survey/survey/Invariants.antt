use Rattle.std.proofs.Common.{◌+◌, ◌≤◌, length}
use Rattle.ucte_reader.specs.Blocks.{placed}
use Rattle.ucte_reader.specs.Passes.{AreNoted, left}
use Rattle.ucte_reader.proofs.survey.survey.Given as goal

abbrev pub invariant-lines : goal.invariant-lines
invariant-lines l = record {
  count : l.known.count + length l.rest ≤ length l.text;
  noted : AreNoted l.known (left l.block l.rest) (placed l.text);
}

abbrev pub decreases-lines : goal.decreases-lines
decreases-lines l = length l.rest

use Rattle.std.proofs.Common.{◌+◌, ◌≤◌, length}
use Rattle.ucte_reader.specs.Blocks.{placed}
use Rattle.ucte_reader.specs.Passes.{Stands, left}
use Rattle.ucte_reader.proofs.passes.judge.Given as goal

abbrev pub invariant-lines : goal.invariant-lines
invariant-lines l = record {
  small : l.number + length l.rest ≤ length l.text;
  stands : Stands l.known (placed l.text) (left l.block l.rest) l.number l.draft;
}

abbrev pub decreases-lines : goal.decreases-lines
decreases-lines l = length l.rest

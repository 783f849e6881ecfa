use Rattle.std.proofs.Common.{◌≤◌, ◌-◌, length, take}
use Rattle.std.specs.Io.KnownBytes.{Appends}
use Rattle.fb_base.proofs.std_sink.write_whole.Given as goal

-- what was written are the first bytes of the piece
abbrev pub invariant-writes : goal.invariant-writes
invariant-writes g l = record {
  within : l.done ≤ length l.piece;
  written : Appends (g.W.Write.contents l.initial.writer) (g.W.Write.contents l.writer) (take l.done l.piece);
}

abbrev pub decreases-writes : goal.decreases-writes
decreases-writes g l = length l.piece - l.done

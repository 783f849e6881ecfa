use Rattle.std.proofs.Common.{◌≤◌, ◌^◌}
use Rattle.row_removal.specs.Kinds.{kind_of}
use Rattle.certificate_check.specs.CiteRulings.{AreCitesReached}
use Rattle.certificate_check.proofs.cites.judge_cites.Given as goal

abbrev pub invariant-loop-i : goal.invariant-loop-i
invariant-loop-i l = record {
  reached : AreCitesReached (kind_of l.list.kind) l.list.bounds.now l.list.rows.now l.cites l.i l.least;
  rising : l.i ≤ l.least;
  small : l.least ≤ 2 ^ 32;
}

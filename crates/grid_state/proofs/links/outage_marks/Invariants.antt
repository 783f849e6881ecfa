use Rattle.std.proofs.Common.{take}
use Rattle.grid_state.specs.Links.{is_out}
use Rattle.grid_state.specs.Unions.{AreMarks}
use Rattle.grid_state.proofs.links.outage_marks.Given as goal

abbrev pub invariant-loop-branch : goal.invariant-loop-branch
invariant-loop-branch l = AreMarks l.branches l.marks.items (is_out (take l.branch-index l.outage))

use Rattle.std.proofs.Common.{◌≡◌, eqb, map, take}
use Rattle.grid_state.proofs.rows.same_label.Given as goal

abbrev pub invariant-loop-other : goal.invariant-loop-other
invariant-loop-other l = l.marks.items ≡ map (λ x. eqb x l.label) (take l.other-index l.labels)

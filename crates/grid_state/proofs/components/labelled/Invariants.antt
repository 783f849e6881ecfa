use Rattle.grid_state.specs.Unions.{LabelsFirst}
use Rattle.grid_state.proofs.components.labelled.Given as goal

abbrev pub invariant-loop-place : goal.invariant-loop-place
invariant-loop-place l = LabelsFirst l.up l.class_of.items l.count l.place

use Rattle.std.proofs.Common.{◌≡◌, filter}
use Rattle.std.specs.List.{range_with_len}
use Rattle.run_inputs.specs.Marks.{is_marked}
use Rattle.run_inputs.proofs.outages.marked_places.Given as goal

abbrev pub invariant-loop-place : goal.invariant-loop-place
invariant-loop-place l = l.places ≡ filter (is_marked l.marks) (range_with_len 0 l.place)

use Rattle.std.proofs.Common.{◌≡◌, take}
use Rattle.run_inputs.specs.Marks.{named_of}
use Rattle.run_inputs.proofs.outages.named.Given as goal

abbrev pub invariant-loop-element : goal.invariant-loop-element
invariant-loop-element l = l.marks.items ≡ named_of l.contingencies (take l.element-index l.elements)

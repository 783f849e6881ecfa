use Rattle.std.proofs.Common.{◌≡◌, ◌++◌, length}
use Rattle.fb_json.specs.Machine.{outside}
use Rattle.fb_json.proofs.marking.mark_all.Given as goal

abbrev pub invariant-loop-rest : goal.invariant-loop-rest
invariant-loop-rest l = l.out.items ++ outside l.rest ≡ outside l.bytes

abbrev pub decreases-loop-rest : goal.decreases-loop-rest
decreases-loop-rest l = length l.rest

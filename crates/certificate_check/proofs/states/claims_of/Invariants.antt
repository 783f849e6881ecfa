use Rattle.std.proofs.Common.{◌≡◌, length, map, take}
use Rattle.std.specs.List.{zip}
use Rattle.certificate_check.proofs.Claims.{pair_of}
use Rattle.certificate_check.proofs.states.claims_of.Given as goal

abbrev pub invariant-loop-state : goal.invariant-loop-state
invariant-loop-state l =
    map pair_of l.claims ≡ zip (take (length l.yielded) l.states) (take (length l.yielded) l.proofs)

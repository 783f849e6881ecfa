use Rattle.std.proofs.Common.{◌≡◌, ◌*◌, ◌^◌, take, pos}
use Rattle.std.specs.Prelude.{◌≤ℤ◌}
use Rattle.whole_laws.specs.Sums.{sum_over}
use Rattle.multiplier_search.proofs.proposals.is_light.Given as goal

abbrev pub invariant-loop-m : goal.invariant-loop-m
invariant-loop-m l =
    (l.total ≡ sum_over (λ m. m.value) (take l.m-index l.mults)) × (pos 0 ≤ℤ l.total) × (l.total ≤ℤ pos (9 * 10 ^ 11))

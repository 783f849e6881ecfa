use Rattle.std.proofs.Common.{◌≡◌, true, take}
use Rattle.std.specs.List.{AllByRecursion}
use Rattle.fb_json.specs.Marking.{is_of_run}
use Rattle.fb_json.proofs.marking.run_len.Given as goal

abbrev pub invariant-loop-at : goal.invariant-loop-at
invariant-loop-at l = AllByRecursion (λ c. is_of_run c ≡ true) (take l.at l.bytes)

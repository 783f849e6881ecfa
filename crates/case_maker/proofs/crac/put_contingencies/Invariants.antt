use Rattle.std.proofs.Common.{◌≡◌, ◌++◌, map, string_bytes}
use Rattle.std.specs.List.{range_with_len}
use Rattle.case_maker.specs.CracTexts.{contingency_text}
use Rattle.case_maker.specs.Pieces.{parted}
use Rattle.case_maker.proofs.crac.put_contingencies.Given as goal

abbrev pub invariant-loop-outage : goal.invariant-loop-outage
invariant-loop-outage l = string_bytes l.text ≡ string_bytes l.initial.text ++ parted (map (contingency_text l.nodes) (range_with_len 0 l.outage))

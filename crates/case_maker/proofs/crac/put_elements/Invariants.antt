use Rattle.std.proofs.Common.{◌≡◌, ◌*◌, ◌++◌, map, string_bytes}
use Rattle.std.specs.List.{range_with_len}
use Rattle.case_maker.specs.CracTexts.{next_element}
use Rattle.case_maker.specs.Drawing.{state_after}
use Rattle.case_maker.specs.Pieces.{parted}
use Rattle.case_maker.proofs.crac.put_elements.Given as goal

abbrev pub invariant-loop-element : goal.invariant-loop-element
invariant-loop-element l = record {
  written : string_bytes l.text ≡ string_bytes l.initial.text ++ parted (map (next_element l.initial.draws.state l.nodes) (range_with_len 0 l.element));
  moved : l.draws.state ≡ state_after l.initial.draws.state (2 * l.element);
}

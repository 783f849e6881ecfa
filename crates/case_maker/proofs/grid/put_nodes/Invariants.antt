use Rattle.std.proofs.Common.{◌≡◌, ◌*◌, ◌++◌, string_bytes}
use Rattle.std.specs.List.{flat_map, range_with_len}
use Rattle.case_maker.specs.Drawing.{state_after}
use Rattle.case_maker.specs.GridTexts.{node_lines}
use Rattle.case_maker.proofs.grid.put_nodes.Given as goal

abbrev pub invariant-loop-node : goal.invariant-loop-node
invariant-loop-node l = record {
  written : string_bytes l.text ≡ string_bytes l.initial.text ++ flat_map (node_lines l.initial.draws.state l.nodes) (range_with_len 0 l.node);
  moved : l.draws.state ≡ state_after l.initial.draws.state (2 * l.node);
}

use Rattle.std.proofs.Common.{◌≡◌, ◌*◌, ◌++◌, ap, ◌∙◌, sym, arith, append_assoc, string_bytes}
use Rattle.std.specs.List.{flat_map, range_with_len}
use Rattle.case_maker.specs.Drawing.{next_state, state_after}
use Rattle.case_maker.specs.GridTexts.{zone_line, node_line, node_lines}
use Rattle.case_maker.proofs.Listed.{text_more, two_more}
use Rattle.case_maker.proofs.grid.put_nodes.Goals as goal

pub loop-node-preserved : goal.loop-node-preserved
loop-node-preserved c =
    let start = c.args.draws.now.state in
    let nodes = c.args.nodes in
    let k = c.loop-node.node in
    let text = string_bytes c.loop-node.text in
    record {
      written = text_more (node_lines start nodes) k (string_bytes c.args.text.now) text _ c.loop-node.invariant.written
          (c.in_ok-put_node.ensures.text
          ∙ (λ i. c.in_ok-put_zone_start.ensures i ++ node_line (c.loop-node.invariant.moved i) nodes k)
          ∙ append_assoc text (zone_line nodes k) (node_line (state_after start (2 * k)) nodes k));
      moved = c.in_ok-put_node.ensures.moved ∙ ap (λ s. next_state (next_state s)) c.loop-node.invariant.moved ∙ sym (two_more start k);
    }

pub returns : goal.returns
returns c =
    let all : c.loop-node.node ≡ c.args.nodes = omega arith in
    record {
      text = c.loop-node.invariant.written ∙ ap (λ n. string_bytes c.args.text.now ++ flat_map (node_lines c.args.draws.now.state c.args.nodes) (range_with_len 0 n)) all;
      moved = c.loop-node.invariant.moved ∙ ap (λ n. state_after c.args.draws.now.state (2 * n)) all;
    }

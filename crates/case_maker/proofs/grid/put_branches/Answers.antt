use Rattle.std.proofs.Common.{◌≡◌, suc, ◌*◌, ◌++◌, ap, ◌∙◌, sym, arith, append_assoc, string_bytes}
use Rattle.std.specs.List.{flat_map, range_with_len}
use Rattle.case_maker.specs.Drawing.{next_state, state_after}
use Rattle.case_maker.specs.GridTexts.{branch_line, branch_lines}
use Rattle.case_maker.proofs.Listed.{text_more, two_more}
use Rattle.case_maker.proofs.grid.put_branches.Goals as goal

pub loop-node-preserved : goal.loop-node-preserved
loop-node-preserved c =
    let start = c.args.draws.now.state in
    let nodes = c.args.nodes in
    let k = c.loop-node.node in
    let text = string_bytes c.loop-node.text in
    let first : c.put_branch.new.draws.state ≡ state_after start (suc (2 * k)) = c.in_ok-put_branch.ensures.moved ∙ ap next_state c.loop-node.invariant.moved in
    record {
      written = text_more (branch_lines start nodes) k (string_bytes c.args.text.now) text _ c.loop-node.invariant.written
          (c.in_ok-put_branch-2.ensures.text
          ∙ (λ i. c.in_ok-put_branch.ensures.text i ++ branch_line (first i) nodes k 7)
          ∙ (λ i. (text ++ branch_line (c.loop-node.invariant.moved i) nodes k 1) ++ branch_line (state_after start (suc (2 * k))) nodes k 7)
          ∙ append_assoc text (branch_line (state_after start (2 * k)) nodes k 1) (branch_line (state_after start (suc (2 * k))) nodes k 7));
      moved = c.in_ok-put_branch-2.ensures.moved ∙ ap next_state first ∙ sym (two_more start k);
    }

pub returns : goal.returns
returns c =
    let all : c.loop-node.node ≡ c.args.nodes = omega arith in
    record {
      text = c.loop-node.invariant.written ∙ ap (λ n. string_bytes c.args.text.now ++ flat_map (branch_lines c.args.draws.now.state c.args.nodes) (range_with_len 0 n)) all;
      moved = c.loop-node.invariant.moved ∙ ap (λ n. state_after c.args.draws.now.state (2 * n)) all;
    }

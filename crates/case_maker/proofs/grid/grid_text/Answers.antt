use Rattle.std.proofs.Common.{◌≡◌, ◌+◌, ◌*◌, ◌++◌, ap, ◌∙◌, arith, append_assoc}
use Rattle.std.specs.Prelude.{codes}
use Rattle.case_maker.specs.Drawing.{state_after}
use Rattle.case_maker.specs.GridTexts.{nodes_text, branches_text}
use Rattle.case_maker.proofs.Listed.{state_after-after}
use Rattle.case_maker.proofs.grid.grid_text.Goals as goal

pub returns : goal.returns
returns c =
    let start = c.args.draws.now.state in
    let nodes = c.args.nodes in
    let middle = state_after start (2 * nodes) in
    let four : 2 * nodes + 2 * nodes ≡ 4 * nodes = omega arith in
    record {
      text =
          c.in_ok-put_branches.ensures.text
          ∙ (λ i. c.in_ok-push_str.ensures.bytes i ++ branches_text (c.in_ok-put_nodes.ensures.moved i) nodes)
          ∙ ap (λ t. t ++ codes "##L\n" ++ branches_text middle nodes) (c.in_ok-put_nodes.ensures.text ∙ ap (λ t. t ++ nodes_text start nodes) c.in_ok-text.ensures.ok)
          ∙ append_assoc (codes "##N\n" ++ nodes_text start nodes) (codes "##L\n") (branches_text middle nodes)
          ∙ append_assoc (codes "##N\n") (nodes_text start nodes) (codes "##L\n" ++ branches_text middle nodes);
      moved =
          c.in_ok-put_branches.ensures.moved
          ∙ ap (λ s. state_after s (2 * nodes)) c.in_ok-put_nodes.ensures.moved
          ∙ state_after-after start (2 * nodes) (2 * nodes)
          ∙ ap (state_after start) four;
    }

use Rattle.std.proofs.Common.{◌≡◌, ◌++◌, map, ap, ◌∙◌, sym, arith, string_bytes}
use Rattle.std.specs.List.{range_with_len}
use Rattle.case_maker.specs.CracTexts.{next_element, element_text}
use Rattle.case_maker.specs.Drawing.{next_state}
use Rattle.case_maker.specs.Layout.{elements_of}
use Rattle.case_maker.specs.Pieces.{parted}
use Rattle.case_maker.proofs.Listed.{item_more, two_more}
use Rattle.case_maker.proofs.crac.put_elements.Goals as goal

pub loop-element-preserved : goal.loop-element-preserved
loop-element-preserved c =
    let start = c.args.draws.now.state in
    let nodes = c.args.nodes in
    let k = c.loop-element.element in
    record {
      written = item_more (next_element start nodes) k (string_bytes c.args.text.now) (string_bytes c.loop-element.text) (string_bytes c.put_separator.new.text) _
          c.loop-element.invariant.written c.in_ok-put_separator.ensures
          (c.in_ok-put_element.ensures.text ∙ ap (λ s. string_bytes c.put_separator.new.text ++ element_text s nodes k) c.loop-element.invariant.moved);
      moved = c.in_ok-put_element.ensures.moved ∙ ap (λ s. next_state (next_state s)) c.loop-element.invariant.moved ∙ sym (two_more start k);
    }

pub returns : goal.returns
returns c =
    let all : c.loop-element.element ≡ elements_of c.args.nodes = omega (arith, c.elements-element-end.ensures) in
    c.loop-element.invariant.written ∙ ap (λ n. string_bytes c.args.text.now ++ parted (map (next_element c.args.draws.now.state c.args.nodes) (range_with_len 0 n))) all

use Rattle.std.proofs.Common.{◌≡◌, ◌+◌, ◌++◌, ap, ◌∙◌, string_bytes}
use Rattle.case_maker.specs.CracTexts.{instant_members, element_text, limit_of, margin_of}
use Rattle.case_maker.specs.Drawing.{next_state, drawn_from}
use Rattle.case_maker.specs.Layout.{element_node}
use Rattle.case_maker.specs.Naming.{branch_id}
use Rattle.case_maker.specs.Pieces.{parted, limits_text}
use Rattle.case_maker.proofs.Documents.{element_begun, element_printed}
use Rattle.case_maker.proofs.Printed.{continued}
use Rattle.case_maker.proofs.crac.put_element.Goals as goal

pub returns-clause-text : goal.returns-clause-text
returns-clause-text c =
    let state = c.args.draws.now.state in
    let nodes = c.args.nodes in
    let element = c.args.element in
    let moved : c.draw-margin.new.self.state ≡ next_state (next_state state) = c.draw-margin.ensures.moved ∙ ap next_state c.draw-limit.ensures.moved in
    let limit : 500 + c.draw-limit.result ≡ limit_of state = ap (λ d. 500 + d) (c.draw-limit.ensures.drawn ∙ ap (λ s. drawn_from s 1500) c.draw-limit.ensures.moved) in
    let margin : c.draw-margin.result ≡ margin_of state = c.draw-margin.ensures.drawn ∙ ap (λ s. drawn_from s 100) moved in
    let branch : string_bytes c.in_ok-branch.branch ≡ branch_id nodes (element_node nodes element) 1 =
    c.in_ok-branch.ensures ∙ ap (λ n. branch_id nodes n 1) c.element_node.ensures.value in
    let instant : string_bytes c.in_ok-instant.instant ≡ parted (instant_members nodes element) = c.in_ok-instant.ensures in
    continued c.put_limits.result (string_bytes c.args.text.now) (string_bytes c.write.new.self) (string_bytes c.put_limits.new.text)
    (element_begun element (string_bytes c.in_ok-branch.branch) (string_bytes c.in_ok-instant.instant)) (limits_text c.draw-margin.result (500 + c.draw-limit.result)) (element_text state nodes element)
    c.put_limits.ensures c.in_ok-write.ensures.bytes
    ((λ i. element_begun element (branch i) (instant i) ++ limits_text (margin i) (limit i)) ∙ element_printed state nodes element)

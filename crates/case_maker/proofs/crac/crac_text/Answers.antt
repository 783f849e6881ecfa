use Rattle.std.proofs.Common.{◌++◌, ap, ◌∙◌}
use Rattle.std.specs.Prelude.{codes}
use Rattle.case_maker.specs.Pieces.{contingency_texts, element_texts}
use Rattle.case_maker.proofs.Documents.{instants, crac_joined}
use Rattle.case_maker.proofs.crac.crac_text.Goals as goal

pub returns : goal.returns
returns c =
    let contingencies = contingency_texts c.args.nodes in
    let elements = element_texts c.args.draws.now.state c.args.nodes in
    c.in_ok-push_str-4.ensures.bytes
    ∙ ap (λ t. t ++ codes "]}") c.in_ok-put_elements.ensures
    ∙ ap (λ t. t ++ elements ++ codes "]}") c.in_ok-push_str-3.ensures.bytes
    ∙ ap (λ t. t ++ codes "],\"flowCnecs\":[" ++ elements ++ codes "]}") c.in_ok-put_contingencies.ensures
    ∙ ap (λ t. t ++ contingencies ++ codes "],\"flowCnecs\":[" ++ elements ++ codes "]}")
    (c.in_ok-push_str-2.ensures.bytes ∙ ap (λ t. t ++ codes "],\"contingencies\":[") (c.in_ok-push_str.ensures.bytes ∙ ap (λ t. t ++ instants) c.in_ok-text.ensures.ok))
    ∙ crac_joined contingencies elements

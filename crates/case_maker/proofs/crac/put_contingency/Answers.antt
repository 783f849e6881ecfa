use Rattle.std.proofs.Common.{◌≡◌, ◌++◌, ap, ◌∙◌, string_bytes}
use Rattle.std.specs.Prelude.{codes}
use Rattle.std.specs.Fmt.{decimal}
use Rattle.case_maker.specs.CracTexts.{contingency_text}
use Rattle.case_maker.specs.Layout.{outage_node}
use Rattle.case_maker.specs.Naming.{branch_id}
use Rattle.case_maker.proofs.Documents.{contingency_printed}
use Rattle.case_maker.proofs.Printed.{appended}
use Rattle.case_maker.proofs.crac.put_contingency.Goals as goal

pub returns : goal.returns
returns c =
    let outage = decimal c.args.outage in
    let branch : string_bytes c.in_ok-branch.branch ≡ branch_id c.args.nodes (outage_node c.args.nodes c.args.outage) 7 =
    c.in_ok-branch.ensures ∙ ap (λ n. branch_id c.args.nodes n 7) c.outage_node.ensures.value in
    appended c.write.result (string_bytes c.args.text.now) (string_bytes c.write.new.self) _ (contingency_text c.args.nodes c.args.outage) c.write.ensures.bytes
    (ap (λ b. codes "{\"id\":\"o" ++ (outage ++ (codes "\",\"networkElementsIds\":[\"" ++ (b ++ codes "\"]}")))) branch
    ∙ contingency_printed outage (branch_id c.args.nodes (outage_node c.args.nodes c.args.outage) 7))

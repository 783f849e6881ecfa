use Rattle.std.proofs.Common.{◌≡◌, ◌+◌, ◌/◌, ◌%◌, ◌∷◌, [], ◌++◌, ap, ◌∙◌, string_bytes}
use Rattle.std.specs.Fmt.{decimal}
use Rattle.case_maker.specs.Drawing.{drawn_from}
use Rattle.case_maker.specs.GridTexts.{reactance_of, branch_line}
use Rattle.case_maker.specs.Naming.{filled, branch_id}
use Rattle.case_maker.proofs.Documents.{branch_printed}
use Rattle.case_maker.proofs.Printed.{appended, zeros_in_front, blanks_in_front}
use Rattle.case_maker.proofs.grid.put_branch.Goals as goal

pub returns-clause-text : goal.returns-clause-text
returns-clause-text c =
    let state = c.args.draws.now.state in
    let nodes = c.args.nodes in
    let node = c.args.node in
    let step = c.args.step in
    let reactance : 100 + c.draw-hundredths.result ≡ reactance_of state =
    ap (λ d. 100 + d) (c.draw-hundredths.ensures.drawn ∙ ap (λ s. drawn_from s 4000) c.draw-hundredths.ensures.moved) in
    let id : string_bytes c.in_ok-id.id ≡ branch_id nodes node step = c.in_ok-id.ensures in
    appended c.writeln.result (string_bytes c.args.text.now) (string_bytes c.writeln.new.self) _ (branch_line state nodes node step)
    (simp (c.laid_out.ensures, c.laid_out-2.ensures, zeros_in_front, blanks_in_front) at c.writeln.ensures.bytes)
    ((λ i. id i ++ 32 ∷ 48 ∷ (filled 32 11 (decimal (reactance i / 100)) ++ 46 ∷ (filled 48 2 (decimal (reactance i % 100)) ++ 10 ∷ [])))
    ∙ branch_printed (branch_id nodes node step) (reactance_of state))

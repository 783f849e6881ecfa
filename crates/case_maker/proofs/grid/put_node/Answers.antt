use Rattle.std.proofs.Common.{◌≡◌, ◌+◌, negsuc, ◌∷◌, [], ◌++◌, ap, ◌∙◌, string_bytes, rules, FitsSigned, to_z, of_z, to_z-of_z}
use mir.Syntax.{w64}
use Rattle.std.specs.Prelude.{codes}
use Rattle.std.specs.Fmt.{decimal, signed_decimal}
use Rattle.case_maker.specs.Drawing.{next_state, drawn_from}
use Rattle.case_maker.specs.GridTexts.{load_of, generation_of, kind_of, node_line}
use Rattle.case_maker.specs.Naming.{filled, node_code}
use Rattle.case_maker.proofs.Printed.{appended, blanks_in_front, signed_in_columns}
use Rattle.case_maker.proofs.grid.put_node.Goals as goal

pub returns-clause-text : goal.returns-clause-text
returns-clause-text c =
    let state = c.args.draws.now.state in
    let nodes = c.args.nodes in
    let node = c.args.node in
    let moved : c.draw-2.new.self.state ≡ next_state (next_state state) = c.draw-2.ensures.moved ∙ ap next_state c.draw.ensures.moved in
    let load : 1 + c.draw.result ≡ load_of state = ap (λ d. 1 + d) (c.draw.ensures.drawn ∙ ap (λ s. drawn_from s 100) c.draw.ensures.moved) in
    let fits : FitsSigned w64 c.generation-generation.result = search rules in
    let generation : to_z w64 (of_z w64 c.generation-generation.result) ≡ generation_of state = to_z-of_z fits ∙
    c.generation-generation.ensures ∙ ap (λ d. negsuc d) (c.draw-2.ensures.drawn ∙ ap (λ s. drawn_from s 120) moved) in
    let kind : c.kind-kind.result ≡ kind_of node = c.kind-kind.ensures in
    let code : string_bytes c.in_ok-code.code ≡ node_code nodes node = c.in_ok-code.ensures in
    appended c.writeln.result (string_bytes c.args.text.now) (string_bytes c.writeln.new.self) _ (node_line state nodes node)
    (simp (c.laid_out.ensures, c.laid_out-2.ensures, signed_in_columns, blanks_in_front) at c.writeln.ensures.bytes)
    (λ i. code i ++ (codes "              0 " ++ (decimal (kind i) ++ (filled 32 15 (decimal (load i)) ++ (filled 32 16 (signed_decimal (generation i)) ++ 10 ∷ [])))))

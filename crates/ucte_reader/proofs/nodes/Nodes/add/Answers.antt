use Rattle.std.proofs.Common.{◌≡◌, ℕ, List, true, false, sym, ap, subst, ◌∙◌, rules}
use Rattle.std.specs.Prelude.{string_bytes}
use Rattle.std.proofs.lemmas.Bool.{not-true}
use Rattle.std.proofs.lemmas.Result.{err_from_is_err_and}
use Rattle.fb_types.specs.declared.grid.Node.{Node}
use Rattle.name_tables.specs.Names.{is_among}
use Rattle.ucte_reader.specs.Codes.{first_code, is_code, code_text}
use Rattle.ucte_reader.specs.Nodes.{node_of, node_codes, node_fault}
use Rattle.ucte_reader.specs.Steps.{Judges, node_field_fault, node_limit_fault, IsNodeOf}
use Rattle.ucte_reader.proofs.CheckLaws.{judged_front, judged_back}
use Rattle.ucte_reader.proofs.NodeLaws.{node_fault-behind, codes_with_name, node_of-code}
use Rattle.ucte_reader.proofs.nodes.Nodes.add.Goals as goal

pub returns-in_err-node-clause-fault : goal.returns-in_err-node-clause-fault
returns-in_err-node-clause-fault c =
    let line = c.args.line.now in
    let earlier = c.args.self.now.nodes.items in
    let good : is_code (first_code line) ≡ true = ap is_code (sym c.field-code.ensures) ∙ sym c.is_code.ensures ∙ c.if-not-is_code.false in
    let copy : string_bytes c.in_ok-clone.field-0 ≡ string_bytes c.in_ok-code.code = search rules in
    let name : string_bytes c.in_ok-clone.field-0 ≡ code_text (first_code line) = copy ∙ c.in_ok-code.ensures ∙ ap code_text c.field-code.ensures in
    let fresh = not-true _ (sym c.in_ok-add.ensures.added ∙ c.if-not-branch.false) in
    let new : is_among (node_codes earlier) (code_text (first_code line)) ≡ false = ap (λ (xs : List (List ℕ)). is_among xs (code_text (first_code line))) (sym c.requires.codes) ∙ ap (is_among c.args.self.now.codes) (sym name) ∙ fresh in
    let whole = node_fault-behind earlier c.args.zone line good new in
    let p = err_from_is_err_and c.from_residual-in_err-node.result c.from_residual-in_err-node.ensures.1 in
    rw (p.1, p.2) (judged_front (Unit {0}) c.in_err-node.field-0.0 (node_fault earlier c.args.zone line) (node_field_fault line) (node_limit_fault earlier (node_of c.args.zone line)) (IsNodeOf c.args.zone line) whole c.in_err-node.ensures)

pub push-requires-clause-named : goal.push-requires-clause-named
push-requires-clause-named c =
    let line = c.args.line.now in
    let copy : string_bytes c.in_ok-clone.field-0 ≡ string_bytes c.in_ok-code.code = search rules in
    let name : string_bytes c.in_ok-clone.field-0 ≡ code_text (first_code line) = copy ∙ c.in_ok-code.ensures ∙ ap code_text c.field-code.ensures in
    let fresh = not-true _ (sym c.in_ok-add.ensures.added ∙ c.if-not-branch.false) in
    let code : c.in_ok-node.node.code ≡ string_bytes c.in_ok-clone.field-0 = ap (λ (n : Node). n.code) c.in_ok-node.ensures.1.same ∙ node_of-code c.args.zone line ∙ sym name in
    record {
      codes = codes_with_name c.args.self.now.codes c.add.new.self c.args.self.now.nodes.items _ c.in_ok-node.node.code c.requires.codes fresh c.in_ok-add.ensures.names code;
      total = c.requires.total;
      small = c.requires.small;
      few = c.requires.few;
    }

pub returns-clause-fault : goal.returns-clause-fault
returns-clause-fault c =
    let line = c.args.line.now in
    let earlier = c.args.self.now.nodes.items in
    let good : is_code (first_code line) ≡ true = ap is_code (sym c.field-code.ensures) ∙ sym c.is_code.ensures ∙ c.if-not-is_code.false in
    let copy : string_bytes c.in_ok-clone.field-0 ≡ string_bytes c.in_ok-code.code = search rules in
    let name : string_bytes c.in_ok-clone.field-0 ≡ code_text (first_code line) = copy ∙ c.in_ok-code.ensures ∙ ap code_text c.field-code.ensures in
    let fresh = not-true _ (sym c.in_ok-add.ensures.added ∙ c.if-not-branch.false) in
    let new : is_among (node_codes earlier) (code_text (first_code line)) ≡ false = ap (λ (xs : List (List ℕ)). is_among xs (code_text (first_code line))) (sym c.requires.codes) ∙ ap (is_among c.args.self.now.codes) (sym name) ∙ fresh in
    let whole = node_fault-behind earlier c.args.zone line good new in
    judged_back c.push.result (node_fault earlier c.args.zone line) (node_field_fault line) (node_limit_fault earlier (node_of c.args.zone line)) whole c.in_ok-node.ensures.0
    (subst (λ (n : Node). Judges c.push.result (node_limit_fault earlier n)) c.in_ok-node.ensures.1.same c.push.ensures.fault)

use Rattle.std.proofs.Common.{◌≡◌, ℕ, List, Some, false, sym, ap, ◌∙◌, rules}
use Rattle.std.specs.Prelude.{string_bytes}
use Rattle.std.proofs.lemmas.Bool.{not-true}
use Rattle.std.proofs.lemmas.Result.{err_from_is_err_and}
use Rattle.fb_types.specs.declared.grid.Branch.{Branch}
use Rattle.name_tables.specs.Names.{is_among}
use Rattle.ucte_reader.specs.Codes.{id_text}
use Rattle.ucte_reader.specs.Branches.{status_in, status_at, branch_of}
use Rattle.ucte_reader.specs.Steps.{electrical_fault, joined_fault, branch_limit_fault, branch_ids, place_in, shift_in}
use Rattle.ucte_reader.proofs.CheckLaws.{judged_front, judged_back}
use Rattle.ucte_reader.proofs.BranchLaws.{joined_fault-behind, ids_with_name, branch_of-id}
use Rattle.ucte_reader.proofs.branches.Branches.add_joined.Goals as goal

pub returns-in_err-branch-clause-fault : goal.returns-in_err-branch-clause-fault
returns-in_err-branch-clause-fault c =
    let line = c.args.line.now in
    let form = c.args.form in
    let earlier = branch_ids c.args.self.now.branches.items in
    let status : status_in form line ≡ Some c.in-Some.status = ap (status_at form) (sym c.field.ensures) ∙ sym c.status_of.ensures ∙ c.in-Some.is in
    let copy : string_bytes c.in_ok-clone.field-0 ≡ string_bytes c.in_ok-id.id = search rules in
    let name : string_bytes c.in_ok-clone.field-0 ≡ id_text line = copy ∙ c.in_ok-id.ensures in
    let fresh = not-true _ (sym c.in_ok-add.ensures.added ∙ c.if-not-branch.false) in
    let new : is_among earlier (id_text line) ≡ false = ap (λ (xs : List (List ℕ)). is_among xs (id_text line)) (sym c.requires.kept.ids) ∙ ap (is_among c.args.self.now.ids) (sym name) ∙ fresh in
    let whole = joined_fault-behind earlier form line c.in-Some.status status new in
    let p = err_from_is_err_and c.from_residual-in_err-branch.result c.from_residual-in_err-branch.ensures.1 in
    rw (p.1, p.2) (judged_front (Unit {0}) c.in_err-branch.field-0.0 (joined_fault earlier form line) (electrical_fault form c.in-Some.status line) (branch_limit_fault earlier) (λ (b : Branch). b ≡ branch_of (place_in c.args.known.now) (shift_in c.args.known.now) form line) whole c.in_err-branch.ensures)

pub push-requires : goal.push-requires
push-requires c =
    let line = c.args.line.now in
    let copy : string_bytes c.in_ok-clone.field-0 ≡ string_bytes c.in_ok-id.id = search rules in
    let name : string_bytes c.in_ok-clone.field-0 ≡ id_text line = copy ∙ c.in_ok-id.ensures in
    let fresh = not-true _ (sym c.in_ok-add.ensures.added ∙ c.if-not-branch.false) in
    let id : c.in_ok-branch.branch.id ≡ string_bytes c.in_ok-clone.field-0 = ap (λ (b : Branch). b.id) c.in_ok-branch.ensures.1 ∙ branch_of-id (place_in c.args.known.now) (shift_in c.args.known.now) c.args.form line ∙ sym name in
    record {
      ids = ids_with_name c.args.self.now.ids c.add.new.self c.args.self.now.branches.items _ c.in_ok-branch.branch.id c.requires.kept.ids fresh c.in_ok-add.ensures.names id;
      few = c.requires.kept.few;
    }

pub returns-clause-fault : goal.returns-clause-fault
returns-clause-fault c =
    let line = c.args.line.now in
    let form = c.args.form in
    let earlier = branch_ids c.args.self.now.branches.items in
    let status : status_in form line ≡ Some c.in-Some.status = ap (status_at form) (sym c.field.ensures) ∙ sym c.status_of.ensures ∙ c.in-Some.is in
    let copy : string_bytes c.in_ok-clone.field-0 ≡ string_bytes c.in_ok-id.id = search rules in
    let name : string_bytes c.in_ok-clone.field-0 ≡ id_text line = copy ∙ c.in_ok-id.ensures in
    let fresh = not-true _ (sym c.in_ok-add.ensures.added ∙ c.if-not-branch.false) in
    let new : is_among earlier (id_text line) ≡ false = ap (λ (xs : List (List ℕ)). is_among xs (id_text line)) (sym c.requires.kept.ids) ∙ ap (is_among c.args.self.now.ids) (sym name) ∙ fresh in
    let whole = joined_fault-behind earlier form line c.in-Some.status status new in
    judged_back c.push.result (joined_fault earlier form line) (electrical_fault form c.in-Some.status line) (branch_limit_fault earlier) whole c.in_ok-branch.ensures.0 c.push.ensures.fault

use Rattle.std.proofs.Common.{◌≡◌, ◌+◌, ◌%◌, ◌∷◌, [], ◌++◌, string_bytes}
use Rattle.case_maker.specs.Naming.{node_code, branch_id}
use Rattle.case_maker.proofs.Printed.{spelled}
use Rattle.case_maker.proofs.names.branch_id.Goals as goal

pub returns : goal.returns
unfolding branch_id
returns c =
    let from : string_bytes c.in_ok-from.from ≡ node_code c.args.nodes c.args.node = c.in_ok-from.ensures in
    let to : string_bytes c.in_ok-to.to ≡ node_code c.args.nodes ((c.args.node + c.args.step) % c.args.nodes) = c.in_ok-to.ensures in
    spelled c.format.result _ (branch_id c.args.nodes c.args.node c.args.step) c.format.ensures.ok (λ i. from i ++ 32 ∷ (to i ++ 32 ∷ 49 ∷ []))

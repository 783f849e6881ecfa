use Rattle.std.proofs.Common.{ℤ, neg_ℤ, ◌≤ℤ◌, refl, sym, ap, subst, ◌∙◌, FitsSigned, w64, rules}
use Rattle.std.specs.Int.{int_max, int_min}
use Rattle.std.proofs.lemmas.Int.{to_z-of_z}
use Rattle.security.specs.Flows.{NumberedBranch}
use Rattle.branch_spans.specs.FlowSpans.{IsBranchOf}
use Rattle.zonal_factors.specs.FactorSpans.{trillion}
use Rattle.zonal_factors.proofs.Held.{some_branch, clipped_ordered, quotient_is}
use Rattle.zonal_factors.proofs.block_span.Goals as goal

pub clipped-requires : goal.clipped-requires
clipped-requires c =
    let found = some_branch c.args.grid.now.branches c.args.branch c.requires.branch in
    let named : NumberedBranch = record { number = c.args.branch; branch = found.0 } in
    let stands : IsBranchOf c.args.grid.now named = record { stands = found.1 } in
    let fits : FitsSigned w64 c.args.block.now.total = search rules in
    let quotient = quotient_is c.flow_span-flow.result _ c.quotient.result c.args.block.now.total _ (c.flow_span-flow.ensures.value named refl stands) (to_z-of_z w64 c.args.block.now.total fits) c.quotient.ensures in
    subst (λ (q : ℤ × ℤ). int_max q.0 (neg_ℤ trillion) ≤ℤ int_min q.1 trillion) (sym quotient)
    (clipped_ordered c.args.grid.now c.args.state.now named c.sound.ensures c.requires.of_grid stands c.requires.carries c.args.barrier.now c.args.block.now c.args.angles.now c.requires.barrier c.requires.block c.requires.encloses)

pub returns-clause-value : goal.returns-clause-value
returns-clause-value c = λ named same stands.
    let fits : FitsSigned w64 c.args.block.now.total = search rules in
    let quotient = quotient_is c.flow_span-flow.result _ c.quotient.result c.args.block.now.total _ (c.flow_span-flow.ensures.value named same stands) (to_z-of_z w64 c.args.block.now.total fits) c.quotient.ensures in
    c.clipped.ensures.value ∙ ap (λ (q : ℤ × ℤ). (int_max q.0 (neg_ℤ trillion), int_min q.1 trillion)) quotient

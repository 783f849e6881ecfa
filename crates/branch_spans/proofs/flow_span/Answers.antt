use Rattle.std.proofs.Common.{◌≡◌, ℤ, ◌*ℤ◌, ◌^◌, true, refl, sym, ap, ap₂, subst, ◌∙◌, FitsSigned, w64, rules}
use Rattle.std.proofs.lemmas.Int.{to_z-of_z}
use Rattle.whole_laws.specs.Sums.{IsWithin}
use Rattle.fb_types.specs.declared.grid.Branch.{Branch}
use Rattle.grid_state.specs.GridState.{carries_at}
use Rattle.security.specs.Flows.{NumberedBranch}
use Rattle.branch_spans.specs.FlowSpans.{flow_span_of, HoldsFlow}
use Rattle.branch_spans.proofs.Branches.{in_range}
use Rattle.branch_spans.proofs.Sizes.{flow_within}
use Rattle.branch_spans.proofs.Held.{stands_in, same_branch, flow_held, fits_within, flow_is}
use Rattle.branch_spans.proofs.flow_span.Goals as goal

pub scaled-requires-clause-positive : goal.scaled-requires-clause-positive
scaled-requires-clause-positive c =
    let br = c.index-as_slice-branch.result in
    let number : NumberedBranch = record { number = c.args.branch; branch = br } in
    let stands = stands_in c.args.grid.now c.args.branch br c.as_slice.result.now c.requires.branch c.index-as_slice-branch.is c.as_slice.ensures.items in
    let fits : FitsSigned w64 br.b = search rules in
    rw (to_z-of_z w64 br.b fits) (in_range c.args.grid.now c.args.state.now number c.requires.of_grid stands c.requires.carries).some

pub scaled-requires-clause-low_fits : goal.scaled-requires-clause-low_fits
scaled-requires-clause-low_fits c =
    let br = c.index-as_slice-branch.result in
    let number : NumberedBranch = record { number = c.args.branch; branch = br } in
    let stands = stands_in c.args.grid.now c.args.branch br c.as_slice.result.now c.requires.branch c.index-as_slice-branch.is c.as_slice.ensures.items in
    let fits : FitsSigned w64 br.b = search rules in
    let within = flow_within c.args.grid.now c.args.state.now number c.sound.ensures c.requires.of_grid stands c.requires.carries c.requires.range.room c.args.barrier.now c.args.angles.now c.requires.barrier c.requires.column in
    let difference = rw (c.class_of.ensures, c.class_of-2.ensures) at c.angle_difference-difference.ensures in
    fits_within _ (subst (IsWithin (2 ^ 123)) (sym (ap₂ ◌*ℤ◌ (to_z-of_z w64 br.b fits) (ap (λ (d : ℤ × ℤ). d.0) difference))) within.0)

pub scaled-requires-clause-high_fits : goal.scaled-requires-clause-high_fits
scaled-requires-clause-high_fits c =
    let br = c.index-as_slice-branch.result in
    let number : NumberedBranch = record { number = c.args.branch; branch = br } in
    let stands = stands_in c.args.grid.now c.args.branch br c.as_slice.result.now c.requires.branch c.index-as_slice-branch.is c.as_slice.ensures.items in
    let fits : FitsSigned w64 br.b = search rules in
    let within = flow_within c.args.grid.now c.args.state.now number c.sound.ensures c.requires.of_grid stands c.requires.carries c.requires.range.room c.args.barrier.now c.args.angles.now c.requires.barrier c.requires.column in
    let difference = rw (c.class_of.ensures, c.class_of-2.ensures) at c.angle_difference-difference.ensures in
    fits_within _ (subst (IsWithin (2 ^ 123)) (sym (ap₂ ◌*ℤ◌ (to_z-of_z w64 br.b fits) (ap (λ (d : ℤ × ℤ). d.1) difference))) within.1)

pub returns-clause-value : goal.returns-clause-value
returns-clause-value c = λ named same stands'.
    let br = c.index-as_slice-branch.result in
    let number : NumberedBranch = record { number = c.args.branch; branch = br } in
    let stands = stands_in c.args.grid.now c.args.branch br c.as_slice.result.now c.requires.branch c.index-as_slice-branch.is c.as_slice.ensures.items in
    let fits : FitsSigned w64 br.b = search rules in
    let difference = rw (c.class_of.ensures, c.class_of-2.ensures) at c.angle_difference-difference.ensures in
    flow_is c.args.state.now br c.args.barrier.now c.args.angles.now _ c.angle_difference-difference.result c.scaled.result (to_z-of_z w64 br.b fits) difference c.scaled.ensures
    ∙ ap (λ (b : Branch). flow_span_of c.args.state.now b c.args.barrier.now c.args.angles.now) (same_branch c.args.grid.now number named (sym same) stands stands')

pub returns-clause-within : goal.returns-clause-within
returns-clause-within c =
    let br = c.index-as_slice-branch.result in
    let number : NumberedBranch = record { number = c.args.branch; branch = br } in
    let stands = stands_in c.args.grid.now c.args.branch br c.as_slice.result.now c.requires.branch c.index-as_slice-branch.is c.as_slice.ensures.items in
    let within = flow_within c.args.grid.now c.args.state.now number c.sound.ensures c.requires.of_grid stands c.requires.carries c.requires.range.room c.args.barrier.now c.args.angles.now c.requires.barrier c.requires.column in
    let value = returns-clause-value c number refl stands in
    record { low = subst (IsWithin (2 ^ 123)) (sym (ap (λ (d : ℤ × ℤ). d.0) value)) within.0; high = subst (IsWithin (2 ^ 123)) (sym (ap (λ (d : ℤ × ℤ). d.1) value)) within.1 }

pub returns-clause-holds : goal.returns-clause-holds
returns-clause-holds c = λ named same stands.
    let carries = subst (λ k. carries_at c.args.state.now k ≡ true) (sym same) c.requires.carries in
    subst (HoldsFlow c.args.state.now named c.args.angles.now) (sym (returns-clause-value c named same stands))
    (flow_held c.args.grid.now c.args.state.now named c.sound.ensures c.requires.of_grid stands carries c.args.barrier.now c.args.angles.now c.requires.barrier)

use Rattle.std.proofs.Common.{ℤ, pos, neg_ℤ, ◌*ℤ◌, ◌≤ℤ◌, refl, sym, ap, ap₂, subst, ◌∙◌, FitsSigned, w64, arith, rules}
use mir.Syntax.{w128}
use Rattle.std.specs.Int.{int_max, int_min}
use Rattle.std.proofs.lemmas.Int.{to_z-of_z}
use Rattle.std.proofs.lemmas.Bool.{cond-true}
use Rattle.fractions.specs.Spans.{LiesAt}
use Rattle.fb_types.specs.declared.grid.Branch.{Branch}
use Rattle.grid_state.specs.GridState.{carries_at}
use Rattle.grid_state.specs.StateLaws.{length-carries}
use Rattle.security.specs.Flows.{NumberedBranch, reference_flow_of}
use Rattle.branch_spans.specs.FlowSpans.{flow_span_of}
use Rattle.branch_spans.proofs.Branches.{in_range}
use Rattle.branch_spans.proofs.Held.{stands_in, same_branch}
use Rattle.reference_flows.specs.WithoutExchanges.{trillion}
use Rattle.reference_flows.specs.ReferenceSpans.{greatest_flow, shift_part, carried_span_of}
use Rattle.reference_flows.proofs.ReferenceHeld.{reference_held, carried_ordered, still_held, tenths_are}
use Rattle.reference_flows.proofs.reference.reference_span.Goals as goal

pub carries-requires : goal.carries-requires
carries-requires c = let e = length-carries c.args.grid.now c.requires.of_grid.slack_node c.requires.of_grid.outage c.args.state.now c.requires.of_grid.of_grid in omega (arith, e)

pub shift-shift-requires-clause-some : goal.shift-shift-requires-clause-some
shift-shift-requires-clause-some c =
    let br = c.index-as_slice-branch.result in
    let number : NumberedBranch = record { number = c.args.branch; branch = br } in
    let stands = stands_in c.args.grid.now c.args.branch br c.as_slice.result.now c.requires.branch c.index-as_slice-branch.is c.as_slice.ensures.items in
    let fits : FitsSigned w64 br.b = search rules in
    rw (to_z-of_z w64 br.b fits) (in_range c.args.grid.now c.args.state.now number c.requires.of_grid stands (sym c.if-not-carries.ensures)).some

pub shift-shift-requires-clause-small : goal.shift-shift-requires-clause-small
shift-shift-requires-clause-small c =
    let br = c.index-as_slice-branch.result in
    let number : NumberedBranch = record { number = c.args.branch; branch = br } in
    let stands = stands_in c.args.grid.now c.args.branch br c.as_slice.result.now c.requires.branch c.index-as_slice-branch.is c.as_slice.ensures.items in
    let fits : FitsSigned w64 br.b = search rules in
    rw (to_z-of_z w64 br.b fits) (in_range c.args.grid.now c.args.state.now number c.requires.of_grid stands (sym c.if-not-carries.ensures)).small

pub clipped-requires : goal.clipped-requires
clipped-requires c =
    let br = c.index-as_slice-branch.result in
    let number : NumberedBranch = record { number = c.args.branch; branch = br } in
    let stands = stands_in c.args.grid.now c.args.branch br c.as_slice.result.now c.requires.branch c.index-as_slice-branch.is c.as_slice.ensures.items in
    let shift = c.shift-shift.ensures.value ∙ ap₂ (λ x y. (x *ℤ y) *ℤ pos 10000) (to_z-of_z w64 br.b (search rules)) (to_z-of_z w64 br.phi (search rules)) in
    let tenths = tenths_are c.flow_span-flow.result (flow_span_of c.args.state.now br c.args.barrier.now c.args.angles.now) c.shifted.result c.div_pos.result _ (shift_part br) (c.flow_span-flow.ensures.value number refl stands) (to_z-of_z w128 c.shift-shift.result (search rules) ∙ shift) c.shifted.ensures c.div_pos.ensures.low c.div_pos.ensures.high in
    subst (λ (q : ℤ × ℤ). int_max q.0 (neg_ℤ greatest_flow) ≤ℤ int_min q.1 greatest_flow) (sym tenths)
    (carried_ordered c.args.grid.now c.args.state.now number c.sound.ensures c.requires.of_grid c.requires.range stands (sym c.if-not-carries.ensures) c.args.barrier.now c.args.angles.now c.requires.barrier c.requires.encloses)

pub returns-then-not-carries-clause-holds : goal.returns-then-not-carries-clause-holds
returns-then-not-carries-clause-holds c = λ named same stands e solved.
    let still = ap (carries_at c.args.state.now) same ∙ sym c.if-not-carries.ensures in
    subst (λ (s : ℤ × ℤ). LiesAt trillion s (reference_flow_of c.args.state.now named e)) (sym c.exactly.ensures) (still_held c.args.state.now named e still)

pub returns-clause-value : goal.returns-clause-value
returns-clause-value c = λ named same stands'.
    let s = c.args.state.now in
    let v = c.args.barrier.now in
    let angles = c.args.angles.now in
    let br = c.index-as_slice-branch.result in
    let number : NumberedBranch = record { number = c.args.branch; branch = br } in
    let stands = stands_in c.args.grid.now c.args.branch br c.as_slice.result.now c.requires.branch c.index-as_slice-branch.is c.as_slice.ensures.items in
    let shift = c.shift-shift.ensures.value ∙ ap₂ (λ x y. (x *ℤ y) *ℤ pos 10000) (to_z-of_z w64 br.b (search rules)) (to_z-of_z w64 br.phi (search rules)) in
    let tenths = tenths_are c.flow_span-flow.result (flow_span_of s br v angles) c.shifted.result c.div_pos.result _ (shift_part br) (c.flow_span-flow.ensures.value number refl stands) (to_z-of_z w128 c.shift-shift.result (search rules) ∙ shift) c.shifted.ensures c.div_pos.ensures.low c.div_pos.ensures.high in
    let carries = ap (carries_at s) same ∙ sym c.if-not-carries.ensures in
    c.clipped.ensures.value ∙ ap (λ (q : ℤ × ℤ). (int_max q.0 (neg_ℤ greatest_flow), int_min q.1 greatest_flow)) tenths
    ∙ ap (λ (b : Branch). carried_span_of s (record { number = c.args.branch; branch = b }) v angles) (same_branch c.args.grid.now number named (sym same) stands stands')
    ∙ sym (cond-true {A = ℤ × ℤ} (carries_at s named.number) (carried_span_of s named v angles) (pos 0, pos 0) carries)

pub returns-clause-holds : goal.returns-clause-holds
returns-clause-holds c = λ named same stands e solved.
    let s = c.args.state.now in
    let carries = ap (carries_at s) same ∙ sym c.if-not-carries.ensures in
    let value = returns-clause-value c named same stands ∙ cond-true {A = ℤ × ℤ} (carries_at s named.number) (carried_span_of s named c.args.barrier.now c.args.angles.now) (pos 0, pos 0) carries in
    subst (λ (x : ℤ × ℤ). LiesAt trillion x (reference_flow_of s named e)) (sym value)
    (reference_held c.args.grid.now s named c.sound.ensures c.requires.of_grid c.requires.range stands carries c.args.barrier.now c.args.angles.now c.requires.barrier c.requires.encloses e solved)

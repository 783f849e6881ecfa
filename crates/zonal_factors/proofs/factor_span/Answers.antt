use Rattle.std.proofs.Common.{ℤ, pos, length, sym, ap, subst, ◌∙◌, arith, rules}
use Rattle.std.specs.List.{zip}
use Rattle.std.proofs.lemmas.Bool.{cond-true}
use Rattle.fractions.specs.Spans.{LiesAt}
use Rattle.grid_state.specs.GridState.{carries_at}
use Rattle.grid_state.specs.StateLaws.{length-carries}
use Rattle.security.specs.Flows.{factor_of}
use Rattle.zonal_factors.specs.FactorSpans.{trillion, zone_span_of, angles_from}
use Rattle.zonal_factors.proofs.Zones.{own_angles, zero_lies, no_blocks, no_flow, zone_held, some_blocks, none_blocks}
use Rattle.zonal_factors.proofs.factor_span.Goals as goal

pub carries-requires : goal.carries-requires
carries-requires c = let e = length-carries c.args.grid.now c.requires.of_grid.slack_node c.requires.of_grid.outage c.args.state.now c.requires.of_grid.of_grid in omega (arith, e)

pub slice_bounds-own-end : goal.slice_bounds-own-end
slice_bounds-own-end c =
    let blocks = ap length c.as_slice-blocks.ensures.items in
    let list = ap length c.as_slice.ensures.items in
    let some = some_blocks (length c.as_slice-blocks.result.now) (length c.args.column.now.blocks) blocks c.if-is_empty.ensures in
    let le = own_angles c.args.state.now c.args.column.now c.args.angles.now c.args.first c.requires.encloses some in
    omega (arith, le, blocks, list)

pub returns-then-is_empty-clause-holds : goal.returns-then-is_empty-clause-holds
returns-then-is_empty-clause-holds c = λ named same stands es solved.
    let none = none_blocks (length c.as_slice-blocks.result.now) (length c.args.column.now.blocks) (ap length c.as_slice-blocks.ensures.items) c.if-is_empty.ensures in
    subst (λ (s : ℤ × ℤ). LiesAt trillion s (factor_of c.args.state.now named c.args.column.now es)) (sym c.exactly.ensures)
    (zero_lies (factor_of c.args.state.now named c.args.column.now es) (no_blocks c.args.state.now named c.args.column.now es none))

pub returns-then-not-carries-clause-holds : goal.returns-then-not-carries-clause-holds
returns-then-not-carries-clause-holds c = λ named same stands es solved.
    let still = ap (carries_at c.args.state.now) same ∙ sym c.if-not-carries.ensures in
    subst (λ (s : ℤ × ℤ). LiesAt trillion s (factor_of c.args.state.now named c.args.column.now es)) (sym c.exactly-then-not-carries.ensures)
    (zero_lies (factor_of c.args.state.now named c.args.column.now es) (no_flow c.args.state.now named c.args.column.now es still))

pub returns-clause-value : goal.returns-clause-value
returns-clause-value c = search rules

pub returns-clause-holds : goal.returns-clause-holds
returns-clause-holds c = λ named same stands es solved.
    let s = c.args.state.now in
    let column = c.args.column.now in
    let own = angles_from c.args.angles.now c.args.first (length column.blocks) in
    let carries = ap (carries_at s) same ∙ sym c.if-not-carries.ensures in
    let value = returns-clause-value c named same stands ∙ cond-true {A = ℤ × ℤ} (carries_at s named.number) (zone_span_of s named c.args.barrier.now (zip column.blocks own)) (pos 0, pos 0) carries in
    subst (λ (x : ℤ × ℤ). LiesAt trillion x (factor_of s named column es)) (sym value)
    (zone_held c.args.grid.now s named c.sound.ensures c.requires.of_grid stands carries c.args.barrier.now c.requires.barrier column own c.requires.key.blocks c.requires.encloses es solved)

use Rattle.std.proofs.Common.{◌≡◌, ◌<◌, ℕ, List, [], length, map, get_or, All, sym, ap, subst, ◌∙◌, arith}
use Rattle.fb_certificate.specs.RunRows.{run_rows}
use Rattle.fb_certificate.specs.declared.types.RunRow.{RunRow}
use Rattle.fb_certificate.proofs.NumberLaws.{both_ok}
use Rattle.number_groups.specs.Groups.{AreGroups, beside}
use Rattle.domain_maker.specs.Made.{AreMade, AreRowsByState, state_numbers}
use Rattle.domain_maker.proofs.RowsByState.{all_made_rows, as_many_made, mades_long, states_known}
use Rattle.domain_maker.proofs.StateLaws.{few_states}
use Rattle.domain_maker.proofs.state_rows.made_rows.Goals as goal

pub overflow_cast-count : goal.overflow_cast-count
overflow_cast-count g c = omega (arith, few_states c.args.inputs.now c.requires.whole, c.len-count.ensures.count)

pub grouped-requires-clause-below : goal.grouped-requires-clause-below
grouped-requires-clause-below g c =
    let inputs = c.args.inputs.now in
    let states_are = c.as_slice-2.ensures.value ∙ (c.in_ok-states.ensures ∙ ap (map (λ (row : RunRow). row.state)) (c.as_slice.ensures.value ∙ c.in_ok-rows.ensures)) in
    subst (λ (m : ℕ). All (λ n. n < m) c.as_slice-2.result.now) (sym c.len-count.ensures.count)
    (subst (All (λ n. n < length inputs.states)) (sym states_are) (states_known inputs c.requires.whole))

pub regrouped-requires-clause-below : goal.regrouped-requires-clause-below
regrouped-requires-clause-below g c =
    let inputs = c.args.inputs.now in
    let states_are = c.as_slice-5.ensures.value ∙ (c.in_ok-states.ensures ∙ ap (map (λ (row : RunRow). row.state)) (c.as_slice.ensures.value ∙ c.in_ok-rows.ensures)) in
    subst (λ (m : ℕ). All (λ n. n < m) c.as_slice-5.result.now) (sym (mades_long inputs c.as_slice-4.result.now c.in_ok-made.made c.in_ok-made.ensures))
    (subst (All (λ n. n < length inputs.states)) (sym states_are) (states_known inputs c.requires.whole))

pub regrouped-requires-clause-as_many : goal.regrouped-requires-clause-as_many
regrouped-requires-clause-as_many g c =
    let inputs = c.args.inputs.now in
    let made = c.in_ok-made.made in
    let rows_are = c.as_slice.ensures.value ∙ c.in_ok-rows.ensures in
    let states_are = c.as_slice-5.ensures.value ∙ (c.in_ok-states.ensures ∙ ap (map (λ (row : RunRow). row.state)) rows_are) in
    let states_were = c.as_slice-2.ensures.value ∙ (c.in_ok-states.ensures ∙ ap (map (λ (row : RunRow). row.state)) rows_are) in
    let rows_were = c.as_slice-3.ensures.value ∙ c.in_ok-rows.ensures in
    let groups_are : AreRowsByState inputs c.as_slice-4.result.now =
    subst (λ (gs : List (List RunRow)). AreRowsByState inputs gs) (sym c.as_slice-4.ensures.value)
    (subst (λ (m : ℕ). AreGroups m (state_numbers inputs) (run_rows inputs) c.in_ok-groups.groups.items) c.len-count.ensures.count
    (subst (λ (ns : List ℕ). AreGroups c.len-count.result ns (run_rows inputs) c.in_ok-groups.groups.items) states_were
    (subst (λ (rows : List RunRow). AreGroups c.len-count.result c.as_slice-2.result.now rows c.in_ok-groups.groups.items) rows_were
    c.in_ok-groups.ensures))) in
    subst (λ (ns : List ℕ). (k : ℕ) → k < length made → length (get_or made k []) ≡ length (beside k ns ns)) (sym states_are)
    (as_many_made inputs c.requires.whole c.as_slice-4.result.now groups_are made c.in_ok-made.ensures)

pub returns : goal.returns
returns g c =
    let inputs = c.args.inputs.now in
    let made = c.in_ok-made.made in
    let rows_are = c.as_slice.ensures.value ∙ c.in_ok-rows.ensures in
    let states_are = c.as_slice-5.ensures.value ∙ (c.in_ok-states.ensures ∙ ap (map (λ (row : RunRow). row.state)) rows_are) in
    let states_were = c.as_slice-2.ensures.value ∙ (c.in_ok-states.ensures ∙ ap (map (λ (row : RunRow). row.state)) rows_are) in
    let rows_were = c.as_slice-3.ensures.value ∙ c.in_ok-rows.ensures in
    let groups_are : AreRowsByState inputs c.as_slice-4.result.now =
    subst (λ (gs : List (List RunRow)). AreRowsByState inputs gs) (sym c.as_slice-4.ensures.value)
    (subst (λ (m : ℕ). AreGroups m (state_numbers inputs) (run_rows inputs) c.in_ok-groups.groups.items) c.len-count.ensures.count
    (subst (λ (ns : List ℕ). AreGroups c.len-count.result ns (run_rows inputs) c.in_ok-groups.groups.items) states_were
    (subst (λ (rows : List RunRow). AreGroups c.len-count.result c.as_slice-2.result.now rows c.in_ok-groups.groups.items) rows_were
    c.in_ok-groups.ensures))) in
    both_ok c.regrouped.result (λ all. length all ≡ length c.as_slice-5.result.now) (λ all. AreGroups (length made) c.as_slice-5.result.now all made) (AreMade inputs)
    (λ all long dealt.
    all_made_rows inputs c.requires.whole c.as_slice-4.result.now groups_are made c.in_ok-made.ensures all
    (long ∙ ap length states_are)
    (subst (λ (ns : List ℕ). AreGroups (length made) ns all made) states_are dealt))
    c.regrouped.ensures.as_many c.regrouped.ensures.groups

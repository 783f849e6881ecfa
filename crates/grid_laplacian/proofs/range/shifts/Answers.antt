use Rattle.std.proofs.Common.{◌≡◌, arith, ap, ◌∙◌, sum_by, List, length}
use Rattle.std.specs.List.{enumerate_from}
use Rattle.std.proofs.lemmas.List.{take_all}
use Rattle.std.proofs.lemmas.List.FromFn.{length-enumerate_from}
use Rattle.fb_types.specs.declared.grid.Branch.{Branch}
use Rattle.grid_laplacian.specs.Ranges.{shift_of, shifts_of}
use Rattle.grid_laplacian.proofs.Shifts.{same_length, carrying_small, shifts_more}
use Rattle.grid_laplacian.proofs.range.shifts.Goals as goal

pub shift-sum-requires-clause-number : goal.shift-sum-requires-clause-number
shift-sum-requires-clause-number c =
    let same = same_length c.args.grid.now c.args.state.now c.requires in
    let size = ap length c.as_slice-branches.ensures.items in
    let lt = c.loop-number-test.true in
    omega arith

pub shift-sum-requires-clause-in_range : goal.shift-sum-requires-clause-in_range
shift-sum-requires-clause-in_range c =
    let items = c.as_slice-branches.ensures.items in
    carrying_small c.args.grid.now c.args.state.now c.requires c.args.grid.now.branches_in_range c.loop-number.number c.index-branches-number.result
    (rw items at c.loop-number-test.true) (rw items at c.index-branches-number.is)

pub loop-number-preserved : goal.loop-number-preserved
loop-number-preserved c =
    let more = shifts_more c.args.state.now c.as_slice-branches.result.now c.loop-number.number c.index-branches-number.result c.loop-number-test.true c.index-branches-number.is in
    let so_far = c.loop-number.invariant.so_far in
    let small = c.loop-number.invariant.small in
    let term = c.shift-sum.ensures.value in
    let part = c.shift-sum.ensures.small in
    record { so_far = omega arith; small = omega arith }

pub returns-clause-value : goal.returns-clause-value
returns-clause-value c =
    c.loop-number.invariant.so_far
    ∙ ap (sum_by (shift_of c.args.state.now)) (take_all c.loop-number.number (enumerate_from 0 c.as_slice-branches.result.now) (let size = length-enumerate_from 0 c.as_slice-branches.result.now in let done = c.loop-number-test.false in omega arith))
    ∙ ap (λ (branches : List Branch). sum_by (shift_of c.args.state.now) (enumerate_from 0 branches)) c.as_slice-branches.ensures.items

pub returns-clause-small : goal.returns-clause-small
returns-clause-small c =
    let whole : c.loop-number.sum ≡ shifts_of c.args.state.now c.args.grid.now = returns-clause-value c in
    let few = c.args.grid.now.few_branches in
    let size = ap length c.as_slice-branches.ensures.items in
    let end = c.loop-number.auto.number-end in
    let small = c.loop-number.invariant.small in
    omega arith

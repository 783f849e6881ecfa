use Rattle.std.proofs.Common.{◌+◌, ◌*◌, ◌^◌, pos, ◌*ℤ◌, length, ap, sym, ◌∙◌, arith}
use Rattle.grid_laplacian.proofs.Shifts.{same_length}
use Rattle.security.specs.Balances.{shift_of}
use Rattle.security.specs.Flows.{NumberedBranch}
use Rattle.branch_spans.proofs.Branches.{in_range}
use Rattle.branch_spans.proofs.Held.{stands_in}
use Rattle.right_sides.proofs.Adding.{raised_within, wider}
use Rattle.right_sides.proofs.Classes.{shifts_next, shifts_passed, shifts_done}
use Rattle.right_sides.proofs.add_shifts.Goals as goal
use Rattle.right_sides.proofs.add_shifts.Goals.{then-carries, else-carries}

pub carries-requires : goal.carries-requires
carries-requires c =
    let same = same_length c.args.grid.now c.args.state.now c.requires.of_grid in
    let size = ap length c.as_slice-branches.ensures.items in
    let lt = c.loop-number-test.true in
    omega (arith, same, size, lt)

pub add_shift-requires-clause-b_some : goal.add_shift-requires-clause-b_some
add_shift-requires-clause-b_some c =
    let br = c.index-branches-number.result in
    let items = c.as_slice-branches.ensures.items in
    let number : NumberedBranch = record { number = c.loop-number.number; branch = br } in
    let stands = stands_in c.args.grid.now c.loop-number.number br c.as_slice-branches.result.now (rw items at c.loop-number-test.true) c.index-branches-number.is items in
    (in_range c.args.grid.now c.args.state.now number c.requires.of_grid stands (sym c.carries.ensures ∙ c.if-carries.true)).some

pub add_shift-requires-clause-b_small : goal.add_shift-requires-clause-b_small
add_shift-requires-clause-b_small c =
    let br = c.index-branches-number.result in
    let items = c.as_slice-branches.ensures.items in
    let number : NumberedBranch = record { number = c.loop-number.number; branch = br } in
    let stands = stands_in c.args.grid.now c.loop-number.number br c.as_slice-branches.result.now (rw items at c.loop-number-test.true) c.index-branches-number.is items in
    (in_range c.args.grid.now c.args.state.now number c.requires.of_grid stands (sym c.carries.ensures ∙ c.if-carries.true)).small

pub loop-number-preserved : goal.loop-number-preserved
loop-number-preserved c =
    let s = c.args.state.now in
    let grid = c.args.grid.now in
    let n = c.loop-number.number in
    let br = c.index-branches-number.result in
    let items = c.as_slice-branches.ensures.items in
    let so_far = 4096 * (10 ^ 13 * 2 ^ 64) + c.loop-number.number * (10 ^ 15 * 2 ^ 63) in
    let next = 4096 * (10 ^ 13 * 2 ^ 64) + (c.loop-number.number + 1) * (10 ^ 15 * 2 ^ 63) in
    elim c.if-carries.branch [
      | then-carries w ↦
          let carries = sym c.carries.ensures ∙ w.if-carries.true in
          rw w.sums-is (record {
            raised = shifts_next s (pos (10 ^ 4)) grid.branches n br c.args.sums.now c.loop-number.sums w.add_shift.new.sums (rw items at c.loop-number-test.true) (rw items at c.index-branches-number.is) carries
                c.loop-number.invariant.raised w.add_shift.ensures.raised;
            small = wider (so_far + 10 ^ 15 * 2 ^ 63) next w.add_shift.new.sums (omega arith)
                (raised_within so_far (10 ^ 15 * 2 ^ 63) c.loop-number.sums w.add_shift.new.sums (λ k. pos (10 ^ 4) *ℤ shift_of s br k) w.add_shift.ensures.raised c.loop-number.invariant.small
                (λ k b. w.add_shift.ensures.within k));
          })
      | else-carries w ↦
          let carries = sym c.carries.ensures ∙ w.if-carries.false in
          rw w.sums-is (record {
            raised = shifts_passed s (pos (10 ^ 4)) grid.branches n br c.args.sums.now c.loop-number.sums (rw items at c.loop-number-test.true) (rw items at c.index-branches-number.is) carries c.loop-number.invariant.raised;
            small = wider so_far next c.loop-number.sums (omega arith) c.loop-number.invariant.small;
          })
    ]

pub returns : goal.returns
returns c =
    shifts_done c.args.state.now c.args.grid.now (pos (10 ^ 4)) c.loop-number.number c.args.sums.now c.loop-number.sums (rw c.as_slice-branches.ensures.items at c.loop-number-test.false) c.loop-number.invariant.raised

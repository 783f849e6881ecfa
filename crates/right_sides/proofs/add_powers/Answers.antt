use Rattle.std.proofs.Common.{◌*◌, ◌^◌, ◌+◌, length, FitsSigned, ap, arith}
use mir.Syntax.{w128}
use Rattle.std.proofs.lemmas.Int.{to_z-of_z}
use Rattle.exact_flows.proofs.Listed.{class_below}
use Rattle.right_sides.specs.Raised.{only_at}
use Rattle.right_sides.proofs.Adding.{only_within, raised_within, wider}
use Rattle.right_sides.proofs.Classes.{power_next}
use Rattle.right_sides.proofs.Products.{sum_fits}
use Rattle.right_sides.proofs.add_powers.Goals as goal

pub add_at-requires-clause-fits : goal.add_at-requires-clause-fits
add_at-requires-clause-fits c =
    let fits : FitsSigned w128 c.power.result = record { sfits = c.power.type_inv } in
    let below = class_below c.args.state.now c.sound.ensures c.loop-number.number in
    let is = c.class_of.ensures in
    let size = c.loop-number.invariant.raised.each_class in
    let start = c.requires.each_class in
    let few = c.args.grid.now.few_nodes in
    let same = ap length c.as_slice-nodes.ensures.items in
    let lt = c.loop-number-test.true in
    simp to_z-of_z (sum_fits (c.loop-number.number * (10 ^ 13 * 2 ^ 64)) (10 ^ 13 * 2 ^ 64) c.loop-number.sums c.class_of.result c.power.result
    (omega (arith, few, same, lt)) (omega (arith, below, is, size, start)) c.loop-number.invariant.small c.power.ensures.within)

pub loop-number-preserved : goal.loop-number-preserved
loop-number-preserved c =
    let fits : FitsSigned w128 c.power.result = record { sfits = c.power.type_inv } in
    let items = c.as_slice-nodes.ensures.items in
    let added = simp to_z-of_z at c.add_at.ensures in
    let so_far = c.loop-number.number * (10 ^ 13 * 2 ^ 64) in
    record {
      raised = power_next c.args.state.now c.args.grid.now c.loop-number.number c.index-nodes-number.result c.class_of.result c.power.result c.args.sums.now c.loop-number.sums c.add_at.new.sums
          (rw items at c.loop-number-test.true) (rw items at c.index-nodes-number.is) c.class_of.ensures c.power.ensures.value c.loop-number.invariant.raised added;
      small = wider (so_far + 10 ^ 13 * 2 ^ 64) ((c.loop-number.number + 1) * (10 ^ 13 * 2 ^ 64)) c.add_at.new.sums (omega arith)
          (raised_within so_far (10 ^ 13 * 2 ^ 64) c.loop-number.sums c.add_at.new.sums (only_at c.class_of.result c.power.result) added c.loop-number.invariant.small
          (λ k b. only_within (10 ^ 13 * 2 ^ 64) c.class_of.result k c.power.result c.power.ensures.within));
    }

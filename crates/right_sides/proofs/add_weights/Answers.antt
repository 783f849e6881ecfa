use Rattle.std.proofs.Common.{◌<◌, pos, List, length, get_or, All, FitsSigned, subst, ◌∙◌, ◌*ℤ◌, ◌^◌, arith, rules}
use mir.Syntax.{w64}
use Rattle.std.proofs.lemmas.List.{take_all}
use Rattle.fb_types.specs.declared.keys.Weight.{Weight}
use Rattle.security.specs.Balances.{of_class}
use Rattle.exact_flows.proofs.Listed.{class_below}
use Rattle.right_sides.specs.Raised.{IsRaised, weights_at}
use Rattle.right_sides.proofs.Classes.{weight_next, weights_none}
use Rattle.right_sides.proofs.Products.{weight_held, weight_fits}
use Rattle.right_sides.proofs.add_weights.Goals as goal

abbrev none : Weight
none = record { node = 0; weight = pos 0 }

pub loop-weight-init : goal.loop-weight-init
loop-weight-init c = weights_none c.args.state.now c.args.sums.now

pub add_at-requires-clause-fits : goal.add_at-requires-clause-fits
add_at-requires-clause-fits c =
    let ws = c.as_slice-weights.result.now in
    let i = c.loop-weight.weight-index in
    let w_fits : FitsSigned w64 (get_or ws i none).weight = search rules in
    let nodes : All (λ w. w.node < length c.args.state.now.class_of) c.as_slice-weights.result.now = rw c.as_slice-weights.ensures.items c.requires.nodes in
    let below = class_below c.args.state.now c.sound.ensures (get_or ws i none).node in
    let is = c.class_of.ensures in
    weight_fits c.args.state.now c.args.block.now ws i none c.class_of.result _ c.args.sums.now c.loop-weight.sums c.requires.block c.as_slice-weights.ensures.items c.loop-weight-test.true
    (nodes i none c.loop-weight-test.true) is (omega (arith, below, is)) (weight_held (get_or ws i none).weight c.from.result w_fits c.from.ensures) c.requires.each_class c.requires.small c.loop-weight.invariant

pub loop-weight-preserved : goal.loop-weight-preserved
loop-weight-preserved c =
    let ws = c.as_slice-weights.result.now in
    let i = c.loop-weight.weight-index in
    let w_fits : FitsSigned w64 (get_or ws i none).weight = search rules in
    let nodes : All (λ w. w.node < length c.args.state.now.class_of) c.as_slice-weights.result.now = rw c.as_slice-weights.ensures.items c.requires.nodes in
    weight_next c.args.state.now ws i none c.class_of.result _ c.args.sums.now c.loop-weight.sums c.add_at.new.sums c.loop-weight-test.true (nodes i none c.loop-weight-test.true) c.class_of.ensures
    (weight_held (get_or ws i none).weight c.from.result w_fits c.from.ensures) c.loop-weight.invariant c.add_at.ensures

pub returns : goal.returns
returns c =
    subst (λ (ws : List Weight). IsRaised c.args.sums.now c.loop-weight.sums (λ k. pos (10 ^ 13) *ℤ of_class c.args.state.now (weights_at ws) k))
    (take_all c.loop-weight.weight-index c.as_slice-weights.result.now c.loop-weight-test.false ∙ c.as_slice-weights.ensures.items) c.loop-weight.invariant

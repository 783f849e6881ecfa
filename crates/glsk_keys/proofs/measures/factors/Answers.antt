use Rattle.std.proofs.Common.{◌≡◌, ◌≤◌, pos, length, ap, ◌∙◌, arith}
use Rattle.std.proofs.lemmas.List.{take_all}
use Rattle.glsk_keys.specs.Measures.{factors_of}
use Rattle.glsk_keys.proofs.SizeLaws.{factors_small, factors_weights}
use Rattle.glsk_keys.proofs.MeasureLaws.{factors-past, factors-none, added}
use Rattle.glsk_keys.proofs.measures.factors.Goals as goal

pub loop-weight-init : goal.loop-weight-init
loop-weight-init c = c.in_ok-factors.ensures.items_if_clones_equal (λ y e. e) ∙ factors-none c.args.count

pub loop-weight-preserved-then-place-len : goal.loop-weight-preserved-then-place-len
loop-weight-preserved-then-place-len c =
    factors-past c.args.count c.args.listed.now c.loop-weight.weight-index (record { node = 0; weight = pos 0 }) c.loop-weight.factors.items c.loop-weight-test.true c.loop-weight.invariant
    (omega (arith, c.loop-weight.factors.ok.0))

pub overflow_add-index_mut : goal.overflow_add-index_mut
overflow_add-index_mut c =
    (added c.args.count c.args.listed.now c.loop-weight.weight-index (record { node = 0; weight = pos 0 }) c.loop-weight.factors.items _ _ c.loop-weight-test.true c.loop-weight.invariant
    (omega (arith, c.loop-weight.factors.ok.0)) c.index_mut.ensures.value c.from.ensures (omega arith) c.requires.factors).0

pub loop-weight-preserved : goal.loop-weight-preserved
loop-weight-preserved c =
    (added c.args.count c.args.listed.now c.loop-weight.weight-index (record { node = 0; weight = pos 0 }) c.loop-weight.factors.items _ _ c.loop-weight-test.true c.loop-weight.invariant
    (omega (arith, c.loop-weight.factors.ok.0)) c.index_mut.ensures.value c.from.ensures (omega arith) c.requires.factors).1

at_end : (c : goal.After-loop-weight) → c.loop-weight.factors.items ≡ factors_of c.args.count c.args.listed.now
at_end c =
    let n : length c.args.listed.now ≤ c.loop-weight.weight-index = omega arith in
    c.loop-weight.invariant ∙ ap (factors_of c.args.count) (take_all _ _ n)

pub returns-clause-small : goal.returns-clause-small
returns-clause-small c = factors_small c.args.count c.args.listed.now c.loop-weight.factors.items (at_end c) c.requires.few (omega arith) c.requires.factors

pub returns-clause-none_below : goal.returns-clause-none_below
returns-clause-none_below c = factors_weights c.args.count c.args.listed.now c.loop-weight.factors.items (at_end c) c.requires.factors

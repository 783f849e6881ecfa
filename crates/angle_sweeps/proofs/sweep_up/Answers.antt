use Rattle.std.proofs.Common.{ℕ, ◌<◌, ◌≤◌, ◌-◌, arith, rules, ap, length, ◌∙◌}
use Rattle.std.proofs.lemmas.List.{with_items_is, places}
use Rattle.std.proofs.lemmas.Bool.{OnTrue_at}
use Rattle.grid_laplacian.specs.Sizes.{size_of}
use Rattle.angle_sweeps.proofs.Start.{start_under, size-le-most, most}
use Rattle.angle_sweeps.proofs.sweep_up.Goals as goal

pub loop-p-init : goal.loop-p-init
loop-p-init c =
    rw c.as_slice-p.ensures.items
    (start_under c.args.state.now c.args.p.now c.in_ok-w.w.items _ (c.in_ok-w.ensures.items_if_clones_equal (λ y e. e)) (ap length c.as_slice-p.ensures.items ∙ c.requires.each_class) c.requires.each_class c.requires.nonnegative)

falls_to : (m a b : ℕ) → a < b → b ≤ m → m - b < m - a
falls_to m a b lt le = omega arith

pub loop-p-smaller : goal.loop-p-smaller
loop-p-smaller c =
    let rose : size_of c.loop-p.w.items < size_of c.sweep_round.new.w = rw c.deref_mut.ensures.value at (OnTrue_at c.loop-p-test.true c.sweep_round.ensures.rose) in
    let back = with_items_is c.loop-p.w c.sweep_round.new.w (search (rules, places)) in
    rw back
    (falls_to (most c.args.state.now c.as_slice-p.result.now) (size_of c.loop-p.w.items) (size_of c.sweep_round.new.w) rose
    (size-le-most c.args.state.now c.sound.ensures c.as_slice-p.result.now c.sweep_round.new.w c.sweep_round.ensures.under))

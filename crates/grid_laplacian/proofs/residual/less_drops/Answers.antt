use Rattle.std.proofs.Common.{◌≡◌, pos, ◌+ℤ◌, ◌-ℤ◌, ◌*ℤ◌, ℕ, ℤ, take, get_or, ◌∙◌, FitsSigned, to_z, of_z, arith}
use Rattle.std.proofs.lemmas.Int.{ints, to_z-of_z}
use mir.Syntax.{w128}
use Rattle.whole_laws.specs.Sums.{at}
use Rattle.grid_state.specs.GridState.{no_edge}
use Rattle.grid_laplacian.specs.Laws.{drop_over}
use Rattle.grid_laplacian.proofs.PartialSums.{turn, drop_over-more}
use Rattle.grid_laplacian.proofs.residual.less_drops.Goals as goal

pub weighted_drop-left-requires-clause-here_small : goal.weighted_drop-left-requires-clause-here_small
weighted_drop-left-requires-clause-here_small c =
    let t = turn c.args.row.now c.args.w.now c.args.start c.args.here c.requires c.loop-edge.edge-index no_edge c.loop-edge-test.true in
    let here = t.here_fits in
    simp to_z-of_z t.here_small

pub weighted_drop-left-requires-clause-there_small : goal.weighted_drop-left-requires-clause-there_small
weighted_drop-left-requires-clause-there_small c =
    let t = turn c.args.row.now c.args.w.now c.args.start c.args.here c.requires c.loop-edge.edge-index no_edge c.loop-edge-test.true in
    let there = t.there_fits in
    simp to_z-of_z t.there_small

-- a difference that is stored and read again
read_again : (r : ℤ) (bits : ℕ) (p q z : ℤ) → FitsSigned w128 r → to_z w128 bits ≡ p -ℤ q → r ≡ z → FitsSigned w128 ((p -ℤ q) -ℤ z) → FitsSigned w128 (to_z w128 bits -ℤ to_z w128 (of_z w128 r))
read_again r bits p q z fits e e' whole = simp to_z-of_z (rw (e, e') whole)

reads : (r : ℤ) (bits : ℕ) (p q z q' : ℤ) → FitsSigned w128 r → to_z w128 bits ≡ p -ℤ q → r ≡ z → FitsSigned w128 ((p -ℤ q) -ℤ z) → q' ≡ q +ℤ z
    → to_z w128 (of_z w128 (to_z w128 bits -ℤ to_z w128 (of_z w128 r))) ≡ p -ℤ q'
reads r bits p q z q' fits e e' whole more =
    let sum = read_again r bits p q z fits e e' whole in
    to_z-of_z w128 (to_z w128 bits -ℤ to_z w128 (of_z w128 r)) sum ∙ simp to_z-of_z (rw (e, e', more) (omega (arith, ints)))

pub overflow_sub-left : goal.overflow_sub-left
overflow_sub-left c =
    let t = turn c.args.row.now c.args.w.now c.args.start c.args.here c.requires c.loop-edge.edge-index no_edge c.loop-edge-test.true in
    let here = t.here_fits in
    let there = t.there_fits in
    let fits = c.ranges.start in
    let e = get_or c.args.row.now c.loop-edge.edge-index no_edge in
    let so_far : to_z w128 c.loop-edge.left-bits ≡ c.args.start -ℤ drop_over (take c.loop-edge.edge-index c.args.row.now) (at c.args.w.now) c.args.here = simp to_z-of_z at c.loop-edge.invariant in
    let term : c.weighted_drop-left.result ≡ pos e.b *ℤ (c.args.here -ℤ at c.args.w.now e.to) = simp to_z-of_z at c.weighted_drop-left.ensures in
    read_again _ _ c.args.start (drop_over (take c.loop-edge.edge-index c.args.row.now) (at c.args.w.now) c.args.here) _ (record { sfits = c.weighted_drop-left.type_inv }) so_far term t.step_fits

pub loop-edge-preserved : goal.loop-edge-preserved
loop-edge-preserved c =
    let t = turn c.args.row.now c.args.w.now c.args.start c.args.here c.requires c.loop-edge.edge-index no_edge c.loop-edge-test.true in
    let here = t.here_fits in
    let there = t.there_fits in
    let fits = c.ranges.start in
    let e = get_or c.args.row.now c.loop-edge.edge-index no_edge in
    let so_far : to_z w128 c.loop-edge.left-bits ≡ c.args.start -ℤ drop_over (take c.loop-edge.edge-index c.args.row.now) (at c.args.w.now) c.args.here = simp to_z-of_z at c.loop-edge.invariant in
    let term : c.weighted_drop-left.result ≡ pos e.b *ℤ (c.args.here -ℤ at c.args.w.now e.to) = simp to_z-of_z at c.weighted_drop-left.ensures in
    let more = drop_over-more c.args.row.now (at c.args.w.now) c.args.here c.loop-edge.edge-index no_edge c.loop-edge-test.true in
    simp to_z-of_z (reads _ _ c.args.start (drop_over (take c.loop-edge.edge-index c.args.row.now) (at c.args.w.now) c.args.here) _ _ (record { sfits = c.weighted_drop-left.type_inv }) so_far term t.step_fits more)

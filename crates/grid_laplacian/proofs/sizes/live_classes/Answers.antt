use Rattle.std.proofs.Common.{◌≡◌, arith, ap, ◌∙◌, cond, ℕ}
use Rattle.whole_laws.specs.Sums.{total_below}
use Rattle.grid_state.specs.GridState.{is_live, classes_of}
use Rattle.grid_laplacian.proofs.SizeLoops.{live_total}
use Rattle.grid_laplacian.proofs.sizes.live_classes.Goals as goal

pub returns-clause-value : goal.returns-clause-value
returns-clause-value c =
    let done : c.loop-class.class ≡ classes_of c.args.state.now = let all = c.loop-class-test.false in let end = c.loop-class.auto in let size = c.classes-class-end.ensures in omega arith in
    c.loop-class.invariant.so_far ∙ ap (λ (n : ℕ). total_below n (λ i. cond (is_live c.args.state.now i) 1 0)) done ∙ live_total c.args.state.now

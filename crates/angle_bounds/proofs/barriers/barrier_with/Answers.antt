use Rattle.std.proofs.Common.{ℕ, subst}
use Rattle.sparse_factor.specs.Guesses.{IsGuess}
use Rattle.angle_bounds.proofs.barriers.barrier_with.Goals as goal

pub barrier_from-requires-clause-guess : goal.barrier_from-requires-clause-guess
barrier_from-requires-clause-guess c = subst (λ (n : ℕ). IsGuess c.args.state.now n c.in_ok-guess.guess) c.in_ok-right_side.ensures.size c.in_ok-guess.ensures

use Rattle.std.proofs.Common.{ℕ, subst}
use Rattle.sparse_factor.specs.Guesses.{IsGuess}
use Rattle.state_proofs.proofs.columns.barrier_by.Goals as goal

pub try_barrier_from-requires-clause-guess : goal.try_barrier_from-requires-clause-guess
try_barrier_from-requires-clause-guess c = subst (λ (n : ℕ). IsGuess c.args.state.now n c.in_ok-guess.guess) c.in_ok-p.ensures.size c.in_ok-guess.ensures

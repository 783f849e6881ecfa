use Rattle.std.proofs.Common.{◌≤ℤ◌, ◌*◌, ℕ, pos, Result, Ok, Err, IfOk, arith}
use Rattle.std.proofs.lemmas.Int.{ints}
use Rattle.grid_state.specs.GridState.{susceptance_of}
use Rattle.angle_bounds.specs.RightSides.{doubled}
use Rattle.angle_bounds.proofs.Made.{made_all}
use Rattle.angle_bounds.proofs.Doubled.{room_for_doubled}
use Rattle.angle_bounds.proofs.Proposed.{barrier_of}
use Rattle.angle_bounds.proofs.barriers.swept_barrier.Goals as goal

pub sweep_up-requires-clause-room : goal.sweep_up-requires-clause-room
sweep_up-requires-clause-room c = room_for_doubled c.args.state.now c.in_ok-right_side.right_side c.requires c.in_ok-right_side.ensures

pub sweep_up-requires-clause-nonnegative : goal.sweep_up-requires-clause-nonnegative
sweep_up-requires-clause-nonnegative c =
    let s = c.args.state.now in
    made_all s (doubled s) c.in_ok-right_side.right_side c.in_ok-right_side.ensures (λ z. pos 0 ≤ℤ z) (omega (arith, ints)) (λ i. high (2 * susceptance_of s i))
  where
    high : (k : ℕ) → pos 0 ≤ℤ pos k
    high k = omega (arith, ints)

if_both : {V E : Type 0} (P Q R : V → Type 0) (r : Result V E) → ((v : V) → P v → Q v → R v) → IfOk r P → IfOk r Q → IfOk r R
if_both P Q R (Ok v) f p q = f v p q
if_both P Q R (Err e) f p q = tt

pub returns : goal.returns
returns c =
    if_both _ _ _ c.sweep_up.result (λ v under close. barrier_of c.args.state.now c.sound.ensures c.in_ok-right_side.right_side v c.in_ok-right_side.ensures under close) c.sweep_up.ensures.under c.sweep_up.ensures.close

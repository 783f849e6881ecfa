use Rattle.std.proofs.Common.{◌≡◌, length, Result, Ok, Err, IfOk}
use Rattle.grid_state.specs.GridState.{classes_of}
use Rattle.grid_laplacian.specs.Sizes.{size_of}
use Rattle.angle_bounds.specs.RightSides.{IsSum}
use Rattle.angle_bounds.proofs.Guessed.{guess_within, proposed_within, sum_proposed}
use Rattle.angle_bounds.proofs.swept.swept_on.Goals as goal

pub sums-requires-clause-a : goal.sums-requires-clause-a
sums-requires-clause-a c = guess_within c.args.state.now c.sound.ensures (size_of c.args.p.now) c.args.w.now c.requires.room c.requires.guess

pub sums-requires-clause-b : goal.sums-requires-clause-b
sums-requires-clause-b c =
    let all = proposed_within c.args.state.now c.sound.ensures c.args.left.now c.in_ok-more.more c.requires.room_left c.in_ok-more.ensures in
    rw c.as_slice.ensures.items all

if_one : {V E : Type 0} (P Q : V → Type 0) (r : Result V E) → ((v : V) → P v → Q v) → IfOk r P → IfOk r Q
if_one P Q (Ok v) f h = f v h
if_one P Q (Err e) f h = tt

pub returns : goal.returns
returns c =
    let s = c.args.state.now in
    let size : length c.args.w.now ≡ classes_of s = c.requires.guess.each_class in
    if_one _ _ c.sums.result (λ next is.
    let sum : IsSum c.args.w.now c.in_ok-more.more next (classes_of s) = rw c.as_slice.ensures.items at (rw size at is) in
    sum_proposed s c.sound.ensures c.args.p.now c.args.w.now c.args.left.now c.in_ok-more.more next c.requires.each_class c.requires.guess c.requires.left c.in_ok-more.ensures sum) c.sums.ensures

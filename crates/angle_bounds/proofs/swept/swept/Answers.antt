use Rattle.std.proofs.Common.{◌≡◌, ◌≤◌, ◌≤ℤ◌, ◌*◌, ℕ, pos, max, length, Result, Ok, Err, IfOk, arith, ap, ◌∙◌}
use Rattle.std.proofs.lemmas.Int.{ints}
use Rattle.whole_laws.specs.Sums.{at}
use Rattle.grid_state.specs.GridState.{classes_of}
use Rattle.grid_laplacian.specs.Sizes.{size_of, total_susceptance_of}
use Rattle.grid_laplacian.proofs.SizeCondition.{room_for_less}
use Rattle.angle_bounds.specs.RightSides.{part_above, part_below, IsMade, IsDifference}
use Rattle.angle_bounds.proofs.Made.{made_all, part_size, above_small, below_small, below_high}
use Rattle.angle_bounds.proofs.Proposed.{proposed_of}
use Rattle.angle_bounds.proofs.swept.swept.Goals as goal

less : (x y z : ℕ) → x ≤ y → x ≤ max y z
less x y z h = omega arith

pub sweep_up-requires-clause-room : goal.sweep_up-requires-clause-room
sweep_up-requires-clause-room c =
    let s = c.args.state.now in
    let p = c.args.p.now in
    let made : IsMade s (part_above p) c.in_ok-high.high (classes_of s) = rw c.as_slice.ensures.items at c.in_ok-high.ensures in
    room_for_less s (size_of c.in_ok-high.high) (size_of p)
    (less (size_of c.in_ok-high.high) (size_of p) (2 * total_susceptance_of s) (part_size s (part_above p) p c.in_ok-high.high made c.requires.each_class (λ i. above_small (at p i)))) c.requires.room

pub sweep_up-requires-2-clause-nonnegative : goal.sweep_up-requires-2-clause-nonnegative
sweep_up-requires-2-clause-nonnegative c =
    let s = c.args.state.now in
    let p = c.args.p.now in
    let made : IsMade s (part_below p) c.in_ok-low.low (classes_of s) = rw c.as_slice-2.ensures.items at c.in_ok-low.ensures in
    made_all s (part_below p) c.in_ok-low.low made (λ z. pos 0 ≤ℤ z) (omega (arith, ints)) (λ i. below_high (at p i))

pub sweep_up-requires-2-clause-room : goal.sweep_up-requires-2-clause-room
sweep_up-requires-2-clause-room c =
    let s = c.args.state.now in
    let p = c.args.p.now in
    let made : IsMade s (part_below p) c.in_ok-low.low (classes_of s) = rw c.as_slice-2.ensures.items at c.in_ok-low.ensures in
    room_for_less s (size_of c.in_ok-low.low) (size_of p)
    (less (size_of c.in_ok-low.low) (size_of p) (2 * total_susceptance_of s) (part_size s (part_below p) p c.in_ok-low.low made c.requires.each_class (λ i. below_small (at p i)))) c.requires.room

if_one : {V E : Type 0} (P Q : V → Type 0) (r : Result V E) → ((v : V) → P v → Q v) → IfOk r P → IfOk r Q
if_one P Q (Ok v) f h = f v h
if_one P Q (Err e) f h = tt

pub returns : goal.returns
returns c =
    let s = c.args.state.now in
    let p = c.args.p.now in
    let high : IsMade s (part_above p) c.in_ok-high.high (classes_of s) = rw c.as_slice.ensures.items at c.in_ok-high.ensures in
    let low : IsMade s (part_below p) c.in_ok-low.low (classes_of s) = rw c.as_slice-2.ensures.items at c.in_ok-low.ensures in
    let size : length c.as_slice-3.result.now ≡ classes_of s = ap length c.as_slice-3.ensures.items ∙ c.in_ok-above.ensures.under.each_class in
    if_one _ _ c.difference.result (λ w is.
    let apart : IsDifference c.in_ok-above.above c.in_ok-below.below w (classes_of s) = rw (c.as_slice-3.ensures.items, c.as_slice-4.ensures.items) at (rw size at is) in
    proposed_of s c.sound.ensures p c.in_ok-high.high c.in_ok-low.low c.in_ok-above.above c.in_ok-below.below w c.requires.each_class high low
    c.in_ok-above.ensures.under c.in_ok-above.ensures.close c.in_ok-below.ensures.under c.in_ok-below.ensures.close apart) c.difference.ensures

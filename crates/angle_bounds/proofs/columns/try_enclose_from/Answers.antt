use Rattle.grid_state.specs.GridState.{classes_of}
use Rattle.grid_laplacian.specs.Sizes.{size_of}
use Rattle.grid_laplacian.proofs.Enclosure.{containment_holds}
use Rattle.angle_bounds.specs.RightSides.{IsAtMostOne}
use Rattle.angle_bounds.specs.Approaches.{Approaches}
use Rattle.angle_bounds.proofs.Guessed.{settled_enclose, column_of}
use Rattle.angle_bounds.proofs.columns.try_enclose_from.Goals as goal

pub returns-then-is_done-clause-within : goal.returns-then-is_done-clause-within
returns-then-is_done-clause-within c =
    let s = c.args.state.now in
    let p = c.args.p.now in
    let a = c.in_ok-approach.approach in
    let approaches : Approaches s p a = rw c.as_slice.ensures.items at c.in_ok-approach.ensures in
    let little : IsAtMostOne s a.left (classes_of s) = c.if-is_done.ensures in
    settled_enclose s p a c.with_kappa.result approaches little c.with_kappa.ensures.same c.with_kappa.ensures.least

pub returns-then-is_done-clause-column : goal.returns-then-is_done-clause-column
returns-then-is_done-clause-column c =
    let s = c.args.state.now in
    let p = c.args.p.now in
    let a = c.in_ok-approach.approach in
    let approaches : Approaches s p a = rw c.as_slice.ensures.items at c.in_ok-approach.ensures in
    let little : IsAtMostOne s a.left (classes_of s) = c.if-is_done.ensures in
    column_of s p c.with_kappa.result (settled_enclose s p a c.with_kappa.result approaches little c.with_kappa.ensures.same c.with_kappa.ensures.least)

pub returns-then-is_done-clause-holds : goal.returns-then-is_done-clause-holds
returns-then-is_done-clause-holds c =
    let s = c.args.state.now in
    let p = c.args.p.now in
    let a = c.in_ok-approach.approach in
    let approaches : Approaches s p a = rw c.as_slice.ensures.items at c.in_ok-approach.ensures in
    let little : IsAtMostOne s a.left (classes_of s) = c.if-is_done.ensures in
    containment_holds s c.sound.ensures c.args.barrier.now p c.with_kappa.result (size_of p) c.requires.barrier
    (settled_enclose s p a c.with_kappa.result approaches little c.with_kappa.ensures.same c.with_kappa.ensures.least)

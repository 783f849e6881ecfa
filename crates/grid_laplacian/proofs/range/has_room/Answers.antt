use Rattle.std.proofs.Common.{arith, refl}
use Rattle.grid_laplacian.proofs.Crossings.{crossing_positive, positive_crosses, least-le-greatest}
use Rattle.grid_laplacian.proofs.range.has_room.Goals as goal

pub returns-then-greatest-eq0 : goal.returns-then-greatest-eq0
returns-then-greatest-eq0 c = (
  λ t cross. absurd (let some = crossing_positive c.args.state.now c.sound.ensures cross in let same = c.greatest_susceptance-greatest.ensures in let none = c.if-greatest-eq0.true in omega arith),
  λ room. refl,
)

pub are_products_small-requires-clause-least : goal.are_products_small-requires-clause-least
are_products_small-requires-clause-least c =
    let greatest = c.greatest_susceptance-greatest.ensures in
    let some = c.if-greatest-eq0.false in
    let least = c.least_susceptance.ensures.value in
    let le = least-le-greatest c.args.state.now (omega arith) in
    omega arith

pub returns : goal.returns
returns c =
    let greatest = c.greatest_susceptance-greatest.ensures in
    let some = c.if-greatest-eq0.false in
    let answer = rw (c.live_classes.ensures.value, c.greatest_total.ensures.value, c.greatest_susceptance-greatest.ensures, c.least_susceptance.ensures.value) at c.are_products_small.ensures in (
      λ t cross. answer.0 t,
      λ room. answer.1 (room (positive_crosses c.args.state.now (omega arith))),
    )

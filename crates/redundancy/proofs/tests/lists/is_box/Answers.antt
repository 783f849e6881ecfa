use Rattle.std.proofs.Common.{rules, arith}
use Rattle.std.specs.List.{All}
use Rattle.redundancy.specs.Around.{IsAround}
use Rattle.redundancy.proofs.Boxes.{is-box, are-bounds}
use Rattle.redundancy.proofs.tests.lists.is_box.Goals as goal

pub returns : goal.returns
returns c t =
    let bounds = c.args.bounds.now in
    let a : All IsAround bounds = search rules in
    (are-bounds bounds (omega (arith, c.if-bounds-gt64.false)) a, is-box bounds (omega (arith, c.if-bounds-eq0.false)) a)

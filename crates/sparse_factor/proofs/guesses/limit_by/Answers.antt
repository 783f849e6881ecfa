use Rattle.std.proofs.Common.{◌<◌, arith}
use Rattle.grid_laplacian.specs.Sizes.{greatest_susceptance_of}
use Rattle.sparse_factor.proofs.Limits.{most_small, limit_is}
use Rattle.sparse_factor.proofs.guesses.limit_by.Goals as goal

pub overflow_mul-result-2 : goal.overflow_mul-result-2
overflow_mul-result-2 c =
    let s = c.args.state.now in
    let sizes = c.requires.sizes in
    let some : 0 < greatest_susceptance_of s = let e = sizes.greatest in let h = c.if-sizes-eq0.false in omega arith in
    let most = most_small s c.args.total c.requires.room some in
    rw (c.from.ensures, sizes.live, c.max-greater.ensures, sizes.total) (omega arith)

pub returns : goal.returns
returns c =
    let s = c.args.state.now in
    let sizes = c.requires.sizes in
    let some : 0 < greatest_susceptance_of s = let e = sizes.greatest in let h = c.if-sizes-eq0.false in omega arith in
    rw (c.from.ensures, sizes.live, c.max-greater.ensures, sizes.total, c.from-2.ensures, sizes.least)
    (limit_is s c.args.total c.requires.room some)

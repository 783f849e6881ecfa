use Rattle.std.proofs.Common.{◌≡◌, ◌≤◌, ◌-◌, ◌^◌, ℕ, min, Result, Ok, Err, IfOk, arith}
use Rattle.grid_laplacian.specs.Sizes.{size_of}
use Rattle.sparse_factor.proofs.Limits.{guess_is}
use Rattle.sparse_factor.proofs.outages.Outage.guess_after.Goals as goal

least : (total size k : ℕ) → total ≡ min size k → total ≤ size
least total size k e = omega arith

if_one : {V E : Type 0} (P Q : V → Type 0) (r : Result V E) → ((v : V) → P v → Q v) → IfOk r P → IfOk r Q
if_one P Q (Ok v) f h = f v h
if_one P Q (Err e) f h = tt

pub returns : goal.returns
returns c =
    let s = c.args.state.now in
    let e : c.total_of-total.result ≡ min (size_of c.args.p.now) (2 ^ 128 - 1) = rw c.as_slice.ensures.items at c.total_of-total.ensures in
    if_one _ _ c.angles_after.result (λ w bounded. guess_is s (size_of c.args.p.now) c.total_of-total.result c.limit_by-limit.result w
    (least c.total_of-total.result (size_of c.args.p.now) (2 ^ 128 - 1) e) c.limit_by-limit.ensures bounded) c.angles_after.ensures

use Rattle.std.proofs.Common.{◌≤◌, arith}
use Rattle.std.proofs.Math.Nat.{mul-le-mul}
use Rattle.domain_rows.proofs.greatest_sum.Goals as goal

pub overflow_mul-result : goal.overflow_mul-result
overflow_mul-result c = let p = mul-le-mul c.requires.deviation_in c.requires.bound_in in record { fits = omega (arith, p) }

pub overflow_mul-result-2 : goal.overflow_mul-result-2
overflow_mul-result-2 c =
    let few : c.from.result ≤ 64 = omega arith in
    let p = mul-le-mul c.requires.deviation_in c.requires.bound_in in
    let q = mul-le-mul p few in
    record { fits = omega (arith, q) }

-- Sums at a point.
use mir.Syntax.{w64, w128}
use Rattle.std.proofs.Common.{◌≡◌, ℕ, ◌+◌, ◌*◌, ◌^◌, ◌<◌, ℤ, ◌+ℤ◌, ◌*ℤ◌, to_z, of_z, sym, subst, lit<, arith}
use Rattle.std.proofs.lemmas.Int.{ints}
use Rattle.std.specs.Prelude.{◌≤ℤ◌}
use Rattle.whole_laws.specs.Sums.{IsWithin}
use Rattle.whole_laws.specs.SumLaws.{within_times}
use Rattle.row_weighing.proofs.Wide.{widened, product}

pub term_small : (a x p q : ℤ) → IsWithin (10 ^ 12) a → IsWithin (10 ^ 11) x → p ≡ to_z w64 (of_z w64 a) → q ≡ to_z w64 (of_z w64 x) → IsWithin (10 ^ 23) (to_z w128 (of_z w128 (to_z w128 (of_z w128 p) *ℤ to_z w128 (of_z w128 q))))
term_small a x p q h k e f =
    let pa = widened (10 ^ 12) a p h (lit< tt) e in
    let qx = widened (10 ^ 11) x q k (lit< tt) f in
    let ph : IsWithin (10 ^ 12) p = subst (IsWithin (10 ^ 12)) (sym pa) h in
    let qk : IsWithin (10 ^ 11) q = subst (IsWithin (10 ^ 11)) (sym qx) k in
    subst (IsWithin (10 ^ 23)) (sym (product p q (10 ^ 12) (10 ^ 11) ph qk (lit< tt) (lit< tt) (lit< tt))) (within_times (10 ^ 12) (10 ^ 11) p q ph qk)

pub value_added : (z : ℕ) (before here g sum after : ℤ) → z < 64 → sum ≡ before → IsWithin (10 ^ 23 * z) sum → g ≡ here → IsWithin (10 ^ 23) g → after ≡ before +ℤ here → (to_z w128 (of_z w128 (sum +ℤ to_z w128 (of_z w128 g))) ≡ after) × IsWithin (10 ^ 23 * (z + 1)) (to_z w128 (of_z w128 (sum +ℤ to_z w128 (of_z w128 g))))
value_added z before here g sum after l e m f h more = (omega (arith, ints), record { low = omega (arith, ints); high = omega (arith, ints) })

pub position_added : (z : ℕ) (before x sum after : ℤ) → z < 64 → sum ≡ before → IsWithin (10 ^ 11 * z) sum → IsWithin (10 ^ 11) x → after ≡ before +ℤ x → (to_z w64 (of_z w64 (sum +ℤ to_z w64 (of_z w64 x))) ≡ after) × IsWithin (10 ^ 11 * (z + 1)) (to_z w64 (of_z w64 (sum +ℤ to_z w64 (of_z w64 x))))
position_added z before x sum after l e m h more = (omega (arith, ints), record { low = omega (arith, ints); high = omega (arith, ints) })

pub between : (m : ℕ) (low x high : ℤ) → IsWithin m low → IsWithin m high → low ≤ℤ x → x ≤ℤ high → IsWithin m x
between m low x high p q h k = record { low = omega (arith, ints); high = omega (arith, ints) }

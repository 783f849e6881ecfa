-- How large the products of the ends of two spans are.
use Rattle.std.proofs.Common.{ℕ, ◌*◌, ℤ, arith}
use Rattle.std.proofs.lemmas.Int.{clamps}
use Rattle.whole_laws.specs.Ring.{linear}
use Rattle.whole_laws.specs.SumLaws.{within_times}
use Rattle.whole_laws.specs.Sums.{IsWithin}
use Rattle.fb_span.specs.Ends.{EndsWithin}
use Rattle.fb_span.specs.LeastSpans.{least_corner, greatest_corner}

pub corners_within : (m n : ℕ) (a b : ℤ × ℤ) → EndsWithin m a → EndsWithin n b → IsWithin (m * n) (least_corner a b) × IsWithin (m * n) (greatest_corner a b)
corners_within m n a b h k =
    let p = within_times m n a.0 b.0 h.low k.low in
    let q = within_times m n a.0 b.1 h.low k.high in
    let r = within_times m n a.1 b.0 h.high k.low in
    let s = within_times m n a.1 b.1 h.high k.high in (
      record { low = omega (arith, linear, clamps, p.low, q.low, r.low, s.low); high = omega (arith, linear, clamps, p.high, q.high, r.high, s.high) },
      record { low = omega (arith, linear, clamps, p.low, q.low, r.low, s.low); high = omega (arith, linear, clamps, p.high, q.high, r.high, s.high) },
    )

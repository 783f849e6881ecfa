-- The spread is at most twice as wide as the factors.
use Rattle.std.proofs.Common.{◌≡◌, ℤ, pos, ◌+ℤ◌, ◌-ℤ◌, ◌*ℤ◌, ◌≤ℤ◌, ◌<ℤ◌, List, [], ◌∷◌, map, All, arith}
use Rattle.std.specs.Int.{int_max, int_min}
use Rattle.std.specs.List.{fold}
use Rattle.std.proofs.lemmas.Int.{ints, clamps}
use Rattle.std.proofs.lemmas.List.Elements.{All-head, All-tail}
use Rattle.whole_laws.specs.Ring.{ring, linear, scale-≤}
use Rattle.fractions.specs.Spans.{low_end, high_end}
use Rattle.cnec_selection.specs.SpreadSpans.{greatest_whole, least_whole}
use Rattle.row_gaps.specs.Narrow.{IsNarrow}
use Rattle.row_gaps.specs.WidthLaws.{SpreadsAreNarrow}
use Rattle.row_gaps.proofs.Scaled.{below_greater, no_width}

module _ (unit most : ℤ) (n : pos 0 ≤ℤ unit) where
  greatest_narrow : (a b : ℤ) (ss : List (ℤ × ℤ)) → (unit *ℤ (b -ℤ a)) <ℤ most → All (IsNarrow unit most) ss
      → (unit *ℤ (fold int_max b (map high_end ss) -ℤ fold int_max a (map low_end ss))) <ℤ most
  greatest_narrow a b [] h k = h
  greatest_narrow a b (s ∷ ss) h k =
      greatest_narrow (int_max a s.0) (int_max b s.1) ss
      (below_greater unit most _ (b -ℤ a) (s.1 -ℤ s.0) n (omega (arith, linear, clamps)) h (All-head (IsNarrow unit most) s ss k))
      (All-tail (IsNarrow unit most) s ss k)

  least_narrow : (a b : ℤ) (ss : List (ℤ × ℤ)) → (unit *ℤ (b -ℤ a)) <ℤ most → All (IsNarrow unit most) ss
      → (unit *ℤ (fold int_min b (map high_end ss) -ℤ fold int_min a (map low_end ss))) <ℤ most
  least_narrow a b [] h k = h
  least_narrow a b (s ∷ ss) h k =
      least_narrow (int_min a s.0) (int_min b s.1) ss
      (below_greater unit most _ (b -ℤ a) (s.1 -ℤ s.0) n (omega (arith, linear, clamps)) h (All-head (IsNarrow unit most) s ss k))
      (All-tail (IsNarrow unit most) s ss k)

  -- the greatest ends less the least ones
  both : (g h k l : ℤ) → (unit *ℤ (h -ℤ g)) <ℤ most → (unit *ℤ (l -ℤ k)) <ℤ most
      → (unit *ℤ ((h -ℤ k) -ℤ int_max (g -ℤ l) (pos 0))) <ℤ (pos 2 *ℤ most)
  both g h k l x y =
      let s =
      scale-≤ unit ((h -ℤ k) -ℤ int_max (g -ℤ l) (pos 0)) ((h -ℤ g) +ℤ (l -ℤ k)) n (omega (arith, linear, clamps)) in
      let e : unit *ℤ ((h -ℤ g) +ℤ (l -ℤ k)) ≡ unit *ℤ (h -ℤ g) +ℤ unit *ℤ (l -ℤ k) = simp ring in
      let two : pos 2 *ℤ most ≡ most +ℤ most = omega (arith, ints) in
      omega (arith, linear, s, e, x, y, two)

pub spreads_are_narrow : SpreadsAreNarrow
spreads_are_narrow [] unit most n some h =
    both unit most n (pos 0) (pos 0) (pos 0) (pos 0) (no_width unit most (pos 0) some) (no_width unit most (pos 0) some)
spreads_are_narrow (s ∷ ss) unit most n some h =
    let first = All-head (IsNarrow unit most) s ss h in
    let rest = All-tail (IsNarrow unit most) s ss h in
    both unit most n (greatest_whole (map low_end (s ∷ ss))) (greatest_whole (map high_end (s ∷ ss)))
    (least_whole (map low_end (s ∷ ss))) (least_whole (map high_end (s ∷ ss)))
    (greatest_narrow unit most n s.0 s.1 ss first rest) (least_narrow unit most n s.0 s.1 ss first rest)

-- The search for the turn.
use mir.Syntax.{w64, w128}
use Rattle.std.proofs.Common.{◌≡◌, ℕ, ◌+◌, ◌*◌, ◌^◌, ◌<◌, ℤ, pos, ◌+ℤ◌, to_z, of_z, to_z-of_z, FitsSigned, List, length, subst, arith}
use lib.Signed.{le_z}
use Rattle.std.specs.Prelude.{false, IsTrue, ◌≤ℤ◌, ◌<ℤ◌}
use Rattle.std.proofs.lemmas.Int.{ints}
use borrow.Author.Count.{below_more}
use Rattle.whole_laws.specs.Sums.{at, IsWithin}
use Rattle.multiplier_search.specs.Found.{IsBox}
use Rattle.multiplier_search.specs.Corners.{fall, IsTurn}
use Rattle.multiplier_search.proofs.CornerLaws.{fall-falls, fall-end}
use Rattle.fb_types.specs.declared.rows.Bounds.{Bounds}

-- after the first i corners: something falls at `below`, nothing falls at `best`, and among the corners seen none with no fall is before it
pub record IsSeen (bounds : List Bounds) (corners : List ℤ) (behind best : ℤ) (i : ℕ) : Type 0 where
  pub corner : (z : ℕ) × (z < length bounds) × (best ≡ at corners z)
  pub still : fall bounds (at corners) best ≤ℤ pos 0
  pub falls : pos 0 <ℤ fall bounds (at corners) behind
  pub least : (z : ℕ) → z < i → fall bounds (at corners) (at corners z) ≤ℤ pos 0 → best ≤ℤ at corners z

abbrev Before : List Bounds → List ℤ → ℤ → ℕ → Type 0
Before bounds corners best z = fall bounds (at corners) (at corners z) ≤ℤ pos 0 → best ≤ℤ at corners z

pub begins : (bounds : List Bounds) (corners : List ℤ) (below best : ℤ) → IsBox bounds → (z : ℕ) × (z < length bounds) × (best ≡ at corners z) → ((z : ℕ) → z < length bounds → at corners z ≤ℤ best) → pos 0 <ℤ fall bounds (at corners) below → IsSeen bounds corners below best 0
begins bounds corners below best b c g f =
    record { corner = c; still = fall-end bounds (at corners) best b g; falls = f; least = λ z l h. absurd (omega arith) }

pub passed : (bounds : List Bounds) (corners : List ℤ) (below best a : ℤ) (i : ℕ) → IsBox bounds → a ≡ at corners i → a ≤ℤ below → IsSeen bounds corners below best i → IsSeen bounds corners below best (i + 1)
passed bounds corners below best a i b e p s =
    record {
      corner = s.corner;
      still = s.still;
      falls = s.falls;
      least = below_more (Before bounds corners best) i s.least (λ h. let f = fall-falls bounds (at corners) (at corners i) below b (subst (λ (t : ℤ). t ≤ℤ below) e p) in let g = s.falls in absurd (omega (arith, ints)));
    }

pub beyond : (bounds : List Bounds) (corners : List ℤ) (below best a : ℤ) (i : ℕ) → a ≡ at corners i → best ≤ℤ a → IsSeen bounds corners below best i → IsSeen bounds corners below best (i + 1)
beyond bounds corners below best a i e p s =
    record {
      corner = s.corner;
      still = s.still;
      falls = s.falls;
      least = below_more (Before bounds corners best) i s.least (λ h. subst (λ (t : ℤ). best ≤ℤ t) e p);
    }

pub better : (bounds : List Bounds) (corners : List ℤ) (below best a : ℤ) (i : ℕ) → i < length bounds → a ≡ at corners i → a ≤ℤ best → fall bounds (at corners) a ≤ℤ pos 0 → IsSeen bounds corners below best i → IsSeen bounds corners below a (i + 1)
better bounds corners below best a i l e p f s =
    record {
      corner = (i, l, e);
      still = f;
      falls = s.falls;
      least = below_more (Before bounds corners a) i (λ z m h. let k = s.least z m h in omega (arith, ints)) (λ h. omega (arith, ints));
    }

pub falls_there : (bounds : List Bounds) (corners : List ℤ) (below best a : ℤ) (i : ℕ) → a ≡ at corners i → pos 0 <ℤ fall bounds (at corners) a → IsSeen bounds corners below best i → IsSeen bounds corners a best (i + 1)
falls_there bounds corners below best a i e f s =
    record {
      corner = s.corner;
      still = s.still;
      falls = f;
      least = below_more (Before bounds corners best) i s.least (λ h. let g = subst (λ (t : ℤ). pos 0 <ℤ fall bounds (at corners) t) e f in absurd (omega (arith, ints)));
    }

-- one more term in a sum that is bounded term by term
pub fall_added : (z : ℕ) (before here g sum after : ℤ) → z < 64 → sum ≡ before → IsWithin (10 ^ 11 * z) sum → g ≡ here → IsWithin (10 ^ 11) g → after ≡ before +ℤ here → (to_z w64 (of_z w64 (sum +ℤ to_z w64 (of_z w64 g))) ≡ after) × IsWithin (10 ^ 11 * (z + 1)) (to_z w64 (of_z w64 (sum +ℤ to_z w64 (of_z w64 g))))
fall_added z before here g sum after l e m f h more = (omega (arith, ints), record { low = omega (arith, ints); high = omega (arith, ints) })

pub most_added : (z : ℕ) (before here g sum after : ℤ) → z < 64 → sum ≡ before → IsWithin (3 * 10 ^ 35 * z) sum → g ≡ here → IsWithin (3 * 10 ^ 35) g → after ≡ before +ℤ here → (to_z w128 (of_z w128 (sum +ℤ to_z w128 (of_z w128 g))) ≡ after) × IsWithin (3 * 10 ^ 35 * (z + 1)) (to_z w128 (of_z w128 (sum +ℤ to_z w128 (of_z w128 g))))
most_added z before here g sum after l e m f h more = (omega (arith, ints), record { low = omega (arith, ints); high = omega (arith, ints) })

pub ends : (bounds : List Bounds) (corners : List ℤ) (below best : ℤ) (i : ℕ) → i ≡ length bounds → IsSeen bounds corners below best i → IsTurn bounds (at corners) best
ends bounds corners below best i e s = record { corner = s.corner; still = s.still; least = λ z l. s.least z (omega arith) }

-- what the code's tests say
pub above : (r m : ℤ) → FitsSigned w64 r → r ≡ m → le_z (to_z w64 (of_z w64 r)) (pos 0) ≡ false → pos 0 <ℤ m
above r m f e h = grind (arith, ints, to_z-of_z)

pub not_above : (r m : ℤ) → FitsSigned w64 r → r ≡ m → IsTrue (le_z (to_z w64 (of_z w64 r)) (pos 0)) → m ≤ℤ pos 0
not_above r m f e h = grind (arith, ints, to_z-of_z)

pub refuted : (r room m n : ℤ) → FitsSigned w128 r → FitsSigned w128 room → r ≡ m → m ≤ℤ n → n ≤ℤ room → le_z (to_z w128 (of_z w128 r)) (to_z w128 (of_z w128 room)) ≡ false → ⊥
refuted r room m n f g e h k l = grind (arith, ints, to_z-of_z)

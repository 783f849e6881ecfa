-- The smallest of limits.
use Rattle.std.proofs.Common.{◌≡◌, ℕ, ◌+◌, ◌<◌, ℤ, List, length, get_or, drop, Option, Some, None, refl, sym, ap, ◌∙◌, arith}
use Rattle.std.proofs.lemmas.List.{at_drop_more}
use Rattle.std.proofs.lemmas.Int.{ints}
use Rattle.std.specs.Int.{int_min}
use Rattle.crac_model.specs.Thresholds.{smaller, smallest, directs, opposites}
use Rattle.crac_model.specs.declared.limits.Limits.{Limits}

int_min_assoc : (a b c : ℤ) → int_min (int_min a b) c ≡ int_min a (int_min b c)
int_min_assoc a b c = grind (arith, ints)

pub smaller_assoc : (a b c : Option ℤ) → smaller (smaller a b) c ≡ smaller a (smaller b c)
smaller_assoc None b c = refl
smaller_assoc (Some a) None c = refl
smaller_assoc (Some a) (Some b) None = refl
smaller_assoc (Some a) (Some b) (Some c) = ap (λ (z : ℤ). Some z) (int_min_assoc a b c)

-- ---- the smallest of those that are left

pub direct_step : (a new total : Option ℤ) (ts : List Limits) (i : ℕ) (d : Limits) → i < length ts → new ≡ smaller a (get_or ts i d).direct
    → smaller a (smallest (directs (drop i ts))) ≡ total → smaller new (smallest (directs (drop (i + 1) ts))) ≡ total
direct_step a new total ts i d lt e so_far =
    let here : smaller a (smallest (directs (drop i ts))) ≡ smaller a (smaller (get_or ts i d).direct (smallest (directs (drop (i + 1) ts)))) =
    at_drop_more (λ (xs : List Limits). smaller a (smallest (directs xs))) ts i d lt in
    rw e (smaller_assoc a (get_or ts i d).direct (smallest (directs (drop (i + 1) ts))) ∙ sym here ∙ so_far)

pub opposite_step : (a new total : Option ℤ) (ts : List Limits) (i : ℕ) (d : Limits) → i < length ts → new ≡ smaller a (get_or ts i d).opposite
    → smaller a (smallest (opposites (drop i ts))) ≡ total → smaller new (smallest (opposites (drop (i + 1) ts))) ≡ total
opposite_step a new total ts i d lt e so_far =
    let here : smaller a (smallest (opposites (drop i ts))) ≡ smaller a (smaller (get_or ts i d).opposite (smallest (opposites (drop (i + 1) ts)))) =
    at_drop_more (λ (xs : List Limits). smaller a (smallest (opposites xs))) ts i d lt in
    rw e (smaller_assoc a (get_or ts i d).opposite (smallest (opposites (drop (i + 1) ts))) ∙ sym here ∙ so_far)

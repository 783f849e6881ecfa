-- Reductions and grid states that are found by an index.
use Rattle.std.proofs.Common.{◌≡◌, ℕ, zero, suc, ◌+◌, ◌*◌, ◌<◌, ◌≤◌, Bool, true, false, cond, ◌&&◌, List, [], ◌∷◌, length, map, get_or, Option, Some, None, refl, sym, ap, subst, ◌∙◌, arith}
use Rattle.std.specs.Prelude.{◌==◌, slice_get, unwrap_or}
use Rattle.std.specs.Bool.{beq}
use Rattle.std.specs.List.{find, position_from}
use Rattle.std.specs.Option.{option_and_then}
use Rattle.std.proofs.lemmas.Bool.Decides.{nat_tests}
use Rattle.std.proofs.lemmas.List.{length-map}
use Rattle.std.proofs.lemmas.Option.{same_Some}
use Rattle.place_tables.specs.Places.{first_place, first_places}
use Rattle.place_tables.proofs.PlaceLaws.{find_by_place, get_or-first_places, length-first_places}
use Rattle.run_settings.specs.declared.reduction.Reduction.{Reduction}
use Rattle.fb_certificate.specs.CracRows.{state_number}
use Rattle.fb_certificate.specs.RowIndices.{key_of, reduction_key}

-- two elements in directions have the same key where they are the same
same_key : (e d : ℕ) (o p : Bool) → (key_of e o == key_of d p) ≡ ((e == d) && beq o p)
same_key e d true true = grind (arith, nat_tests)
same_key e d true false = grind (arith, nat_tests)
same_key e d false true = grind (arith, nat_tests)
same_key e d false false = grind (arith, nat_tests)

pub key_below : (e n : ℕ) (o : Bool) → e < n → key_of e o < 2 * n
key_below e n true l = omega arith
key_below e n false l = omega arith

-- the reduction of an element in a direction stands at the first place of its key
pub reduction_found : (reductions : List Reduction) (element : ℕ) (opposite : Bool)
    → find (λ (r : Reduction). (r.element == element) && beq r.opposite opposite) reductions ≡ option_and_then (slice_get reductions) (first_place (map reduction_key reductions) (key_of element opposite))
reduction_found reductions element opposite =
    (λ i. find (λ (r : Reduction). sym (same_key r.element element r.opposite opposite) i) reductions) ∙ find_by_place reduction_key reductions (key_of element opposite)

-- ---- what an entry of the table says

-- a place that is found is one of the list
place_within : (t : ℕ → Bool) (at : ℕ) (xs : List ℕ) (p : ℕ) → position_from t at xs ≡ Some p → p < at + length xs
place_within t at [] p e = absurd (cc)
place_within t at (x ∷ xs) p e = by_test (t x) e (place_within t (at + 1) xs p)
  where
    by_test : (b : Bool) → cond b (Some at) (position_from t (at + 1) xs) ≡ Some p → (position_from t (at + 1) xs ≡ Some p → p < at + 1 + length xs) → p < at + suc (length xs)
    by_test true e rest = let same = same_Some at p e in omega (arith, same)
    by_test false e rest = let l = rest e in omega (arith, l)

pub first_within : (numbers : List ℕ) (n p : ℕ) → first_place numbers n ≡ Some p → p < length numbers
first_within numbers n p e = let l = place_within (λ m. m == n) 0 numbers p e in omega (arith, l)

-- the entry of a number below the count
pub entry : (count : ℕ) (numbers : List ℕ) (items : List (Option ℕ)) (n : ℕ) (o : Option ℕ) → items ≡ first_places count numbers → n < count → o ≡ get_or items n o → first_place numbers n ≡ o
entry count numbers items n o are below read = sym (read ∙ (ap (λ (os : List (Option ℕ)). get_or os n o) are ∙ get_or-first_places count numbers n o below))

pub table_long : (count : ℕ) (numbers : List ℕ) (items : List (Option ℕ)) → items ≡ first_places count numbers → length items ≡ count
table_long count numbers items are = ap length are ∙ length-first_places count numbers

-- what stands at a place within the list
pub found_at : {A : Type 0} (xs : List A) (k : ℕ) (d : A) → k < length xs → slice_get xs k ≡ Some (get_or xs k d)
found_at [] k d l = absurd (omega arith)
found_at (x ∷ xs) zero d l = refl
found_at (x ∷ xs) (suc k) d l = found_at xs k d (omega arith)

-- ---- reductions

module _ (reductions : List Reduction) (element : ℕ) (opposite : Bool) where
  pub reduction_none : first_place (map reduction_key reductions) (key_of element opposite) ≡ None → None ≡ find (λ (r : Reduction). (r.element == element) && beq r.opposite opposite) reductions
  reduction_none e = sym (reduction_found reductions element opposite ∙ ap (option_and_then (slice_get reductions)) e)

  pub reduction_within : (p : ℕ) → first_place (map reduction_key reductions) (key_of element opposite) ≡ Some p → p < length reductions
  reduction_within p e = subst (λ (n : ℕ). p < n) (length-map reductions reduction_key) (first_within (map reduction_key reductions) (key_of element opposite) p e)

  pub reduction_some : (p : ℕ) (d : Reduction) (rs : List Reduction) → rs ≡ reductions → first_place (map reduction_key reductions) (key_of element opposite) ≡ Some p
      → Some (get_or rs p d) ≡ find (λ (r : Reduction). (r.element == element) && beq r.opposite opposite) reductions
  reduction_some p d rs same e =
      ap (λ (xs : List Reduction). Some (get_or xs p d)) same
      ∙ sym (reduction_found reductions element opposite ∙ (ap (option_and_then (slice_get reductions)) e ∙ found_at reductions p d (reduction_within p e)))

-- ---- states

pub state_some : (outages : List ℕ) (contingency : Option ℕ) (k p : ℕ) → contingency ≡ Some k → first_place outages k ≡ Some p → p + 1 ≡ state_number outages contingency
state_some outages contingency k p named found =
    let one : p + 1 ≡ suc p = omega arith in
    one ∙ sym (ap (state_number outages) named ∙ ap (λ (o : Option ℕ). suc (unwrap_or o 0)) found)

pub state_none : (outages : List ℕ) (contingency : Option ℕ) (k : ℕ) → contingency ≡ Some k → first_place outages k ≡ None → 1 ≡ state_number outages contingency
state_none outages contingency k named found = sym (ap (state_number outages) named ∙ ap (λ (o : Option ℕ). suc (unwrap_or o 0)) found)

-- Multipliers over a list prove from its rows what they prove, renumbered, from the rows of the table.
use Rattle.std.proofs.Common.{◌≡◌, ℕ, zero, suc, ◌+◌, ◌-◌, ◌^◌, ◌<◌, ℤ, pos, ◌+ℤ◌, ◌-ℤ◌, ◌*ℤ◌, true, List, [], ◌∷◌, length, get_or, map, refl, sym, ap, ◌∙◌, subst, inl, inr, arith}
use Rattle.std.specs.Prelude.{◌≤ℤ◌, Option, Some, All, AllPairs, slice_get}
use Rattle.std.specs.Option.{option_map}
use Rattle.std.specs.List.{AllAdjacentBelow}
use Rattle.std.proofs.lemmas.Bool.{cases_order}
use Rattle.std.proofs.lemmas.List.{length-map, get_or-map}
use Rattle.std.proofs.lemmas.List.Elements.{All-get_or, All-head, All-tail, All-map, All-weaker}
use Rattle.std.proofs.lemmas.Option.{slice_get-map, slice_get-get_or}
use Rattle.whole_laws.specs.Sums.{sum_over, at}
use Rattle.whole_laws.specs.SumLaws.{sum_below-same}
use Rattle.fb_types.specs.Domain.{Follows, IsRow, side_of, coefficient_of, row_at, greatest, greatest_rest}
use Rattle.fb_types.specs.declared.rows.Bounds.{Bounds}
use Rattle.fb_types.specs.declared.rows.Half.{Half}
use Rattle.fb_types.specs.declared.rows.Mult.{Mult}
use Rattle.fb_types.specs.declared.rows.Multipliers.{Multipliers}
use Rattle.cnec_rows.specs.declared.types.RowProof.{RowProof}
use Rattle.fb_certificate.specs.Lists.{ListKind, numbered, is_listed}
use Rattle.row_removal.specs.Renumbered.{numbered_half, table_number, renumbered_mult, renumbered, IsNumber, CitesNumbers}
use Rattle.row_removal.proofs.Listing.{IsListing, listed_row, numbered_within}

-- ---- Numbers

-- the numbers of two rows of the list are in the order of the rows
pub numbers_rise : (numbers : List ℕ) → AllPairs (λ m n. m < n) numbers → (m n : ℕ) → IsNumber (length numbers) m → IsNumber (length numbers) n → m < n → table_number numbers m < table_number numbers n
numbers_rise numbers rising m n a b l = rising (m - 1) (n - 1) 0 (omega (arith, a.above)) (omega (arith, b.above, b.within))

pub numbers_order : (numbers : List ℕ) → AllPairs (λ m n. m < n) numbers → (m n : ℕ) → IsNumber (length numbers) m → IsNumber (length numbers) n → table_number numbers m < table_number numbers n → m < n
numbers_order numbers rising m n a b l =
    elim (cases_order m n) [
      | inl e ↦ (let same : table_number numbers m ≡ table_number numbers n = ap (table_number numbers) e in omega arith)
      | inr apart ↦ elim apart [
        | inl below ↦ below
        | inr above ↦ (let back = numbers_rise numbers rising n m b a above in omega arith)
      ]
    ]

pub places_same : (numbers : List ℕ) → AllPairs (λ m n. m < n) numbers → (i j : ℕ) → i < length numbers → j < length numbers → get_or numbers i 0 ≡ get_or numbers j 0 → i ≡ j
places_same numbers rising i j a b e =
    elim (cases_order i j) [
      | inl same ↦ same
      | inr apart ↦ elim apart [
        | inl below ↦ (let up = rising i j 0 below b in omega arith)
        | inr above ↦ (let down = rising j i 0 above a in omega arith)
      ]
    ]

-- ---- Rows

one_less : (n : ℕ) → suc n - 1 ≡ n
one_less n = omega arith

table_row : (kind : ListKind) (rows : List RowProof) (number : ℕ) (row : RowProof) → numbered rows number ≡ Some row → row_at (map kind.half rows) number ≡ Some (kind.half row)
table_row kind rows zero row e = absurd cc
table_row kind rows (suc n) row e = ap (slice_get (map kind.half rows)) (one_less n) ∙ slice_get-map kind.half rows n ∙ ap (option_map kind.half) e

pub has_half : (kind : ListKind) (rows : List RowProof) (number : ℕ) (row : RowProof) → numbered rows number ≡ Some row → numbered_half kind rows number ≡ kind.half row
has_half kind rows number row e = rw e refl

list_row : (kind : ListKind) (rows : List RowProof) (numbers : List ℕ) (number : ℕ) → IsNumber (length numbers) number → row_at (map (numbered_half kind rows) numbers) number ≡ Some (numbered_half kind rows (table_number numbers number))
list_row kind rows numbers number i =
    slice_get-map (numbered_half kind rows) numbers (number - 1) ∙ ap (option_map (numbered_half kind rows)) (slice_get-get_or numbers (number - 1) 0 (omega (arith, i.above, i.within)))

module _ (kind : ListKind) (rows : List RowProof) (numbers : List ℕ) (listing : IsListing kind rows numbers) where
  number_listed : (number : ℕ) → IsNumber (length numbers) number → is_listed kind rows (table_number numbers number) ≡ true
  number_listed number i = All-get_or (λ (n : ℕ). is_listed kind rows n ≡ true) numbers (number - 1) 0 (omega (arith, i.above, i.within)) listing.listed

  -- a row of the list is the row of the table with its number
  same_row : (number : ℕ) → IsNumber (length numbers) number → row_at (map (numbered_half kind rows) numbers) number ≡ row_at (map kind.half rows) (table_number numbers number)
  same_row number i =
      let found = listed_row kind rows (table_number numbers number) (number_listed number i) in
      list_row kind rows numbers number i ∙ ap Some (has_half kind rows (table_number numbers number) found.0 found.1) ∙ sym (table_row kind rows (table_number numbers number) found.0 found.1)

  -- ---- Sums

  same_sums : (value : Option Half → ℤ) (mults : List Mult) → CitesNumbers (length numbers) mults → sum_over (λ m. m.value *ℤ value (row_at (map (numbered_half kind rows) numbers) m.row)) mults ≡ sum_over (λ m. m.value *ℤ value (row_at (map kind.half rows) m.row)) (map (renumbered_mult numbers) mults)
  same_sums value [] c = refl
  same_sums value (m ∷ ms) c =
      let P = λ (n : Mult). IsNumber (length numbers) n.row in
      let first = same_row m.row (All-head P m ms c) in
      let rest = same_sums value ms (All-tail P m ms c) in
      ap (λ (o : Option Half). (m.value *ℤ value o) +ℤ sum_over (λ (n : Mult). n.value *ℤ value (row_at (map (numbered_half kind rows) numbers) n.row)) ms) first
      ∙ ap (λ (s : ℤ). (m.value *ℤ value (row_at (map kind.half rows) (table_number numbers m.row))) +ℤ s) rest

  same_total : (mults : List Mult) → sum_over (λ m. m.value) mults ≡ sum_over (λ m. m.value) (map (renumbered_mult numbers) mults)
  same_total [] = refl
  same_total (m ∷ ms) = ap (λ (s : ℤ). m.value +ℤ s) (same_total ms)

  same_rest : (target : Half) (by : Multipliers) (bounds : List Bounds) (n : ℕ) → CitesNumbers (length numbers) by.mults → greatest_rest target (map (numbered_half kind rows) numbers) by bounds n ≡ greatest_rest target (map kind.half rows) (renumbered numbers by) bounds n
  same_rest target by bounds n c =
      sum_below-same n _ _ (λ z l. ap (λ (s : ℤ). greatest (slice_get bounds z) (pos (10 ^ 9) *ℤ at target.a z -ℤ s -ℤ by.mu)) (same_sums (λ o. coefficient_of o z) by.mults c))

  -- ---- Order

  rising_in_table : (mults : List Mult) → CitesNumbers (length numbers) mults → AllAdjacentBelow (λ m n. m.row < n.row) mults (length mults) → AllAdjacentBelow (λ m n. m.row < n.row) (map (renumbered_mult numbers) mults) (length (map (renumbered_mult numbers) mults))
  rising_in_table mults c r k d l =
      let inside : k + 1 < length mults = omega (arith, l, length-map mults (renumbered_mult numbers)) in
      let first : get_or (map (renumbered_mult numbers) mults) k d ≡ renumbered_mult numbers (get_or mults k d) = get_or-map (renumbered_mult numbers) mults k d d (omega arith) in
      let second : get_or (map (renumbered_mult numbers) mults) (k + 1) d ≡ renumbered_mult numbers (get_or mults (k + 1) d) = get_or-map (renumbered_mult numbers) mults (k + 1) d d inside in
      rw (first, second) (numbers_rise numbers listing.rising (get_or mults k d).row (get_or mults (k + 1) d).row (c k d (omega arith)) (c (k + 1) d inside) (r k d inside))

  rising_in_list : (mults : List Mult) → CitesNumbers (length numbers) mults → AllAdjacentBelow (λ m n. m.row < n.row) (map (renumbered_mult numbers) mults) (length (map (renumbered_mult numbers) mults)) → AllAdjacentBelow (λ m n. m.row < n.row) mults (length mults)
  rising_in_list mults c r k d inside =
      let first : get_or (map (renumbered_mult numbers) mults) k d ≡ renumbered_mult numbers (get_or mults k d) = get_or-map (renumbered_mult numbers) mults k d d (omega arith) in
      let second : get_or (map (renumbered_mult numbers) mults) (k + 1) d ≡ renumbered_mult numbers (get_or mults (k + 1) d) = get_or-map (renumbered_mult numbers) mults (k + 1) d d inside in
      let rises : (get_or (map (renumbered_mult numbers) mults) k d).row < (get_or (map (renumbered_mult numbers) mults) (k + 1) d).row = r k d (omega (arith, length-map mults (renumbered_mult numbers))) in
      numbers_order numbers listing.rising (get_or mults k d).row (get_or mults (k + 1) d).row (c k d (omega arith)) (c (k + 1) d inside) (rw (first, second) at rises)

  -- ---- Follows

  pub cites_numbers : (mults : List Mult) → All (λ m. IsRow (map (numbered_half kind rows) numbers) m.row) mults → CitesNumbers (length numbers) mults
  cites_numbers mults cited =
      All-weaker (λ (m : Mult). IsRow (map (numbered_half kind rows) numbers) m.row) (λ (m : Mult). IsNumber (length numbers) m.row) (λ m i. record { above = i.above; within = omega (arith, i.within, length-map numbers (numbered_half kind rows)) }) mults cited

  number_is_row : (number : ℕ) → IsNumber (length numbers) number → IsRow (map kind.half rows) (table_number numbers number)
  number_is_row number i =
      let found = listed_row kind rows (table_number numbers number) (number_listed number i) in
      let within = numbered_within rows (table_number numbers number) found.0 found.1 in
      record { above = within.0; within = omega (arith, within.1, length-map rows kind.half) }

  pub follows_in_table : (target : Half) (by : Multipliers) (bounds : List Bounds) → Follows target (map (numbered_half kind rows) numbers) by bounds → Follows target (map kind.half rows) (renumbered numbers by) bounds
  follows_in_table target by bounds f =
      let c = cites_numbers by.mults f.cited in
      record {
        cited = All-map (λ (m : Mult). IsRow (map kind.half rows) m.row) (renumbered_mult numbers) by.mults (λ k d l. number_is_row (get_or by.mults k d).row (c k d l));
        rising = rising_in_table by.mults c f.rising;
        nonnegative = All-map (λ (m : Mult). pos 0 ≤ℤ m.value) (renumbered_mult numbers) by.mults f.nonnegative;
        total = subst (λ (s : ℤ). s ≤ℤ pos (10 ^ 12)) (same_total by.mults) f.total;
        balance = f.balance;
        covers = rw (← same_sums side_of by.mults c, ← same_rest target by bounds (length bounds) c) f.covers;
      }

  pub follows_in_list : (target : Half) (by : Multipliers) (bounds : List Bounds) → CitesNumbers (length numbers) by.mults → Follows target (map kind.half rows) (renumbered numbers by) bounds → Follows target (map (numbered_half kind rows) numbers) by bounds
  follows_in_list target by bounds c f =
      record {
        cited = λ k d l. let i = c k d l in record { above = i.above; within = omega (arith, i.within, length-map numbers (numbered_half kind rows)) };
        rising = rising_in_list by.mults c f.rising;
        nonnegative = λ k d l. (
            let up : pos 0 ≤ℤ (get_or (map (renumbered_mult numbers) by.mults) k d).value = f.nonnegative k d (omega (arith, length-map by.mults (renumbered_mult numbers))) in
            rw (get_or-map (renumbered_mult numbers) by.mults k d d l) at up
            );
        total = subst (λ (s : ℤ). s ≤ℤ pos (10 ^ 12)) (sym (same_total by.mults)) f.total;
        balance = f.balance;
        covers = rw (same_sums side_of by.mults c, same_rest target by bounds (length bounds) c) f.covers;
      }

-- The numbers of the rows that stand in a list.
use Rattle.std.proofs.Common.{◌≡◌, ℕ, zero, suc, ◌+◌, ◌<◌, ◌≤◌, Bool, true, false, cond, List, [], ◌∷◌, ◌++◌, length, get_or, take, map, refl, sym, ap, ◌∙◌, subst, inl, inr, arith, add-one, append-nil, length-append}
use Rattle.std.specs.Prelude.{Option, Some, None, All, AllPairs, Contains, filter, slice_get}
use Rattle.std.specs.Option.{option_map_or}
use Rattle.std.proofs.lemmas.Bool.{false≢true, cases_lt}
use Rattle.std.proofs.lemmas.List.{take_all, map_push}
use Rattle.std.proofs.lemmas.List.Elements.{All-nil, All-push, All-weaker, Contains-append_left, Contains-push}
use Rattle.std.proofs.lemmas.List.Filters.{length-filter_more}
use Rattle.std.proofs.lemmas.List.Quantifiers.{all_pairs_push}
use Rattle.std.proofs.lemmas.Option.{slice_get_within, get_or_from_slice_get}
use Rattle.cnec_rows.specs.declared.types.RowProof.{RowProof}
use Rattle.fb_types.specs.declared.rows.Half.{Half}
use Rattle.fb_certificate.specs.Lists.{ListKind, numbered, is_listed}
use Rattle.fb_certificate.specs.Thin.{listed_count}
use Rattle.row_removal.specs.Renumbered.{listed_numbers, numbered_half}

-- the row with a number that stands in the list
pub listed_row : (kind : ListKind) (rows : List RowProof) (number : ℕ) → is_listed kind rows number ≡ true → (row : RowProof) × (numbered rows number ≡ Some row) × (kind.holds row.class ≡ true)
listed_row kind rows number h =
    elim (numbered rows number) as (λ (o : Option RowProof). option_map_or (λ (row : RowProof). kind.holds row.class) o false ≡ true → (row : RowProof) × (o ≡ Some row) × (kind.holds row.class ≡ true)) [
      | None ↦ λ e. absurd (false≢true e)
      | Some row ↦ λ e. (row, refl, e)
    ] h

pub numbered_within : (rows : List RowProof) (number : ℕ) (row : RowProof) → numbered rows number ≡ Some row → (1 ≤ number) × (number ≤ length rows)
numbered_within rows zero row e = absurd cc
numbered_within rows (suc n) row e = let within = slice_get_within rows n row e in (omega arith, omega arith)

-- one more row is looked at
pub skips_row : (kind : ListKind) (rows : List RowProof) (i : ℕ) (row : RowProof) → slice_get rows i ≡ Some row → kind.holds row.class ≡ false → listed_numbers kind rows (i + 1) ≡ listed_numbers kind rows i
skips_row kind rows i row here skipped = rw (add-one, here, skipped) (append-nil (listed_numbers kind rows i))

pub takes_row : (kind : ListKind) (rows : List RowProof) (i : ℕ) (row : RowProof) → slice_get rows i ≡ Some row → kind.holds row.class ≡ true → listed_numbers kind rows (i + 1) ≡ listed_numbers kind rows i ++ (i + 1) ∷ []
takes_row kind rows i row here taken = rw (add-one, here, taken) refl

pub takes_half : (kind : ListKind) (rows : List RowProof) (i : ℕ) (row : RowProof) (half : Half) (halves : List Half) (numbers : List ℕ) → slice_get rows i ≡ Some row → half ≡ kind.half row → halves ≡ map (numbered_half kind rows) numbers → halves ++ half ∷ [] ≡ map (numbered_half kind rows) (numbers ++ (i + 1) ∷ [])
takes_half kind rows i row half halves numbers here is_half so_far =
    let last : numbered_half kind rows (i + 1) ≡ half = rw (add-one, here) (sym is_half) in
    cc (so_far, last, map_push (numbered_half kind rows) numbers (i + 1))

-- what holds of the numbers
pub record IsListing (kind : ListKind) (rows : List RowProof) (numbers : List ℕ) : Type 0 where
  pub listed : All (λ number. is_listed kind rows number ≡ true) numbers
  pub rising : AllPairs (λ m n. m < n) numbers
  pub complete : (number : ℕ) → is_listed kind rows number ≡ true → Contains numbers number
  pub count : length numbers ≡ listed_count kind rows

past_end : {X : Type 0} (xs : List X) (n : ℕ) → slice_get xs n ≡ None → length xs ≤ n
past_end [] n e = omega arith
past_end (x ∷ xs) zero e = absurd cc
past_end (x ∷ xs) (suc n) e = let rest = past_end xs n e in omega arith

module _ (kind : ListKind) (rows : List RowProof) where
  -- a fact that passes from numbers to these and one more, where that is listed
  step : (P : List ℕ → Type 0) (numbers : List ℕ) (n : ℕ) (b : Bool) → (b ≡ false → P numbers) → (b ≡ true → P (numbers ++ suc n ∷ [])) → P (numbers ++ cond b (suc n ∷ []) [])
  step P numbers n true skip take = take refl
  step P numbers n false skip take = subst P (sym (append-nil numbers)) (skip refl)

  are_listed : (n : ℕ) → All (λ number. is_listed kind rows number ≡ true) (listed_numbers kind rows n)
  are_listed zero = All-nil (λ (number : ℕ). is_listed kind rows number ≡ true)
  are_listed (suc n) =
      step (All (λ (number : ℕ). is_listed kind rows number ≡ true)) (listed_numbers kind rows n) n (is_listed kind rows (suc n)) (λ e. are_listed n) (λ e. All-push (λ (number : ℕ). is_listed kind rows number ≡ true) (listed_numbers kind rows n) (suc n) (are_listed n) e)

  are_up_to : (n : ℕ) → All (λ number. number ≤ n) (listed_numbers kind rows n)
  are_up_to zero = All-nil (λ (number : ℕ). number ≤ 0)
  are_up_to (suc n) =
      let before : All (λ (number : ℕ). number ≤ suc n) (listed_numbers kind rows n) = All-weaker (λ (number : ℕ). number ≤ n) (λ (number : ℕ). number ≤ suc n) (λ number h. omega arith) (listed_numbers kind rows n) (are_up_to n) in
      step (All (λ (number : ℕ). number ≤ suc n)) (listed_numbers kind rows n) n (is_listed kind rows (suc n)) (λ e. before) (λ e. All-push (λ (number : ℕ). number ≤ suc n) (listed_numbers kind rows n) (suc n) before (omega arith))

  are_rising : (n : ℕ) → AllPairs (λ a b. a < b) (listed_numbers kind rows n)
  are_rising zero = λ i j d l h. omega arith
  are_rising (suc n) =
      step (AllPairs (λ (a : ℕ) (b : ℕ). a < b)) (listed_numbers kind rows n) n (is_listed kind rows (suc n)) (λ e. are_rising n) (λ e. all_pairs_push (λ (a : ℕ) (b : ℕ). a < b) (listed_numbers kind rows n) (suc n) (are_rising n) (λ k d l. let low = are_up_to n k d l in omega arith))

  are_complete : (n number : ℕ) → number ≤ n → is_listed kind rows number ≡ true → Contains (listed_numbers kind rows n) number
  are_complete zero zero l h = absurd (false≢true h)
  are_complete zero (suc m) l h = absurd (omega arith)
  are_complete (suc n) number l h =
      elim (cases_lt n number) [
        | inl above ↦ (
            let last : number ≡ suc n = omega arith in
            step (λ (numbers : List ℕ). Contains numbers number) (listed_numbers kind rows n) n (is_listed kind rows (suc n)) (λ e. absurd (false≢true (sym e ∙ ap (is_listed kind rows) (sym last) ∙ h))) (λ e. subst (λ (m : ℕ). Contains (listed_numbers kind rows n ++ m ∷ []) number) last (Contains-push (listed_numbers kind rows n) number))
            )
        | inr below ↦ Contains-append_left (listed_numbers kind rows n) (cond (is_listed kind rows (suc n)) (suc n ∷ []) []) number (are_complete n number below h)
      ]

  counted : (b : Bool) (numbers : List ℕ) (n : ℕ) → length (numbers ++ cond b (suc n ∷ []) []) ≡ length numbers + cond b 1 0
  counted true numbers n = length-append numbers (suc n ∷ [])
  counted false numbers n = length-append numbers []

  counts_more : (n : ℕ) (o : Option RowProof) → n < length rows → slice_get rows n ≡ o → length (filter (λ (row : RowProof). kind.holds row.class) (take n rows)) + cond (option_map_or (λ (row : RowProof). kind.holds row.class) o false) 1 0 ≡ length (filter (λ (row : RowProof). kind.holds row.class) (take (suc n) rows))
  counts_more n None l e = let past : length rows ≤ n = past_end rows n e in absurd (omega arith)
  counts_more n (Some row) l e =
      let same : get_or rows n row ≡ row = get_or_from_slice_get rows n row row e in
      let more = length-filter_more (λ (row : RowProof). kind.holds row.class) rows n row l in
      sym (rw same at (rw add-one at more))

  are_counted : (n : ℕ) → n ≤ length rows → length (listed_numbers kind rows n) ≡ length (filter (λ (row : RowProof). kind.holds row.class) (take n rows))
  are_counted zero l = refl
  are_counted (suc n) l =
      let inside : n < length rows = omega arith in
      let before : length (listed_numbers kind rows n) ≡ length (filter (λ (row : RowProof). kind.holds row.class) (take n rows)) = are_counted n (omega arith) in
      counted (is_listed kind rows (suc n)) (listed_numbers kind rows n) n
      ∙ ap (λ (m : ℕ). m + cond (is_listed kind rows (suc n)) 1 0) before
      ∙ counts_more n (slice_get rows n) inside refl

pub are_listing : (kind : ListKind) (rows : List RowProof) → IsListing kind rows (listed_numbers kind rows (length rows))
are_listing kind rows = record {
  listed = are_listed kind rows (length rows);
  rising = are_rising kind rows (length rows);
  complete = λ number h. let found = listed_row kind rows number h in are_complete kind rows (length rows) number (numbered_within rows number found.0 found.1).1 h;
  count = are_counted kind rows (length rows) (omega arith) ∙ ap (λ (xs : List RowProof). length (filter (λ (row : RowProof). kind.holds row.class) xs)) (take_all (length rows) rows (omega arith));
}

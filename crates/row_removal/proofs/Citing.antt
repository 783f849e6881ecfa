-- The cites of the rows that are removed from a list.
use Rattle.std.proofs.Common.{◌≡◌, ◌≢◌, ℕ, zero, suc, ◌+◌, ◌-◌, ◌<◌, ◌≤◌, true, false, not, ◌==◌, List, [], ◌∷◌, ◌++◌, length, get_or, map, refl, sym, ap, ◌∙◌, inl, inr, arith, add-one, append-nil}
use Rattle.std.specs.Prelude.{◌⊎◌, Option, Some, None, All, AllPairs, Contains, slice_get, slice_index}
use Rattle.std.specs.List.{AllAdjacentBelow}
use Rattle.std.proofs.lemmas.Bool.{false≢true, not-true, not_from_false, and_parts, and_from, ne_eqb, eq-eqb, cases_lt}
use Rattle.std.proofs.lemmas.List.{length-map, get_or-map, get_or_default}
use Rattle.std.proofs.lemmas.List.Elements.{All-nil, All-cons, All-append, All-get_or, All-contains, Contains-append_left, Contains-append_right}
use Rattle.std.proofs.lemmas.List.Folds.{list_any_none, list_any_at}
use Rattle.std.proofs.lemmas.List.Quantifiers.{all_pairs_push}
use Rattle.std.proofs.lemmas.Option.{slice_get-get_or}
use Rattle.fb_types.specs.declared.rows.Mult.{Mult}
use Rattle.fb_types.specs.declared.rows.Multipliers.{Multipliers}
use Rattle.fb_types.specs.declared.rows.Fate.{Fate}
use Rattle.fb_types.specs.declared.rows.Fate.TheVariants.{Kept, Removed}
use Rattle.redundancy.specs.Thinned.{IsKeptRow, IsClear, IsUncited as IsUncitedInList}
use Rattle.cnec_rows.specs.declared.types.RowProof.{RowProof}
use Rattle.fb_certificate.specs.Lists.{ListKind, is_listed, is_removed, is_kept}
use Rattle.fb_certificate.specs.Thin.{IsKept, IsUncited}
use Rattle.fb_certificate.specs.declared.types.Cite.{Cite}
use Rattle.row_removal.specs.Renumbered.{renumbered_mult, renumbered, cites_at, cites_below}
use Rattle.row_removal.proofs.Listing.{IsListing}
use Rattle.row_removal.proofs.Renumbering.{places_same}

-- the cite of the row at a place of the list, which these multipliers prove
abbrev pub cite_at : List ℕ → ℕ → Multipliers → Cite
cite_at numbers k by = record { row = slice_index numbers k; by = renumbered numbers by }

-- ---- One more row

pub keeps_more : (numbers : List ℕ) (fates : List Fate) (k : ℕ) → slice_get fates k ≡ Some Kept → cites_below numbers fates (k + 1) ≡ cites_below numbers fates k
keeps_more numbers fates k here = rw (add-one, here) (append-nil (cites_below numbers fates k))

pub removes_more : (numbers : List ℕ) (fates : List Fate) (k : ℕ) (by : Multipliers) → slice_get fates k ≡ Some (Removed by) → cites_below numbers fates (k + 1) ≡ cites_below numbers fates k ++ cite_at numbers k by ∷ []
removes_more numbers fates k by here = rw (add-one, here) refl

module _ (numbers : List ℕ) (fates : List Fate) where
  -- ---- What holds of each cite, and which there are

  one_holds : (P : Cite → Type 0) (k : ℕ) (o : Option Fate) → ((by : Multipliers) → o ≡ Some (Removed by) → P (cite_at numbers k by)) → All P (cites_at numbers k o)
  one_holds P k None h = All-nil P
  one_holds P k (Some Kept) h = All-nil P
  one_holds P k (Some (Removed by)) h = All-cons P (cite_at numbers k by) [] (h by refl) (All-nil P)

  pub each_holds : (P : Cite → Type 0) (n : ℕ) → ((k : ℕ) (by : Multipliers) → k < n → slice_get fates k ≡ Some (Removed by) → P (cite_at numbers k by)) → All P (cites_below numbers fates n)
  each_holds P zero h = All-nil P
  each_holds P (suc n) h =
      All-append P (cites_below numbers fates n) (cites_at numbers n (slice_get fates n)) (each_holds P n (λ k by l e. h k by (omega arith) e)) (one_holds P n (slice_get fates n) (λ by e. h n by (omega arith) e))

  pub is_there : (n k : ℕ) (by : Multipliers) → k < n → slice_get fates k ≡ Some (Removed by) → Contains (cites_below numbers fates n) (cite_at numbers k by)
  is_there zero k by l e = absurd (omega arith)
  is_there (suc n) k by l e =
      elim (cases_lt k n) [
        | inl before ↦ Contains-append_left (cites_below numbers fates n) (cites_at numbers n (slice_get fates n)) (cite_at numbers k by) (is_there n k by before e)
        | inr last ↦ (
            let same : k ≡ n = omega arith in
            let here : cites_at numbers n (slice_get fates n) ≡ cite_at numbers k by ∷ [] = rw (← same, e) refl in
            Contains-append_right (cites_below numbers fates n) (cites_at numbers n (slice_get fates n)) (cite_at numbers k by) (rw here (0, omega arith, refl))
            )
      ]

  -- ---- Order

  module _ (rising : AllPairs (λ m n. m < n) numbers) where
    one_rises : (n : ℕ) (o : Option Fate) → All (λ c. c.row < slice_index numbers n) (cites_below numbers fates n) → AllPairs (λ c d. c.row < d.row) (cites_below numbers fates n) → AllPairs (λ c d. c.row < d.row) (cites_below numbers fates n ++ cites_at numbers n o)
    one_rises n None low h = rw append-nil h
    one_rises n (Some Kept) low h = rw append-nil h
    one_rises n (Some (Removed by)) low h = all_pairs_push (λ (c : Cite) (d : Cite). c.row < d.row) (cites_below numbers fates n) (cite_at numbers n by) h low

    each_rises : (n : ℕ) → n ≤ length numbers → AllPairs (λ c d. c.row < d.row) (cites_below numbers fates n)
    each_rises zero l = λ i j d below inside. absurd (omega arith)
    each_rises (suc n) l = one_rises n (slice_get fates n) (each_holds (λ (c : Cite). c.row < slice_index numbers n) n (λ k by below e. rising k n 0 below (omega arith))) (each_rises n (omega arith))

    pub cites_rise : (n : ℕ) → n ≤ length numbers → AllAdjacentBelow (λ c d. c.row < d.row) (cites_below numbers fates n) (length (cites_below numbers fates n))
    cites_rise n l k d inside = each_rises n l k (k + 1) d (omega arith) inside

-- ---- Kept

kept_or_removed : (fate : Fate) → (fate ≡ Kept) ⊎ ((by : Multipliers) × (fate ≡ Removed by))
kept_or_removed Kept = inl refl
kept_or_removed (Removed by) = inr (by, refl)

module _ (kind : ListKind) (rows : List RowProof) (numbers : List ℕ) (fates : List Fate) (listing : IsListing kind rows numbers) (each : length fates ≡ length numbers) where
  not_removed : (k : ℕ) → k < length numbers → IsKeptRow fates k → is_removed (cites_below numbers fates (length fates)) (get_or numbers k 0) ≡ false
  not_removed k l kept =
      let P = λ (c : Cite). (c.row == get_or numbers k 0) ≡ false in
      list_any_none (λ (c : Cite). c.row == get_or numbers k 0) (cites_below numbers fates (length fates)) (each_holds numbers fates P (length fates) (λ j by inside gone. ne_eqb (get_or numbers j 0) (get_or numbers k 0) (λ same. let here : j ≡ k = places_same numbers listing.rising j k (omega arith) l same in let both : Some (Removed by) ≡ Some Kept = sym gone ∙ ap (slice_get fates) here ∙ kept in cc)))

  pub kept_in_table : (k : ℕ) → k < length numbers → IsKeptRow fates k → IsKept kind rows (cites_below numbers fates (length fates)) (get_or numbers k 0)
  kept_in_table k l kept =
      and_from (is_listed kind rows (get_or numbers k 0)) (not (is_removed (cites_below numbers fates (length fates)) (get_or numbers k 0))) (All-get_or (λ (n : ℕ). is_listed kind rows n ≡ true) numbers k 0 l listing.listed) (not_from_false (is_removed (cites_below numbers fates (length fates)) (get_or numbers k 0)) (not_removed k l kept))

  -- a removed row is cited
  is_cited : (k : ℕ) (by : Multipliers) → k < length fates → slice_get fates k ≡ Some (Removed by) → is_removed (cites_below numbers fates (length fates)) (get_or numbers k 0) ≡ true
  is_cited k by l gone =
      let found = is_there numbers fates (length fates) k by l gone in
      list_any_at (λ (c : Cite). c.row == get_or numbers k 0) (cites_below numbers fates (length fates)) found.0 (cite_at numbers k by) found.1 (rw found.2 (eq-eqb (get_or numbers k 0) (get_or numbers k 0) refl))

  -- the place in the list of a row that is kept
  pub kept_in_list : (number : ℕ) → IsKept kind rows (cites_below numbers fates (length fates)) number → (k : ℕ) × (k < length numbers) × (get_or numbers k 0 ≡ number) × IsKeptRow fates k
  kept_in_list number kept =
      let cites = cites_below numbers fates (length fates) in
      let parts = and_parts (is_listed kind rows number) (not (is_removed cites number)) kept in
      let found = listing.complete number parts.0 in
      let k = found.0 in
      let inside : k < length fates = omega (arith, each, found.1) in
      let same : get_or numbers k 0 ≡ number = get_or_default numbers k 0 number found.1 ∙ found.2 in
      let fate = get_or fates k Kept in
      let here : slice_get fates k ≡ Some fate = slice_get-get_or fates k Kept inside in
      elim (kept_or_removed fate) [
        | inl is_kept ↦ (k, found.1, same, here ∙ ap Some is_kept)
        | inr gone ↦ absurd (false≢true (sym (not-true (is_removed cites number) parts.1) ∙ ap (is_removed cites) (sym same) ∙ is_cited k gone.0 inside (here ∙ ap Some gone.1)))
      ]

  -- ---- Uncited

  clear_fate : (k j : ℕ) → k < length numbers → j < length fates → IsUncited (cites_below numbers fates (length fates)) (get_or numbers k 0) → (fate : Fate) → slice_get fates j ≡ Some fate → IsClear (k + 1) fate
  clear_fate k j l inside uncited Kept e = tt
  clear_fate k j l inside uncited (Removed by) e = λ i d within same.
      let P = λ (c : Cite). All (λ (m : Mult). m.row ≢ get_or numbers k 0) c.by.mults in
      let others = All-contains P (cites_below numbers fates (length fates)) (cite_at numbers j by) uncited (is_there numbers fates (length fates) j by inside e) in
      let at_i : get_or (map (renumbered_mult numbers) by.mults) i d ≡ renumbered_mult numbers (get_or by.mults i d) = get_or-map (renumbered_mult numbers) by.mults i d d within in
      let place : (get_or by.mults i d).row - 1 ≡ k = omega (arith, same) in
      others i d (omega (arith, within, length-map by.mults (renumbered_mult numbers))) (ap (λ (m : Mult). m.row) at_i ∙ ap (λ (n : ℕ). get_or numbers n 0) place)

  pub uncited_in_list : (k : ℕ) → k < length numbers → IsUncited (cites_below numbers fates (length fates)) (get_or numbers k 0) → IsUncitedInList fates k
  uncited_in_list k l uncited j d inside = clear_fate k j l inside uncited (get_or fates j d) (slice_get-get_or fates j d inside)

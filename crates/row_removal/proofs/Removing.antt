-- What is cited of a list that is thin makes the list of the table thin.
use Rattle.std.proofs.Common.{◌≡◌, ℕ, zero, suc, ◌+◌, ◌-◌, ◌*◌, ◌^◌, ◌<◌, ◌≤◌, ℤ, pos, true, List, [], ◌∷◌, length, get_or, map, sym, ap, ◌∙◌, subst, arith}
use Rattle.std.specs.Prelude.{Option, Some, All, IfSome, slice_get}
use Rattle.std.proofs.lemmas.List.{length-map, get_or-map}
use Rattle.std.proofs.lemmas.List.Elements.{All-nil, All-cons, All-get_or, All-map}
use Rattle.std.proofs.lemmas.List.Sums.{length-filter, count_by-le-length}
use Rattle.std.proofs.lemmas.Option.{slice_get_within, slice_get-get_or, get_or_from_slice_get}
use Rattle.fb_types.specs.Domain.{Follows, IsHalfOver}
use Rattle.fb_types.specs.declared.rows.Bounds.{Bounds}
use Rattle.fb_types.specs.declared.rows.Half.{Half}
use Rattle.fb_types.specs.declared.rows.Mult.{Mult}
use Rattle.fb_types.specs.declared.rows.Multipliers.{Multipliers}
use Rattle.fb_types.specs.declared.rows.Fate.{Fate}
use Rattle.fb_types.specs.declared.rows.Fate.TheVariants.{Kept, Removed}
use Rattle.multiplier_search.specs.Found.{none_of, one_of, pair_of, with_balance}
use Rattle.redundancy.specs.Thinned.{row_of, IsThinned, IsSettled}
use Rattle.cnec_rows.specs.declared.types.RowProof.{RowProof}
use Rattle.fb_certificate.specs.Lists.{ListKind, numbered, is_listed, is_kept, IsCite, AreCites}
use Rattle.fb_certificate.specs.Thin.{IsProvedBy, IsUncited, IsThinList}
use Rattle.fb_certificate.specs.declared.types.Cite.{Cite}
use Rattle.row_removal.specs.Renumbered.{listed_numbers, numbered_half, table_number, renumbered_mult, renumbered, IsNumber, CitesNumbers, FateCites, cites_below}
use Rattle.row_removal.proofs.Listing.{IsListing, are_listing, listed_row}
use Rattle.row_removal.proofs.Renumbering.{has_half, cites_numbers, follows_in_table, follows_in_list}
use Rattle.row_removal.proofs.Citing.{each_holds, cites_rise, kept_in_table, kept_in_list, uncited_in_list}

-- ---- The list

numbered_holds : (P : RowProof → Type 0) (rows : List RowProof) (number : ℕ) (row : RowProof) → All P rows → numbered rows number ≡ Some row → P row
numbered_holds P rows zero row each e = absurd cc
numbered_holds P rows (suc n) row each e = subst P (get_or_from_slice_get rows n row row e) (each n row (slice_get_within rows n row e))

pub halves_over : (kind : ListKind) (rows : List RowProof) (numbers : List ℕ) (halves : List Half) (zones : ℕ) → numbers ≡ listed_numbers kind rows (length rows) → halves ≡ map (numbered_half kind rows) numbers → All (λ row. IsHalfOver zones (kind.half row)) rows → All (λ half. IsHalfOver zones half) halves
halves_over kind rows numbers halves zones are_numbers are_halves over =
    let listing : IsListing kind rows numbers = subst (IsListing kind rows) (sym are_numbers) (are_listing kind rows) in
    subst (All (λ (half : Half). IsHalfOver zones half)) (sym are_halves) (All-map (λ (half : Half). IsHalfOver zones half) (numbered_half kind rows) numbers (λ k d l. let found = listed_row kind rows (get_or numbers k d) (listing.listed k d l) in subst (IsHalfOver zones) (sym (has_half kind rows (get_or numbers k d) found.0 found.1)) (numbered_holds (λ (row : RowProof). IsHalfOver zones (kind.half row)) rows (get_or numbers k d) found.0 over found.1)))

pub halves_few : (kind : ListKind) (rows : List RowProof) (numbers : List ℕ) (halves : List Half) → numbers ≡ listed_numbers kind rows (length rows) → halves ≡ map (numbered_half kind rows) numbers → length halves ≤ length rows
halves_few kind rows numbers halves are_numbers are_halves =
    let listing : IsListing kind rows numbers = subst (IsListing kind rows) (sym are_numbers) (are_listing kind rows) in
    omega (arith, ap length are_halves, length-map numbers (numbered_half kind rows), listing.count, length-filter (λ (row : RowProof). kind.holds row.class) rows, count_by-le-length (λ (row : RowProof). kind.holds row.class) rows)

-- ---- Proofs of one row

module _ (kind : ListKind) (bounds : List Bounds) (rows : List RowProof) where
  proved_from_follows : (number : ℕ) (by : Multipliers) → is_listed kind rows number ≡ true → Follows (numbered_half kind rows number) (map kind.half rows) by bounds → IsProvedBy kind bounds rows number by
  proved_from_follows number by listed f =
      let found = listed_row kind rows number listed in
      let here : Follows (kind.half found.0) (map kind.half rows) by bounds = subst (λ (t : Half). Follows t (map kind.half rows) by bounds) (has_half kind rows number found.0 found.1) f in
      subst (λ (o : Option RowProof). IfSome o (λ (row : RowProof). Follows (kind.half row) (map kind.half rows) by bounds)) (sym found.1) here

  follows_from_proved : (number : ℕ) (by : Multipliers) → is_listed kind rows number ≡ true → IsProvedBy kind bounds rows number by → Follows (numbered_half kind rows number) (map kind.half rows) by bounds
  follows_from_proved number by listed p =
      let found = listed_row kind rows number listed in
      let here : Follows (kind.half found.0) (map kind.half rows) by bounds = subst (λ (o : Option RowProof). IfSome o (λ (row : RowProof). Follows (kind.half row) (map kind.half rows) by bounds)) found.1 p in
      subst (λ (t : Half). Follows t (map kind.half rows) by bounds) (sym (has_half kind rows number found.0 found.1)) here

module _ (kind : ListKind) (bounds : List Bounds) (rows : List RowProof) (numbers : List ℕ) (listing : IsListing kind rows numbers) where
  row_in_table : (k : ℕ) → k < length numbers → row_of (map (numbered_half kind rows) numbers) k ≡ numbered_half kind rows (get_or numbers k 0)
  row_in_table k l = get_or-map (numbered_half kind rows) numbers k 0 _ l

  -- what the renumbered multipliers prove of a row, the multipliers prove of its place in the list
  proved_in_list : (k : ℕ) (by : Multipliers) → k < length numbers → CitesNumbers (length numbers) by.mults → IsProvedBy kind bounds rows (get_or numbers k 0) (renumbered numbers by) → Follows (row_of (map (numbered_half kind rows) numbers) k) (map (numbered_half kind rows) numbers) by bounds
  proved_in_list k by l c p =
      let listed = All-get_or (λ (n : ℕ). is_listed kind rows n ≡ true) numbers k 0 l listing.listed in
      subst (λ (t : Half). Follows t (map (numbered_half kind rows) numbers) by bounds) (sym (row_in_table k l)) (follows_in_list kind rows numbers listing (numbered_half kind rows (get_or numbers k 0)) by bounds c (follows_from_proved kind bounds rows (get_or numbers k 0) (renumbered numbers by) listed p))

  place_number : (j : ℕ) → j < length numbers → IsNumber (length numbers) (j + 1)
  place_number j l = record { above = omega arith; within = omega arith }

  at_place : (j number : ℕ) → get_or numbers j 0 ≡ number → table_number numbers (j + 1) ≡ number
  at_place j number same = let less : j + 1 - 1 ≡ j = omega arith in ap (λ (n : ℕ). get_or numbers n 0) less ∙ same

  none_in_list : (k number : ℕ) (mu : ℤ) → k < length numbers → get_or numbers k 0 ≡ number → IsProvedBy kind bounds rows number (with_balance none_of mu) → Follows (row_of (map (numbered_half kind rows) numbers) k) (map (numbered_half kind rows) numbers) (with_balance none_of mu) bounds
  none_in_list k number mu l same p =
      proved_in_list k (with_balance none_of mu) l (All-nil (λ (m : Mult). IsNumber (length numbers) m.row)) (subst (λ (n : ℕ). IsProvedBy kind bounds rows n (with_balance none_of mu)) (sym same) p)

  one_in_list : (k number j other : ℕ) (mu : ℤ) → k < length numbers → get_or numbers k 0 ≡ number → j < length numbers → get_or numbers j 0 ≡ other → IsProvedBy kind bounds rows number (with_balance (one_of other) mu) → Follows (row_of (map (numbered_half kind rows) numbers) k) (map (numbered_half kind rows) numbers) (with_balance (one_of (j + 1)) mu) bounds
  one_in_list k number j other mu l same lj same_j p =
      let P = λ (m : Mult). IsNumber (length numbers) m.row in
      let cited : renumbered numbers (with_balance (one_of (j + 1)) mu) ≡ with_balance (one_of other) mu = ap (λ (n : ℕ). with_balance (one_of n) mu) (at_place j other same_j) in
      proved_in_list k (with_balance (one_of (j + 1)) mu) l (All-cons P _ [] (place_number j lj) (All-nil P)) (subst (λ (n : ℕ). IsProvedBy kind bounds rows n (renumbered numbers (with_balance (one_of (j + 1)) mu))) (sym same) (subst (IsProvedBy kind bounds rows number) (sym cited) p))

  pair_in_list : (k number i first j second s : ℕ) (mu : ℤ) → k < length numbers → get_or numbers k 0 ≡ number → i < length numbers → get_or numbers i 0 ≡ first → j < length numbers → get_or numbers j 0 ≡ second → IsProvedBy kind bounds rows number (with_balance (pair_of first second s) mu) → Follows (row_of (map (numbered_half kind rows) numbers) k) (map (numbered_half kind rows) numbers) (with_balance (pair_of (i + 1) (j + 1) s) mu) bounds
  pair_in_list k number i first j second s mu l same li same_i lj same_j p =
      let P = λ (m : Mult). IsNumber (length numbers) m.row in
      let cited : renumbered numbers (with_balance (pair_of (i + 1) (j + 1) s) mu) ≡ with_balance (pair_of first second s) mu =
      ap (λ (n : ℕ). with_balance (pair_of n (table_number numbers (j + 1)) s) mu) (at_place i first same_i) ∙ ap (λ (n : ℕ). with_balance (pair_of first n s) mu) (at_place j second same_j) in
      proved_in_list k (with_balance (pair_of (i + 1) (j + 1) s) mu) l (All-cons P (record { row = i + 1; value = pos (s * 10 ^ 8) }) (record { row = j + 1; value = pos ((10 - s) * 10 ^ 8) } ∷ []) (place_number i li) (All-cons P (record { row = j + 1; value = pos ((10 - s) * 10 ^ 8) }) [] (place_number j lj) (All-nil P))) (subst (λ (n : ℕ). IsProvedBy kind bounds rows n (renumbered numbers (with_balance (pair_of (i + 1) (j + 1) s) mu))) (sym same) (subst (IsProvedBy kind bounds rows number) (sym cited) p))

-- ---- The cites

module _ (kind : ListKind) (bounds : List Bounds) (rows : List RowProof) (numbers : List ℕ) (fates : List Fate) (listing : IsListing kind rows numbers) (thinned : IsThinned (map (numbered_half kind rows) numbers) bounds fates) where
  as_many : length fates ≡ length numbers
  as_many = omega (arith, thinned.each, length-map numbers (numbered_half kind rows))

  cites_in_list : (k : ℕ) (by : Multipliers) → slice_get fates k ≡ Some (Removed by) → CitesNumbers (length numbers) by.mults
  cites_in_list k by gone = cites_numbers kind rows numbers listing by.mults (thinned.removed k by gone).0.cited

  each_cites : (k : ℕ) (fate : Fate) → slice_get fates k ≡ Some fate → FateCites (length numbers) fate
  each_cites k Kept e = tt
  each_cites k (Removed by) e = cites_in_list k by e

  fates_cite : All (FateCites (length numbers)) fates
  fates_cite k d l = each_cites k (get_or fates k d) (slice_get-get_or fates k d l)

  is_cite : (k : ℕ) (by : Multipliers) → k < length fates → slice_get fates k ≡ Some (Removed by) → IsCite kind bounds rows (cites_below numbers fates (length fates)) (record { row = get_or numbers k 0; by = renumbered numbers by })
  is_cite k by l gone =
      let inside : k < length numbers = omega (arith, as_many) in
      let removed = thinned.removed k by gone in
      let cited = cites_in_list k by gone in
      let listed = All-get_or (λ (n : ℕ). is_listed kind rows n ≡ true) numbers k 0 inside listing.listed in
      let follows : Follows (numbered_half kind rows (get_or numbers k 0)) (map (numbered_half kind rows) numbers) by bounds = subst (λ (t : Half). Follows t (map (numbered_half kind rows) numbers) by bounds) (row_in_table kind bounds rows numbers listing k inside) removed.0 in
      record {
        listed = listed;
        cites_kept = All-map (λ (m : Mult). is_kept kind rows (cites_below numbers fates (length fates)) m.row ≡ true) (renumbered_mult numbers) by.mults (λ i d within. let number = cited i d within in kept_in_table kind rows numbers fates listing as_many ((get_or by.mults i d).row - 1) (omega (arith, number.above, number.within)) (removed.1 i d within));
        follows = proved_from_follows kind bounds rows (get_or numbers k 0) (renumbered numbers by) listed (follows_in_table kind rows numbers listing (numbered_half kind rows (get_or numbers k 0)) by bounds follows);
      }

  make_cites : AreCites kind bounds rows (cites_below numbers fates (length fates))
  make_cites = record {
    rising = cites_rise numbers fates listing.rising (length fates) (omega (arith, as_many));
    each = each_holds numbers fates (IsCite kind bounds rows (cites_below numbers fates (length fates))) (length fates) is_cite;
  }

  make_thin : (length (map (numbered_half kind rows) numbers) ≤ 64 → IsSettled (map (numbered_half kind rows) numbers) bounds fates) → IsThinList kind bounds rows (cites_below numbers fates (length fates))
  make_thin settled = record {
    box = λ number mu kept p. let at_k = kept_in_list kind rows numbers fates listing as_many number kept in thinned.box at_k.0 mu at_k.3 (none_in_list kind bounds rows numbers listing at_k.0 number mu at_k.1 at_k.2 p);
    one = λ other number mu apart kept_other kept p.
        let at_j = kept_in_list kind rows numbers fates listing as_many other kept_other in
        let at_k = kept_in_list kind rows numbers fates listing as_many number kept in
        thinned.one at_j.0 at_k.0 mu (λ e. apart (sym at_j.2 ∙ ap (λ (n : ℕ). get_or numbers n 0) e ∙ at_k.2)) at_j.3 at_k.3 (one_in_list kind bounds rows numbers listing at_k.0 number at_j.0 other mu at_k.1 at_k.2 at_j.1 at_j.2 p);
    pair = λ short number i j s mu kept uncited kept_i kept_j apart_i apart_j low high p.
        let at_k = kept_in_list kind rows numbers fates listing as_many number kept in
        let at_i = kept_in_list kind rows numbers fates listing as_many i kept_i in
        let at_j = kept_in_list kind rows numbers fates listing as_many j kept_j in
        let few : length (map (numbered_half kind rows) numbers) ≤ 64 = omega (arith, length-map numbers (numbered_half kind rows), listing.count) in
        let cleared = uncited_in_list kind rows numbers fates listing as_many at_k.0 at_k.1 (subst (IsUncited (cites_below numbers fates (length fates))) (sym at_k.2) uncited) in
        (settled few).pair at_k.0 at_i.0 at_j.0 s mu at_k.3 cleared at_i.3 at_j.3 (λ e. apart_i (sym at_i.2 ∙ ap (λ (n : ℕ). get_or numbers n 0) e ∙ at_k.2)) (λ e. apart_j (sym at_j.2 ∙ ap (λ (n : ℕ). get_or numbers n 0) e ∙ at_k.2)) low high (pair_in_list kind bounds rows numbers listing at_k.0 number at_i.0 i at_j.0 j s mu at_k.1 at_k.2 at_i.1 at_i.2 at_j.1 at_j.2 p);
  }

-- ---- What was asked

-- what the code holds when it cites: the numbers and the rows of the list, and the fates of these
pub record IsThinning (kind : ListKind) (bounds : List Bounds) (rows : List RowProof) (numbers : List ℕ) (halves : List Half) (fates : List Fate) : Type 0 where
  pub are_numbers : numbers ≡ listed_numbers kind rows (length rows)
  pub are_halves : halves ≡ map (numbered_half kind rows) numbers
  pub thinned : IsThinned halves bounds fates
  pub settled : length halves ≤ 64 → IsSettled halves bounds fates

pub thinning : (kind : ListKind) (bounds : List Bounds) (rows seen : List RowProof) (numbers : List ℕ) (halves : List Half) (fates : List Fate) → seen ≡ rows → numbers ≡ listed_numbers kind seen (length seen) → halves ≡ map (numbered_half kind seen) numbers → IsThinned halves bounds fates → (length halves ≤ 64 → IsSettled halves bounds fates) → IsThinning kind bounds rows numbers halves fates
thinning kind bounds rows seen numbers halves fates same are_numbers are_halves thinned settled = record {
  are_numbers = subst (λ (rs : List RowProof). numbers ≡ listed_numbers kind rs (length rs)) same are_numbers;
  are_halves = subst (λ (rs : List RowProof). halves ≡ map (numbered_half kind rs) numbers) same are_halves;
  thinned = thinned;
  settled = settled;
}

module _ (kind : ListKind) (bounds : List Bounds) (rows : List RowProof) (numbers : List ℕ) (halves : List Half) (fates : List Fate) (t : IsThinning kind bounds rows numbers halves fates) where
  is_listing : IsListing kind rows numbers
  is_listing = subst (IsListing kind rows) (sym t.are_numbers) (are_listing kind rows)

  is_thinned : IsThinned (map (numbered_half kind rows) numbers) bounds fates
  is_thinned = subst (λ (hs : List Half). IsThinned hs bounds fates) t.are_halves t.thinned

  pub fates_cite_numbers : (seen_numbers : List ℕ) (seen_fates : List Fate) → seen_numbers ≡ numbers → seen_fates ≡ fates → All (FateCites (length seen_numbers)) seen_fates
  fates_cite_numbers seen_numbers seen_fates e f = rw (e, f) (fates_cite kind bounds rows numbers fates is_listing is_thinned)

  made_cites : (seen_numbers : List ℕ) (seen_fates : List Fate) → seen_numbers ≡ numbers → seen_fates ≡ fates → (cites : List Cite) → cites ≡ cites_below seen_numbers seen_fates (length seen_fates) → cites_below numbers fates (length fates) ≡ cites
  made_cites seen_numbers seen_fates e f cites made = sym (made ∙ ap (λ (ns : List ℕ). cites_below ns seen_fates (length seen_fates)) e ∙ ap (λ (fs : List Fate). cites_below numbers fs (length fs)) f)

  pub thinning_cites : (seen_numbers : List ℕ) (seen_fates : List Fate) → seen_numbers ≡ numbers → seen_fates ≡ fates → (cites : List Cite) → cites ≡ cites_below seen_numbers seen_fates (length seen_fates) → AreCites kind bounds rows cites
  thinning_cites seen_numbers seen_fates e f cites made =
      subst (AreCites kind bounds rows) (made_cites seen_numbers seen_fates e f cites made) (make_cites kind bounds rows numbers fates is_listing is_thinned)

  pub thinning_thins : (seen_numbers : List ℕ) (seen_fates : List Fate) → seen_numbers ≡ numbers → seen_fates ≡ fates → (cites : List Cite) → cites ≡ cites_below seen_numbers seen_fates (length seen_fates) → IsThinList kind bounds rows cites
  thinning_thins seen_numbers seen_fates e f cites made =
      let settled : length (map (numbered_half kind rows) numbers) ≤ 64 → IsSettled (map (numbered_half kind rows) numbers) bounds fates = subst (λ (hs : List Half). length hs ≤ 64 → IsSettled hs bounds fates) t.are_halves t.settled in
      subst (IsThinList kind bounds rows) (made_cites seen_numbers seen_fates e f cites made) (make_thin kind bounds rows numbers fates is_listing is_thinned settled)

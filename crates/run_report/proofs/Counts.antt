-- How many rows are kept: those of a list, less one for each cite.
use Rattle.std.proofs.Common.{◌≡◌, ℕ, zero, suc, ◌+◌, ◌-◌, ◌<◌, ◌≤◌, ◌&&◌, ◌||◌, Bool, true, false, not, cond, List, [], ◌∷◌, length, filter, All, inl, inr, refl, ap, subst, ◌∙◌, arith}
use Rattle.std.specs.Prelude.{slice_get, slice_index_or}
use Rattle.std.specs.List.{AllAdjacentBelow, enumerate_from}
use Rattle.std.specs.Option.{option_map_or}
use Rattle.std.proofs.lemmas.Bool.{cases_eq, eq-eqb, ne_eqb}
use Rattle.std.proofs.lemmas.List.Elements.{All-head, All-tail, All-cons, All-nil, All-weaker}
use Rattle.std.proofs.lemmas.List.Filters.{length-filter_both}
use Rattle.fb_types.specs.declared.rows.Bounds.{Bounds}
use Rattle.cnec_selection.specs.declared.Class.{Class}
use Rattle.cnec_selection.specs.declared.Class.TheVariants.{Below, Doubtful, Certain}
use Rattle.cnec_rows.specs.declared.types.RowProof.{RowProof}
use Rattle.fb_certificate.specs.Lists.{ListKind, inner_list, outer_list, is_listed, is_removed, AreCites, IsCite}
use Rattle.fb_certificate.specs.declared.types.Cite.{Cite}
use Rattle.run_report.specs.ReportTexts.{count_where, is_below, is_doubtful, kept_count}

-- ---- rows by class

pub inner_counted : (rows : List RowProof) → count_where inner_list.holds rows + count_where is_below rows
    ≡ length rows
inner_counted rows = length-filter_both (λ (row : RowProof). inner_list.holds row.class) (λ row. is_below row.class)
    (λ row. other row.class) rows
  where
    other : (class : Class) → is_below class ≡ not (inner_list.holds class)
    other Below = refl
    other Doubtful = refl
    other Certain = refl

pub outer_counted : (rows : List RowProof) → count_where outer_list.holds rows + count_where is_doubtful rows
    ≡ count_where inner_list.holds rows
outer_counted [] = refl
outer_counted (row ∷ rows) = by_class row.class (outer_counted rows)
  where
    by_class : (class : Class) → count_where outer_list.holds rows + count_where is_doubtful rows
        ≡ count_where inner_list.holds rows
        → length (cond (outer_list.holds class) (row ∷ filter (λ (r : RowProof). outer_list.holds r.class) rows)
        (filter (λ (r : RowProof). outer_list.holds r.class) rows))
        + length (cond (is_doubtful class) (row ∷ filter (λ (r : RowProof). is_doubtful r.class) rows)
        (filter (λ (r : RowProof). is_doubtful r.class) rows))
        ≡ length (cond (inner_list.holds class) (row ∷ filter (λ (r : RowProof). inner_list.holds r.class) rows)
        (filter (λ (r : RowProof). inner_list.holds r.class) rows))
    by_class Below h = h
    by_class Doubtful h = omega (arith, h)
    by_class Certain h = omega (arith, h)

-- ---- cites by number

-- a cite of a list of rows that are numbered from m
record IsCiteFrom (kind : ListKind) (m : ℕ) (rows : List RowProof) (cite : Cite) : Type 0 where
  from : m ≤ cite.row
  listed : option_map_or (λ (row : RowProof). kind.holds row.class) (slice_get rows (cite.row - m)) false ≡ true

abbrev Rising : List Cite → Type 0
Rising cites = AllAdjacentBelow (λ (c d : Cite). c.row < d.row) cites (length cites)

rising_rest : (c : Cite) (cs : List Cite) → Rising (c ∷ cs) → Rising cs
rising_rest c cs rising = λ k d l.
    let next : suc k + 1 ≡ suc (k + 1) = omega arith in
    subst (λ (n : ℕ). (slice_index_or (c ∷ cs) (suc k) d).row < (slice_index_or (c ∷ cs) n d).row) next
    (rising (suc k) d (omega (arith, l)))

-- all that follow a cite from m on are above m
above : (m : ℕ) (c : Cite) (cs : List Cite) → m ≤ c.row → Rising (c ∷ cs) → All (λ (d : Cite). m < d.row) cs
above m c [] from rising = All-nil (λ (d : Cite). m < d.row)
above m c (d ∷ ds) from rising =
    let first = rising 0 d (omega arith) in
    All-cons (λ (e : Cite). m < e.row) d ds (omega (arith, from, first))
    (above m d ds (omega (arith, from, first)) (rising_rest c (d ∷ ds) rising))

none_at : (m : ℕ) (cites : List Cite) → All (λ (d : Cite). m < d.row) cites → is_removed cites m ≡ false
none_at m [] over = refl
none_at m (c ∷ cs) over =
    let first = All-head (λ (d : Cite). m < d.row) c cs over in
    ap (λ b. b || is_removed cs m) (ne_eqb c.row m (λ e. absurd (omega (arith, e, first))))
    ∙ none_at m cs (All-tail (λ (d : Cite). m < d.row) c cs over)

module _ (kind : ListKind) (all : List Cite) where
  -- cites above the first number are those of the other rows
  each_from : (m : ℕ) (row : RowProof) (rows : List RowProof) (cites : List Cite)
      → All (IsCiteFrom kind m (row ∷ rows)) cites
      → All (λ (d : Cite). m < d.row) cites → All (IsCiteFrom kind (m + 1) rows) cites
  each_from m row rows [] each over = All-nil (IsCiteFrom kind (m + 1) rows)
  each_from m row rows (c ∷ cs) each over =
      let is = All-head (IsCiteFrom kind m (row ∷ rows)) c cs each in
      let first = All-head (λ (d : Cite). m < d.row) c cs over in
      let next : suc (c.row - (m + 1)) ≡ c.row - m = omega (arith, first) in
      All-cons (IsCiteFrom kind (m + 1) rows) c cs
      (record {
        from = omega (arith, first);
        listed = ap (λ k. option_map_or (λ (r : RowProof). kind.holds r.class) (slice_get (row ∷ rows) k) false) next
            ∙ is.listed;
      })
      (each_from m row rows cs (All-tail (IsCiteFrom kind m (row ∷ rows)) c cs each)
      (All-tail (λ (d : Cite). m < d.row) c cs over))

  abbrev is_kept_row : ℕ × RowProof → Bool
  is_kept_row e = kind.holds e.1.class && not (is_removed all e.0)

  abbrev Counted : ℕ → List RowProof → List Cite → Type 0
  Counted m rows cites = length (filter is_kept_row (enumerate_from m rows)) + length cites
      ≡ count_where kind.holds rows

  -- a row that no cite removes counts where it is listed
  stays : (m : ℕ) (row : RowProof) (rows : List RowProof) (cites : List Cite) → is_removed all m ≡ false
      → Counted (m + 1) rows cites → Counted m (row ∷ rows) cites
  stays m row rows cites kept rest =
      ap (λ b. length (cond (kind.holds row.class && not b)
      ((m, row) ∷ filter is_kept_row (enumerate_from (m + 1) rows))
      (filter is_kept_row (enumerate_from (m + 1) rows))) + length cites) kept
      ∙ by_class (kind.holds row.class)
    where
      by_class : (b : Bool)
          → length (cond (b && true) ((m, row) ∷ filter is_kept_row (enumerate_from (m + 1) rows))
          (filter is_kept_row (enumerate_from (m + 1) rows))) + length cites
          ≡ length (cond b (row ∷ filter (λ (r : RowProof). kind.holds r.class) rows)
          (filter (λ (r : RowProof). kind.holds r.class) rows))
      by_class true = omega (arith, rest)
      by_class false = rest

  -- a listed row that a cite removes does not count, and its cite does
  leaves : (m : ℕ) (row : RowProof) (rows : List RowProof) (cites : List Cite) → kind.holds row.class ≡ true
      → is_removed all m ≡ true → Counted (m + 1) rows cites
      → length (filter is_kept_row (enumerate_from m (row ∷ rows))) + suc (length cites)
      ≡ count_where kind.holds (row ∷ rows)
  leaves m row rows cites listed removed rest =
      ap (λ b. length (cond (kind.holds row.class && not b)
      ((m, row) ∷ filter is_kept_row (enumerate_from (m + 1) rows))
      (filter is_kept_row (enumerate_from (m + 1) rows))) + suc (length cites)) removed
      ∙ by_class (kind.holds row.class) listed
    where
      by_class : (b : Bool) → b ≡ true
          → length (cond (b && false) ((m, row) ∷ filter is_kept_row (enumerate_from (m + 1) rows))
          (filter is_kept_row (enumerate_from (m + 1) rows))) + suc (length cites)
          ≡ length (cond b (row ∷ filter (λ (r : RowProof). kind.holds r.class) rows)
          (filter (λ (r : RowProof). kind.holds r.class) rows))
      by_class true e = omega (arith, rest)
      by_class false e = absurd (cc)

  kept_from : (m : ℕ) (rows : List RowProof) (cites : List Cite) → Rising cites → All (IsCiteFrom kind m rows) cites
      → ((n : ℕ) → m ≤ n → is_removed all n ≡ is_removed cites n)
      → length (filter is_kept_row (enumerate_from m rows)) + length cites ≡ count_where kind.holds rows
  kept_from m [] [] rising each agree = refl
  kept_from m [] (c ∷ cs) rising each agree =
      let e = (All-head (IsCiteFrom kind m []) c cs each).listed in absurd (cc)
  kept_from m (row ∷ rows) [] rising each agree =
      let rest = kept_from (m + 1) rows [] (λ k d l. absurd (omega arith)) (All-nil (IsCiteFrom kind (m + 1) rows))
      (λ n l. agree n (omega arith)) in
      stays m row rows [] (agree m (omega arith)) rest
  kept_from m (row ∷ rows) (c ∷ cs) rising each agree =
      let first = All-head (IsCiteFrom kind m (row ∷ rows)) c cs each in
      elim (cases_eq c.row m) [
        | inl same ↦
            let later : All (λ (d : Cite). m < d.row) cs = above m c cs (omega (arith, same)) rising in
            let removed : is_removed all m ≡ true = agree m (omega arith)
            ∙ ap (λ b. b || is_removed cs m) (eq-eqb c.row m same) in
            let at : 0 ≡ c.row - m = omega (arith, same) in
            let listed : kind.holds row.class ≡ true =
            ap (λ k. option_map_or (λ (r : RowProof). kind.holds r.class) (slice_get (row ∷ rows) k) false) at
            ∙ first.listed in
            leaves m row rows cs listed removed
            (kept_from (m + 1) rows cs (rising_rest c cs rising)
            (each_from m row rows cs (All-tail (IsCiteFrom kind m (row ∷ rows)) c cs each) later)
            (λ n l. agree n (omega (arith, l))
            ∙ ap (λ b. b || is_removed cs n) (ne_eqb c.row n (λ e. absurd (omega (arith, e, same, l))))))
        | inr apart ↦
            let over : m < c.row = omega (arith, first.from, apart) in
            let later : All (λ (d : Cite). m < d.row) (c ∷ cs) = All-cons (λ (d : Cite). m < d.row) c cs over
            (above m c cs (omega (arith, over)) rising) in
            stays m row rows (c ∷ cs) (agree m (omega arith) ∙ none_at m (c ∷ cs) later)
            (kept_from (m + 1) rows (c ∷ cs) rising (each_from m row rows (c ∷ cs) each later)
            (λ n l. agree n (omega (arith, l))))
      ]

pub kept_counted : (kind : ListKind) (bounds : List Bounds) (rows : List RowProof) (cites : List Cite)
    → AreCites kind bounds rows cites
    → kept_count kind rows cites + length cites ≡ count_where kind.holds rows
kept_counted kind bounds rows cites are =
    kept_from kind cites 1 rows cites are.rising
    (All-weaker (IsCite kind bounds rows cites) (IsCiteFrom kind 1 rows)
    (λ c is. cited c (numbered_from c.row is.listed)) cites are.each) (λ n l. refl)
  where
    numbered_from : (number : ℕ) → is_listed kind rows number ≡ true
        → (1 ≤ number)
        × (option_map_or (λ (r : RowProof). kind.holds r.class) (slice_get rows (number - 1)) false ≡ true)
    numbered_from zero e = absurd (cc)
    numbered_from (suc n) e =
        let at : suc n - 1 ≡ n = omega arith in
        (omega arith, ap (λ k. option_map_or (λ (r : RowProof). kind.holds r.class) (slice_get rows k) false) at ∙ e)

    cited : (c : Cite)
        → (1 ≤ c.row)
        × (option_map_or (λ (r : RowProof). kind.holds r.class) (slice_get rows (c.row - 1)) false ≡ true)
        → IsCiteFrom kind 1 rows c
    cited c is = record { from = is.0; listed = is.1 }

-- The cites of a list, one after another.
use Rattle.std.proofs.Common.{◌≡◌, ℕ, zero, suc, ◌+◌, ◌<◌, ◌≤◌, Bool, false, ◌||◌, List, [], ◌∷◌, ◌++◌, length, map, drop, take, get_or, refl, sym, ap, subst, ◌∙◌, arith, inl, inr}
use Rattle.std.specs.Prelude.{Option, Some, None, ◌==◌, ◌-◌, slice_index_or, slice_get, IfSome, IsTrue}
use Rattle.fb_types.specs.Domain.{Follows}
use Rattle.fb_types.specs.declared.rows.Half.{Half}
use Rattle.std.proofs.lemmas.List.{drop_more}
use Rattle.std.proofs.lemmas.List.Folds.{list_any_more}
use Rattle.fb_types.specs.declared.rows.Bounds.{Bounds}
use Rattle.cnec_rows.specs.declared.types.RowProof.{RowProof}
use Rattle.run_settings.specs.Laws.{core_bounds}
use Rattle.fb_certificate.specs.Lists.{ListKind, inner_list, outer_list, is_removed, numbered}
use Rattle.fb_certificate.specs.Thin.{IsProvedBy}
use Rattle.fb_certificate.specs.declared.types.Cite.{Cite}
use Rattle.fb_certificate.specs.declared.types.Inputs.{Inputs}
use Rattle.fb_certificate.specs.declared.types.Certificate.{Certificate}
use Rattle.certificate_check.specs.declared.verdict.Reason.{Reason}
use Rattle.certificate_check.specs.declared.judgement.Judgement.{Judgement}
use Rattle.certificate_check.specs.declared.judgement.Judgement.TheVariants.{Passed, Failed}
use Rattle.certificate_check.specs.CiteRulings.{AreMarks, CiteRuling, AreCitesReached, AreCitesJudged, AreListsJudged}
use Rattle.certificate_check.specs.Judged.{behind, IsReached}
use Rattle.certificate_check.specs.Records.{Record, cite, cite_records}
use Rattle.certificate_check.specs.Verdicts.{rank, Passes, FailsBy}
use Rattle.certificate_check.proofs.Reaching.{begun, passes_one, fails_one, judged_behind, with_rest, fails_with_rest, drop_all}

-- ---- marks

pub marked_more : (cites : List Cite) (i count : ℕ) (before after : List Bool) (c : Cite) → i < length cites
    → c ≡ get_or cites i c → length after ≡ length before
    → ((k : ℕ) → k < length before → slice_index_or after k false ≡ (slice_index_or before k false || (c.row == k + 1)))
    → AreMarks (take i cites) count before → AreMarks (take (i + 1) cites) count after
marked_more cites i count before after c l read long each h =
    let same_length = h.each_row in
    record {
      each_row = long ∙ h.each_row;
      same = λ k below.
          each k (omega (arith, below, same_length))
          ∙ (ap (λ (b : Bool). b || (c.row == k + 1)) (h.same k below)
          ∙ (ap (λ (d : Cite). is_removed (take i cites) (k + 1) || (d.row == k + 1)) read
          ∙ sym (list_any_more (λ (d : Cite). d.row == k + 1) cites i c l)));
    }

-- ---- cites

module _ (kind : ListKind) (cites : List Cite) (inputs : Inputs) (c : Certificate) where
  cite_passes : (least : ℕ) (x : Cite) → CiteRuling kind (core_bounds inputs.settings.zones) c.rows cites least x None
      → Passes inputs c (cite kind cites least x)
  cite_passes least x h = λ reason. ((λ e. h.order), (λ e. h.cited), (λ e. h.follows))

  cite_fails : (least : ℕ) (x : Cite) (reason : Reason)
      → CiteRuling kind (core_bounds inputs.settings.zones) c.rows cites least x (Some reason)
      → FailsBy inputs c (cite kind cites least x) reason
  cite_fails least x reason h = elim h [
    | inl f ↦ subst (FailsBy inputs c (cite kind cites least x)) (sym f.is) (record {
      fails = λ m. let p = m.0 refl in let q = f.fails in absurd (omega (arith, p, q));
      first = λ earlier l. absurd (omega (arith, l));
    })
    | inr o ↦ elim o [
      | inl f ↦ subst (FailsBy inputs c (cite kind cites least x)) (sym f.is) (record {
        fails = λ m. f.fails (m.1 refl);
        first = λ earlier l. (
          (λ e. f.order),
          (λ e. let r = ap rank e in absurd (omega (arith, r, l))),
          (λ e. let r = ap rank e in absurd (omega (arith, r, l))),
        );
      })
      | inr f ↦ subst (FailsBy inputs c (cite kind cites least x)) (sym f.is) (record {
        fails = λ m. f.fails (m.2 refl);
        first = λ earlier l. ((λ e. f.order), (λ e. f.cited), (λ e. let r = ap rank e in absurd (omega (arith, r, l))));
      })
    ]
  ]

module _ (kind : ListKind) (bounds : List Bounds) (rows : List RowProof) (cites : List Cite) where
  pub cites_begun : AreCitesReached kind bounds rows cites 0 0
  cites_begun inputs c er eb = begun inputs c (cite_records kind cites 0 cites)

  -- what is left begins with the cite
  cite_next : (i least : ℕ) (x : Cite) → i < length cites → x ≡ get_or cites i x
      → cite_records kind cites least (drop i cites) ≡ cite kind cites least x ∷ cite_records kind cites (x.row + 1)
      (drop (i + 1) cites)
  cite_next i least x l read =
      (λ t. cite_records kind cites least (drop_more cites i x l t))
      ∙ ap (λ (d : Cite). cite kind cites least d ∷ cite_records kind cites (d.row + 1) (drop (i + 1) cites)) (sym read)

  pub one_cite_passes : (i least : ℕ) (x : Cite) → i < length cites → x ≡ get_or cites i x
      → CiteRuling kind bounds rows cites least x None
      → AreCitesReached kind bounds rows cites i least → AreCitesReached kind bounds rows cites (i + 1) (x.row + 1)
  one_cite_passes i least x l read ruling reached inputs c er eb =
      passes_one inputs c (cite_records kind cites 0 cites) (cite_records kind cites (x.row + 1) (drop (i + 1) cites))
      (cite kind cites least x) i
      (cite_passes kind cites inputs c least x
      (subst (λ (bs : List Bounds). CiteRuling kind bs c.rows cites least x None) (sym eb)
      (subst (λ (rs : List RowProof). CiteRuling kind bounds rs cites least x None) (sym er) ruling)))
      (subst (λ (rs : List Record). IsReached inputs c (cite_records kind cites 0 cites) rs i)
      (cite_next i least x l read) (reached inputs c er eb))

  pub one_cite_fails : (i least : ℕ) (reason : Reason) (x : Cite) → i < length cites → x ≡ get_or cites i x
      → CiteRuling kind bounds rows cites least x (Some reason)
      → AreCitesReached kind bounds rows cites i least → AreCitesJudged kind bounds rows cites (Failed (i + 1) reason)
  one_cite_fails i least reason x l read ruling reached inputs c er eb =
      fails_one inputs c (cite_records kind cites 0 cites) (cite_records kind cites (x.row + 1) (drop (i + 1) cites))
      (cite kind cites least x) i reason
      (cite_fails kind cites inputs c least x reason
      (subst (λ (bs : List Bounds). CiteRuling kind bs c.rows cites least x (Some reason)) (sym eb)
      (subst (λ (rs : List RowProof). CiteRuling kind bounds rs cites least x (Some reason)) (sym er) ruling)))
      (subst (λ (rs : List Record). IsReached inputs c (cite_records kind cites 0 cites) rs i)
      (cite_next i least x l read) (reached inputs c er eb))

  pub cites_pass : (i least : ℕ) → i ≡ length cites → AreCitesReached kind bounds rows cites i least
      → AreCitesJudged kind bounds rows cites (Passed (length cites))
  cites_pass i least e reached inputs c er eb =
      subst (λ (n : ℕ). IsReached inputs c (cite_records kind cites 0 cites) [] n) e
      (subst (λ (cs : List Cite). IsReached inputs c (cite_records kind cites 0 cites)
      (cite_records kind cites least cs) i) (drop_all i cites (omega (arith, e))) (reached inputs c er eb))

-- ---- what follows

found_half : (kind : ListKind) (rows : List RowProof) (k : ℕ) (t : Half) → k < length rows
    → t ≡ get_or (map kind.half rows) k t → (r : RowProof) × (slice_get rows k ≡ Some r) × (t ≡ kind.half r)
found_half kind [] k t l e = absurd (omega arith)
found_half kind (x ∷ xs) zero t l e = (x, refl, e)
found_half kind (x ∷ xs) (suc k) t l e = found_half kind xs k t (omega arith) e

numbered_is : (rows : List RowProof) (n : ℕ) → 1 ≤ n → numbered rows n ≡ slice_get rows (n - 1)
numbered_is rows zero l = absurd (omega arith)
numbered_is rows (suc k) l = let e : k ≡ suc k - 1 = omega arith in ap (λ (j : ℕ). slice_get rows j) e

pub follows_from : (kind : ListKind) (bounds : List Bounds) (rows : List RowProof) (halves : List Half) (c : Cite)
    (target : Half) (b : Bool)
    → halves ≡ map kind.half rows → target ≡ get_or halves (c.row - 1) target → 1 ≤ c.row → c.row ≤ length rows
    → (IsTrue b → Follows target halves c.by bounds) × (Follows target halves c.by bounds → IsTrue b)
    → (IsTrue b → IsProvedBy kind bounds rows c.row c.by) × (IsProvedBy kind bounds rows c.row c.by → IsTrue b)
follows_from kind bounds rows halves c target b eh et some within exact =
    let read : target ≡ get_or (map kind.half rows) (c.row - 1) target = et
    ∙ ap (λ (hs : List Half). get_or hs (c.row - 1) target) eh in
    let found = found_half kind rows (c.row - 1) target (omega (arith, some, within)) read in
    let stands : numbered rows c.row ≡ Some found.0 = numbered_is rows c.row some ∙ found.1 in
    subst (λ (o : Option RowProof).
    (IsTrue b → IfSome o (λ removed. Follows (kind.half removed) (map kind.half rows) c.by bounds))
    × (IfSome o (λ removed. Follows (kind.half removed) (map kind.half rows) c.by bounds) → IsTrue b)) (sym stands)
    (subst (λ (hs : List Half). (IsTrue b → Follows (kind.half found.0) hs c.by bounds)
    × (Follows (kind.half found.0) hs c.by bounds → IsTrue b)) eh
    (subst (λ (t : Half). (IsTrue b → Follows t halves c.by bounds)
    × (Follows t halves c.by bounds → IsTrue b)) found.2 exact))

-- ---- both lists

module _ (bounds : List Bounds) (rows : List RowProof) (inner outer : List Cite) where
  pub inner_fails : (number : ℕ) (reason : Reason)
      → AreCitesJudged inner_list bounds rows inner (Failed number reason)
      → AreListsJudged bounds rows inner outer (Failed number reason)
  inner_fails number reason h inputs c er eb =
      fails_with_rest inputs c (cite_records inner_list inner 0 inner)
      (cite_records outer_list outer 0 outer) number reason (h inputs c er eb)

  pub lists_judged : (done : ℕ) (judgement : Judgement) → AreCitesJudged inner_list bounds rows inner (Passed done)
      → AreCitesJudged outer_list bounds rows outer judgement
      → AreListsJudged bounds rows inner outer (behind done judgement)
  lists_judged done judgement h k inputs c er eb =
      judged_behind inputs c (cite_records inner_list inner 0 inner ++ cite_records outer_list outer 0 outer)
      (cite_records outer_list outer 0 outer) done judgement
      (with_rest inputs c (cite_records inner_list inner 0 inner) [] (cite_records outer_list outer 0 outer) done
      (h inputs c er eb))
      (k inputs c er eb)

-- The first cite that names a row.
use Rattle.std.proofs.Common.{◌≡◌, ℕ, ◌==◌, ◌||◌, ◌<◌, ◌≤◌, Bool, true, false, cond, List, [], ◌∷◌, length, map, get_or, refl, sym, ap, ◌∙◌, Bor}
use Rattle.std.specs.Prelude.{Option, Some, None, IfSome, is_some, slice_get, codes}
use Rattle.std.specs.List.{HoldsAt, find, list_any}
use Rattle.std.specs.Option.{MatchOption, option_and_then, option_copied}
use Rattle.std.proofs.lemmas.Option.{slice_get_past, slice_get_read}
use Rattle.place_tables.specs.Places.{first_place, first_places}
use Rattle.place_tables.proofs.PlaceLaws.{find_by_place}
use Rattle.fb_certificate.proofs.IndexLaws as index_laws
use Rattle.fb_certificate.specs.declared.types.Cite.{Cite}
use Rattle.domain_report.specs.DomainTexts.{cite_of, fate_word}

by_head : {A : Type 0} (b : Bool) (x : A) (rest : Bool) (found : Option A) → rest ≡ is_some found → (b || rest) ≡ is_some (cond b (Some x) found)
by_head true x rest found e = refl
by_head false x rest found e = e

-- there is one exactly where some cite names the row
any_is_found : {A : Type 0} (test : A → Bool) (xs : List A) → list_any test xs ≡ is_some (find test xs)
any_is_found test [] = refl
any_is_found test (x ∷ xs) = by_head (test x) x (list_any test xs) (find test xs) (any_is_found test xs)

word_where : (listed : Bool) (cites : List Cite) (number : ℕ) (found : Option Cite) → listed ≡ true → found ≡ cite_of cites number
    → cond (is_some found) (codes "REMOVED") (codes "KEPT") ≡ fate_word listed cites number
word_where listed cites number found l e =
    ap (λ (b : Bool). cond b (codes "REMOVED") (codes "KEPT")) (ap is_some e ∙ sym (any_is_found (λ (cite : Cite). cite.row == number) cites))
    ∙ ap (λ (b : Bool). fate_word b cites number) (sym l)

pub kept_word : (listed : Bool) (cites : List Cite) (number : ℕ) → listed ≡ true → None ≡ cite_of cites number → codes "KEPT" ≡ fate_word listed cites number
kept_word listed cites number l e = word_where listed cites number None l e

pub removed_word : (listed : Bool) (cites : List Cite) (number : ℕ) (cite : Cite) → listed ≡ true → Some cite ≡ cite_of cites number → codes "REMOVED" ≡ fate_word listed cites number
removed_word listed cites number cite l e = word_where listed cites number (Some cite) l e

-- ---- cites that are found by number

pub table_long : (count : ℕ) (cites : List Cite) (items : List (Option ℕ)) → items ≡ first_places count (map (λ (cite : Cite). cite.row) cites) → length items ≡ count
table_long count cites items are = index_laws.table_long count (map (λ (cite : Cite). cite.row) cites) items are

pub entry : (count : ℕ) (cites : List Cite) (items : List (Option ℕ)) (number : ℕ) (o : Option ℕ) → items ≡ first_places count (map (λ (cite : Cite). cite.row) cites) → number < count → o ≡ get_or items number o
    → first_place (map (λ (cite : Cite). cite.row) cites) number ≡ o
entry count cites items number o are below read = index_laws.entry count (map (λ (cite : Cite). cite.row) cites) items number o are below read

module _ (cites : List Cite) (number : ℕ) where
  pub cite_none : first_place (map (λ (cite : Cite). cite.row) cites) number ≡ None → None ≡ cite_of cites number
  cite_none e = sym (find_by_place (λ (cite : Cite). cite.row) cites number ∙ ap (option_and_then (slice_get cites)) e)

  pub cite_at : (p : ℕ) → first_place (map (λ (cite : Cite). cite.row) cites) number ≡ Some p → slice_get cites p ≡ cite_of cites number
  cite_at p e = sym (find_by_place (λ (cite : Cite). cite.row) cites number ∙ ap (option_and_then (slice_get cites)) e)

-- what a look at a place of a list of cites gives
pub copied_at : (cites : List Cite) (p : ℕ) (o : Option (Bor Cite)) → IfSome o (λ x. x.now ≡ get_or cites p x.now) → MatchOption o (length cites ≤ p) (λ x. (p < length cites) × HoldsAt (λ y. x.now ≡ y) cites p)
    → option_copied o ≡ slice_get cites p
copied_at cites p None h past = sym (slice_get_past cites p past)
copied_at cites p (Some x) read within = sym (slice_get_read cites (length cites) p x.now refl within.0 read)

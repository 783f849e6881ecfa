-- Tables of places, one name more at a time.
use Rattle.std.proofs.Common.{◌≡◌, ℕ, ◌+◌, ◌<◌, ◌≤◌, List, [], ◌∷◌, ◌++◌, length, map, drop, get_or, refl, sym, ap, ◌∙◌, append-nil}
use Rattle.std.proofs.lemmas.List.{drop_all, drop_more}
use Rattle.name_tables.specs.Names.{value_at, numbered_from}
use Rattle.name_tables.specs.Tables.{with_entry}
use Rattle.name_tables.proofs.EntryLaws.{value_at-with_entry}
use Rattle.run_settings.specs.Places.{ArePlaces, WillBePlaces}

-- before the first name
pub no_places : (names : List (List ℕ)) → WillBePlaces [] 0 names names
no_places names = record { each = λ name. refl }

-- the next name is noted
pub noted_place : {I : Type 0} (name_of : I → List ℕ) (items : List I) (place : ℕ) (item : I) (before after : List (List ℕ × ℕ)) (names : List (List ℕ))
    → place < length items → item ≡ get_or items place item → after ≡ with_entry before (name_of item) place
    → WillBePlaces before place (map name_of (drop place items)) names → WillBePlaces after (place + 1) (map name_of (drop (place + 1) items)) names
noted_place {I} name_of items place item before after names within at_place is so_far = record {
  each = λ name.
      ap (λ (ps : List (List ℕ × ℕ)). value_at (ps ++ numbered_from (place + 1) (map name_of (drop (place + 1) items))) name) is
      ∙ value_at-with_entry before (numbered_from (place + 1) (map name_of (drop (place + 1) items))) (name_of item) place name
      ∙ ap (λ xs. value_at (before ++ numbered_from place (map name_of xs)) name) (ap (λ (i : I). i ∷ drop (place + 1) items) at_place ∙ sym (drop_more items place item within))
      ∙ so_far.each name;
}

-- no name is left
pub all_places : {I : Type 0} (name_of : I → List ℕ) (items : List I) (place : ℕ) (places : List (List ℕ × ℕ)) (names : List (List ℕ))
    → length items ≤ place → WillBePlaces places place (map name_of (drop place items)) names → ArePlaces places names
all_places name_of items place places names past so_far = record {
  each = λ name.
      ap (λ (ps : List (List ℕ × ℕ)). value_at ps name) (sym (append-nil places))
      ∙ ap (λ xs. value_at (places ++ numbered_from place (map name_of xs)) name) (sym (drop_all place items past))
      ∙ so_far.each name;
}

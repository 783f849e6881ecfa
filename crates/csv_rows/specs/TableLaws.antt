-- Tables that are joined. Nobody need believe these laws: each has its proof.
use Rattle.std.proofs.Common.{◌≡◌, ℕ, List, [], ◌∷◌, ◌++◌, refl, sym, ap, ◌∙◌, append_assoc, append-nil}
use Rattle.csv_rows.specs.Tables.{record_text, table_text}

pub table_text-append : (rs ss : List (List (List ℕ))) → table_text (rs ++ ss) ≡ table_text rs ++ table_text ss
table_text-append [] ss = refl
table_text-append (r ∷ rs) ss = ap (λ t. record_text r ++ t) (table_text-append rs ss) ∙ sym (append_assoc (record_text r) (table_text rs) (table_text ss))

table_text_push : (rs : List (List (List ℕ))) (r : List (List ℕ)) → table_text (rs ++ r ∷ []) ≡ table_text rs ++ record_text r
table_text_push rs r = table_text-append rs (r ∷ []) ∙ ap (λ t. table_text rs ++ t) (append-nil (record_text r))

-- a text that goes on with the records of a table, with one record more
pub record_more : (old text new : List ℕ) (rs : List (List (List ℕ))) (r : List (List ℕ)) → text ≡ old ++ table_text rs → new ≡ text ++ record_text r → new ≡ old ++ table_text (rs ++ r ∷ [])
record_more old text new rs r was is =
    is ∙ ap (λ t. t ++ record_text r) was ∙ append_assoc old (table_text rs) (record_text r) ∙ ap (λ t. old ++ t) (sym (table_text_push rs r))

-- A writer of records of any lengths writes each as the default writer does.
use Rattle.std.proofs.Common.{◌≡◌, ℕ, List, [], ◌∷◌, ◌++◌, refl, ap, ◌∙◌}
use Rattle.std.specs.Prelude.{Result, Ok, Err, OnOk}
use Rattle.csv.specs.Writing.{default_writer, escaped, field_text, fields_text, is_blank, row_body, row_text}
use Rattle.csv.specs.declared.writer.WriterBuilder.{WriterBuilder}
use Rattle.csv_rows.specs.TableStates.{table_writer}
use Rattle.csv_rows.specs.Tables.{record_text}

same_escaped : (field : List ℕ) → escaped table_writer field ≡ escaped default_writer field
unfolding escaped
same_escaped [] = refl
same_escaped (b ∷ rest) = rw (same_escaped rest) refl

same_field : (field : List ℕ) → field_text table_writer field ≡ field_text default_writer field
same_field field = rw (same_escaped field) refl

same_fields : (fields : List (List ℕ)) → fields_text table_writer fields ≡ fields_text default_writer fields
unfolding fields_text
same_fields [] = refl
same_fields (f ∷ rest) = rw (same_field f, same_fields rest) refl

same_body : (fields : List (List ℕ)) → row_body table_writer fields ≡ row_body default_writer fields
same_body [] = refl
same_body (f ∷ rest) = rw (same_field f, same_fields rest) refl

same_blank : (fields : List (List ℕ)) → is_blank table_writer fields ≡ is_blank default_writer fields
unfolding is_blank
same_blank [] = refl
same_blank (f ∷ []) = rw (same_field f) refl
same_blank (f ∷ g ∷ rest) = refl

pub same_record : (fields : List (List ℕ)) → row_text table_writer fields ≡ record_text fields
same_record fields = rw (same_body fields, same_blank fields) refl

-- what a write that went well appends
pub wrote_record : {A E : Type 0} (P : Type 0) (r : Result A E) (cfg : WriterBuilder) (old new : List ℕ) (fields : List (List ℕ)) → cfg ≡ table_writer
    → (P → new ≡ old ++ row_text cfg fields) → OnOk r P → OnOk r (new ≡ old ++ record_text fields)
wrote_record P (Ok x) cfg old new fields same is h = is h ∙ ap (λ t. old ++ t) (ap (λ c. row_text c fields) same ∙ same_record fields)
wrote_record P (Err e) cfg old new fields same is h = tt

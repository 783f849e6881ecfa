-- Words of private contracts: the records that are due, one by one. Nobody need believe them, since what is due for the
-- inputs is said in Labels.
use Rattle.std.specs.Prelude.{ℕ, pos, ℤ, List, [], ◌∷◌, map, Option, Some, None, codes}
use Rattle.std.specs.Fmt.{signed_decimal}
use Rattle.std.specs.List.{enumerate_from}
use Rattle.certificate_text.specs.Lines.{place_text}
use Rattle.fb_certificate.specs.CracRows.{CracRow}
use Rattle.certificate_labels.specs.Labels.{column_label, row_label}
use Rattle.certificate_labels.specs.declared.record.Due.{Due}
use Rattle.certificate_labels.specs.declared.record.Due.TheVariants as due

abbrev pub kind_of : Due → List ℕ
kind_of due.Version = codes "version"
kind_of (due.State number id) = codes "state"
kind_of (due.Barrier state) = codes "barrier"
kind_of (due.Column state zone block) = codes "column"
kind_of (due.Row number) = codes "row"

abbrev pub key_of : Due → List ℕ
key_of due.Version = []
key_of (due.State number id) = signed_decimal (pos number)
key_of (due.Barrier state) = signed_decimal (pos state)
key_of (due.Column state zone block) = place_text (record { state = pos state; zone = pos zone; block = pos block })
key_of (due.Row number) = signed_decimal (pos number)

abbrev pub id_of : Due → Option (List ℕ)
id_of due.Version = None
id_of (due.State number id) = Some id.now
id_of (due.Barrier state) = None
id_of (due.Column state zone block) = None
id_of (due.Row number) = None

-- a kind and a key, and an id if there is one
abbrev pub with_id : List ℕ → List ℕ → Option (List ℕ) → List (List ℕ)
with_id kind key None = kind ∷ key ∷ []
with_id kind key (Some id) = kind ∷ key ∷ id ∷ []

abbrev pub label_of : Due → List (List ℕ)
label_of d = with_id (kind_of d) (key_of d) (id_of d)

abbrev pub labels_of_columns : ℕ → List (ℕ × ℕ) → List (List (List ℕ))
labels_of_columns k places = map (column_label k) places

-- the labels of rows, numbered from a number
abbrev pub labels_of_rows : ℕ → List CracRow → List (List (List ℕ))
labels_of_rows n rows = map (λ row. row_label row.0) (enumerate_from n rows)

-- the label of the row with this number, if there is a limit
abbrev pub labels_if : Option ℤ → ℕ → List (List (List ℕ))
labels_if None n = []
labels_if (Some limit) n = row_label n ∷ []

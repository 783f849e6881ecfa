-- The text of a domain: a CSV table with a header, and a record for each row of the CRAC beside the numbers that the certificate
-- has of it.
use Rattle.std.specs.Prelude.{ℕ, ◌==◌, ◌-ℤ◌, Bool, true, false, List, [], ◌∷◌, ◌++◌, map, filter, Option, Some, None, codes, slice_get, if◌then◌else◌}
use Rattle.std.specs.Fmt.{decimal, signed_decimal}
use Rattle.std.specs.List.{find, flat_map, enumerate_from, zip}
use Rattle.std.specs.Option.{option_map_or}
use Rattle.csv_rows.specs.Tables.{table_text}
use Rattle.fb_types.specs.declared.crac.Contingency.{Contingency}
use Rattle.fb_types.specs.declared.crac.Crac.{Crac}
use Rattle.fb_types.specs.declared.crac.Element.{Element}
use Rattle.fb_types.specs.declared.rows.Mult.{Mult}
use Rattle.fb_types.specs.declared.rows.Multipliers.{Multipliers}
use Rattle.run_settings.specs.declared.model.Zone.{Zone}
use Rattle.cnec_selection.specs.declared.Class.{Class}
use Rattle.cnec_selection.specs.declared.Class.TheVariants.{Below, Doubtful, Certain}
use Rattle.cnec_rows.specs.declared.types.RowProof.{RowProof}
use Rattle.fb_certificate.specs.CracRows.{CracRow, crac_rows}
use Rattle.fb_certificate.specs.Lists.{inner_list, outer_list, is_removed}
use Rattle.fb_certificate.specs.declared.types.Cite.{Cite}
use Rattle.fb_certificate.specs.declared.types.Certificate.{Certificate}
use Rattle.fb_certificate.specs.declared.types.Inputs.{Inputs}

-- ---- Words

abbrev pub direction_word : Bool → List ℕ
direction_word false = codes "DIRECT"
direction_word true = codes "OPPOSITE"

abbrev pub class_word : Class → List ℕ
class_word Below = codes "BELOW"
class_word Doubtful = codes "DOUBTFUL"
class_word Certain = codes "CERTAIN"

-- the id of the contingency, empty in the base state
abbrev pub contingency_id : List Contingency → Option ℕ → List ℕ
contingency_id contingencies None = []
contingency_id contingencies (Some k) = option_map_or (λ c. c.id) (slice_get contingencies k) []

-- ---- A row in one of the two lists

-- what becomes of the row with this number, if it stands in the list
abbrev pub fate_word : Bool → List Cite → ℕ → List ℕ
fate_word false cites number = codes "-"
fate_word true cites number = if is_removed cites number then codes "REMOVED" else codes "KEPT"

-- mu, and then for each multiplier a blank, its row, a colon and its value
abbrev pub multiplier_text : Mult → List ℕ
multiplier_text m = 32 ∷ (decimal m.row ++ 58 ∷ signed_decimal m.value)

abbrev pub citation_text : Multipliers → List ℕ
citation_text by = signed_decimal by.mu ++ flat_map multiplier_text by.mults

-- the first cite that names the row
abbrev pub cite_of : List Cite → ℕ → Option Cite
cite_of cites number = find (λ cite. cite.row == number) cites

-- its citation, empty where the row is not removed
abbrev pub citation : Bool → List Cite → ℕ → List ℕ
citation false cites number = []
citation true cites number = option_map_or (λ cite. citation_text cite.by) (cite_of cites number) []

-- ---- The table

abbrev pub label_columns : List (List ℕ)
label_columns = codes "row" ∷ codes "element" ∷ codes "instant" ∷ codes "contingency" ∷ codes "direction" ∷ []

abbrev pub side_columns : List (List ℕ)
side_columns = codes "class" ∷ codes "inner" ∷ codes "outer" ∷ codes "r_in" ∷ codes "r_out" ∷ codes "gap" ∷ []

abbrev pub zone_columns : List Zone → List (List ℕ)
zone_columns zones = map (λ zone. codes "a:" ++ zone.id) (filter (λ zone. zone.core) zones)

abbrev pub citation_columns : List (List ℕ)
citation_columns = codes "inner_by" ∷ codes "outer_by" ∷ []

abbrev pub header : List Zone → List (List ℕ)
header zones = label_columns ++ (side_columns ++ (zone_columns zones ++ citation_columns))

-- what names a row: its number, its element's id and instant, the contingency and the direction
abbrev pub labels : List Contingency → ℕ → Element → Bool → List (List ℕ)
labels contingencies number element opposite =
    decimal number ∷ element.id ∷ element.instant ∷ contingency_id contingencies element.contingency ∷ direction_word opposite ∷ []

-- its class, what becomes of it, its right sides and their gap
abbrev pub sides : Certificate → ℕ → RowProof → List (List ℕ)
sides certificate number row =
    class_word row.class
    ∷ fate_word (inner_list.holds row.class) certificate.inner number
    ∷ fate_word (outer_list.holds row.class) certificate.outer number
    ∷ signed_decimal row.r_in
    ∷ signed_decimal row.r_out
    ∷ signed_decimal (row.r_out -ℤ row.r_in)
    ∷ []

abbrev pub coefficients : RowProof → List (List ℕ)
coefficients row = map signed_decimal row.a

abbrev pub citations : Certificate → ℕ → RowProof → List (List ℕ)
citations certificate number row =
    citation (inner_list.holds row.class) certificate.inner number ∷ citation (outer_list.holds row.class) certificate.outer number ∷ []

-- the record of the row with this number
abbrev pub row_fields : List Contingency → Certificate → ℕ → Element → Bool → RowProof → List (List ℕ)
row_fields contingencies certificate number element opposite row =
    labels contingencies number element opposite ++ (sides certificate number row ++ (coefficients row ++ citations certificate number row))

abbrev pub record_of : List Contingency → Certificate → (ℕ × CracRow) × RowProof → List (List ℕ)
record_of contingencies certificate e = row_fields contingencies certificate e.0.0 e.0.1.element e.0.1.opposite e.1

-- a record for each row of the CRAC, numbered from 1, beside its numbers
abbrev pub records : Crac → Certificate → List (List (List ℕ))
records crac certificate = map (record_of crac.contingencies certificate) (zip (enumerate_from 1 (crac_rows crac.elements)) certificate.rows)

abbrev pub domain_text : Inputs → Certificate → List ℕ
domain_text inputs certificate = table_text (header inputs.settings.zones ∷ records inputs.crac certificate)

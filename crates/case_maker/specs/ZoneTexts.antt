-- The settings and the shift keys of a case: sixteen zones, of which the first twelve are Core zones.
use Rattle.std.specs.Prelude.{ℕ, List, [], ◌∷◌, map, codes, if◌then◌else◌, nat_lt}
use Rattle.std.specs.Fmt.{decimal}
use Rattle.std.specs.List.{range_with_len}
use Rattle.case_maker.specs.Json.{quoted, member, object, array}
use Rattle.case_maker.specs.Naming.{zone_code}

-- what is set of a zone: a Core zone has bounds, in MW
abbrev pub setting_text : ℕ → List ℕ
setting_text zone = object (member (codes "id") (quoted (zone_code zone)) ∷ (
    if nat_lt zone 12 then member (codes "min") (codes "-10000") ∷ member (codes "max") (codes "10000") ∷ []
    else member (codes "core") (codes "false") ∷ []))

abbrev pub settings_of : List (List ℕ)
settings_of = map setting_text (range_with_len 0 16)

abbrev pub settings_text : List ℕ
settings_text = object (
    member (codes "moment") (quoted (codes "2024-05-01T10:30:00Z")) ∷
    member (codes "zones") (array settings_of) ∷ [])

-- a block of a key, with its share in per cent
abbrev pub block_text : List ℕ → ℕ → List ℕ
block_text business share = object (
    member (codes "business") (quoted business) ∷
    member (codes "share") (decimal share) ∷
    member (codes "kind") (quoted (codes "proportional")) ∷ [])

-- the key of a Core zone, for one day
abbrev pub series_text : ℕ → List ℕ
series_text zone = object (
    member (codes "zone") (quoted (zone_code zone)) ∷
    member (codes "from") (quoted (codes "2024-05-01T00:00:00Z")) ∷
    member (codes "to") (quoted (codes "2024-05-02T00:00:00Z")) ∷
    member (codes "blocks") (array (block_text (codes "GSK") 60 ∷ block_text (codes "LSK") 40 ∷ [])) ∷ [])

abbrev pub series_of : List (List ℕ)
series_of = map series_text (range_with_len 0 12)

abbrev pub glsk_text : List ℕ
glsk_text = object (member (codes "series") (array series_of) ∷ [])

-- Words of private contracts, which nobody need believe: pieces of the JSON documents.
use Rattle.std.specs.Prelude.{ℕ, List, [], ◌∷◌, ◌++◌, codes, if◌then◌else◌, ◌==◌}
use Rattle.std.specs.Fmt.{decimal}
use Rattle.std.specs.List.{join_with_byte}
use Rattle.case_maker.specs.CracTexts.{threshold_text, contingencies_of, flow_elements_of}
use Rattle.case_maker.specs.Json.{member, array}
use Rattle.case_maker.specs.ZoneTexts.{settings_of, series_of}

-- what stands before the item at a place of a list
abbrev pub separator : ℕ → List ℕ
separator place = if place == 0 then [] else 44 ∷ []

-- items or members with commas between them
abbrev pub parted : List (List ℕ) → List ℕ
parted items = join_with_byte 44 items

abbrev pub contingency_texts : ℕ → List ℕ
contingency_texts nodes = parted (contingencies_of nodes)

abbrev pub element_texts : ℕ → ℕ → List ℕ
element_texts state nodes = parted (flow_elements_of state nodes)

abbrev pub setting_texts : List ℕ
setting_texts = parted settings_of

abbrev pub series_texts : List ℕ
series_texts = parted series_of

-- the members of an element with its margin and its limit
abbrev pub limit_members : ℕ → ℕ → List (List ℕ)
limit_members margin limit = member (codes "reliabilityMargin") (decimal margin) ∷ member (codes "thresholds") (array (threshold_text limit ∷ [])) ∷ []

-- the same up to the element's end
abbrev pub limits_text : ℕ → ℕ → List ℕ
limits_text margin limit = parted (limit_members margin limit) ++ codes "}"

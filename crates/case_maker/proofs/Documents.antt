-- The texts as they are printed, and as the definitions say them.
use Rattle.std.proofs.Common.{◌≡◌, ℕ, ◌+◌, ◌-◌, ◌/◌, ◌%◌, Bool, true, false, cond, List, [], ◌∷◌, ◌++◌, length, replicate, refl, sym, ap, ◌∙◌, arith, append_assoc, length-append}
use Rattle.std.specs.Prelude.{codes, ◌==◌}
use Rattle.std.specs.Fmt.{decimal}
use Rattle.std.specs.List.{join_with_byte}
use Rattle.std.proofs.lemmas.List.{length-replicate}
use Rattle.std.proofs.lemmas.Fmt.{length-decimal-le}
use Rattle.case_maker.specs.CracTexts.{instant_text, outage_id, instant_members, limit_of, margin_of, element_text}
use Rattle.case_maker.specs.GridTexts.{hundredths_text}
use Rattle.case_maker.specs.Json.{quoted, member, object}
use Rattle.case_maker.specs.Layout.{outages_of, element_node}
use Rattle.case_maker.specs.Naming.{filled, zone_code, branch_id}
use Rattle.case_maker.specs.Pieces.{parted, limit_members, limits_text}
use Rattle.case_maker.specs.ZoneTexts.{block_text, series_text}

-- a list in brackets, whose items are joined already
abbrev pub bracketed : List ℕ → List ℕ
bracketed items = 91 ∷ (items ++ 93 ∷ [])

inside_two : (p o q r b s t : List ℕ) → p ++ (o ++ (q ++ (r ++ (b ++ (q ++ (s ++ t)))))) ≡ p ++ (((o ++ q) ++ (r ++ ((b ++ q) ++ s))) ++ t)
inside_two p o q r b s t = simp append_assoc

pub contingency_printed : (outage branch : List ℕ)
    → codes "{\"id\":\"o" ++ (outage ++ (codes "\",\"networkElementsIds\":[\"" ++ (branch ++ codes "\"]}")))
    ≡ object (member (codes "id") (quoted (codes "o" ++ outage)) ∷ member (codes "networkElementsIds") (bracketed (quoted branch)) ∷ [])
contingency_printed outage branch = inside_two (codes "{\"id\":\"o") outage (34 ∷ []) (codes ",\"networkElementsIds\":[\"") branch (93 ∷ []) (125 ∷ [])

inside_limits : (w m v x l z t : List ℕ) → w ++ (m ++ (v ++ (l ++ (x ++ (l ++ (t ++ (z ++ t))))))) ≡ w ++ (m ++ (v ++ (((l ++ (x ++ l)) ++ t) ++ z))) ++ t
inside_limits w m v x l z t = simp append_assoc

pub limits_printed : (margin limit : ℕ)
    → codes "\"reliabilityMargin\":" ++ (decimal margin ++ (codes ",\"thresholds\":[{\"unit\":\"megawatt\",\"min\":-" ++ (decimal limit ++ (codes ",\"max\":" ++ (decimal limit ++ codes "}]}")))))
    ≡ limits_text margin limit
limits_printed margin limit =
    inside_limits (codes "\"reliabilityMargin\":") (decimal margin) (codes ",\"thresholds\":[{\"unit\":\"megawatt\",\"min\":-") (codes ",\"max\":") (decimal limit) (93 ∷ []) (125 ∷ [])

-- one member or two in the middle
members_joined : (b : Bool) (first second one two three : List ℕ) (x : List ℕ) (xs : List (List ℕ))
    → join_with_byte 44 (first ∷ second ∷ (cond b (one ∷ []) (two ∷ three ∷ []) ++ x ∷ xs))
    ≡ first ++ 44 ∷ (second ++ 44 ∷ (join_with_byte 44 (cond b (one ∷ []) (two ∷ three ∷ [])) ++ 44 ∷ join_with_byte 44 (x ∷ xs)))
members_joined true first second one two three x xs = refl
members_joined false first second one two three x xs =
    ap (λ t. first ++ 44 ∷ (second ++ 44 ∷ t)) (sym (append_assoc two (44 ∷ three) (44 ∷ join_with_byte 44 (x ∷ xs))))

inside_element : (p e q r b s i u j t : List ℕ)
    → p ++ (e ++ (q ++ (r ++ (b ++ (q ++ (s ++ (i ++ u))))))) ++ (j ++ t) ≡ p ++ (((e ++ q) ++ (r ++ ((b ++ q) ++ (s ++ (i ++ (u ++ j)))))) ++ t)
inside_element p e q r b s i u j t = simp append_assoc

-- an element up to its margin
abbrev pub element_begun : ℕ → List ℕ → List ℕ → List ℕ
element_begun element branch instant = codes "{\"id\":\"e" ++ (decimal element ++ (codes "\",\"networkElementId\":\"" ++ (branch ++ (codes "\"," ++ (instant ++ codes ",\"optimized\":true,")))))

pub element_printed : (state nodes element : ℕ)
    → element_begun element (branch_id nodes (element_node nodes element) 1) (parted (instant_members nodes element)) ++ limits_text (margin_of state) (limit_of state)
    ≡ element_text state nodes element
element_printed state nodes element =
    let branch = branch_id nodes (element_node nodes element) 1 in
    let instant = parted (instant_members nodes element) in
    let limits = limit_members (margin_of state) (limit_of state) in
    inside_element (codes "{\"id\":\"e") (decimal element) (34 ∷ []) (codes ",\"networkElementId\":\"") branch (44 ∷ []) instant (codes ",\"optimized\":true,") (parted limits) (125 ∷ [])
    ∙ ap (λ t. 123 ∷ (t ++ 125 ∷ [])) (sym (members_joined (element % 2 == 0)
    (member (codes "id") (quoted (codes "e" ++ decimal element))) (member (codes "networkElementId") (quoted branch))
    (member (codes "instant") (quoted (codes "preventive"))) (member (codes "instant") (quoted (codes "outage"))) (member (codes "contingencyId") (quoted (outage_id (element % outages_of nodes))))
    (member (codes "optimized") (codes "true")) limits))

-- the instants
abbrev pub instants : List ℕ
instants = instant_text (codes "preventive") (codes "PREVENTIVE") ++ 44 ∷ instant_text (codes "outage") (codes "OUTAGE")

inside_crac : (p i q a r b s t : List ℕ) → p ++ i ++ (q ++ r) ++ a ++ (q ++ s) ++ b ++ (q ++ t) ≡ p ++ ((i ++ q) ++ (r ++ ((a ++ q) ++ (s ++ (b ++ q)))) ++ t)
inside_crac p i q a r b s t = simp append_assoc

pub crac_joined : (contingencies elements : List ℕ)
    → codes "{\"type\":\"CRAC\",\"version\":\"2.5\",\"instants\":[" ++ instants ++ codes "],\"contingencies\":[" ++ contingencies ++ codes "],\"flowCnecs\":[" ++ elements ++ codes "]}"
    ≡ object (member (codes "type") (quoted (codes "CRAC")) ∷ member (codes "version") (quoted (codes "2.5")) ∷ member (codes "instants") (bracketed instants)
    ∷ member (codes "contingencies") (bracketed contingencies) ∷ member (codes "flowCnecs") (bracketed elements) ∷ [])
crac_joined contingencies elements =
    inside_crac (codes "{\"type\":\"CRAC\",\"version\":\"2.5\",\"instants\":[") instants (93 ∷ []) contingencies (codes ",\"contingencies\":[") elements (codes ",\"flowCnecs\":[") (125 ∷ [])

pub settings_joined : (zones : List ℕ)
    → codes "{\"moment\":\"2024-05-01T10:30:00Z\",\"zones\":[" ++ zones ++ codes "]}"
    ≡ object (member (codes "moment") (quoted (codes "2024-05-01T10:30:00Z")) ∷ member (codes "zones") (bracketed zones) ∷ [])
settings_joined zones = simp append_assoc

pub glsk_joined : (series : List ℕ) → codes "{\"series\":[" ++ series ++ codes "]}" ≡ object (member (codes "series") (bracketed series) ∷ [])
glsk_joined series = simp append_assoc

inside_block : (p b q r n s t : List ℕ) → p ++ (b ++ (q ++ (r ++ (n ++ (s ++ t))))) ≡ p ++ (((b ++ q) ++ (r ++ (n ++ s))) ++ t)
inside_block p b q r n s t = simp append_assoc

pub block_printed : (business : List ℕ) (share : ℕ)
    → codes "{\"business\":\"" ++ (business ++ (codes "\",\"share\":" ++ (decimal share ++ codes ",\"kind\":\"proportional\"}"))) ≡ block_text business share
block_printed business share =
    inside_block (codes "{\"business\":\"") business (34 ∷ []) (codes ",\"share\":") (decimal share) (codes ",\"kind\":\"proportional\"") (125 ∷ [])

inside_series : (old p c q f g m l s t : List ℕ)
    → old ++ (p ++ (c ++ (q ++ f))) ++ g ++ m ++ l ++ (s ++ t) ≡ old ++ (p ++ (((c ++ q) ++ (f ++ ((g ++ (m ++ l)) ++ s))) ++ t))
inside_series old p c q f g m l s t = simp append_assoc

-- the series of a zone up to its blocks
abbrev pub series_begun : List ℕ → List ℕ
series_begun code = codes "{\"zone\":\"" ++ (code ++ codes "\",\"from\":\"2024-05-01T00:00:00Z\",\"to\":\"2024-05-02T00:00:00Z\",\"blocks\":[")

pub series_joined : (zone : ℕ) (old : List ℕ)
    → old ++ series_begun (zone_code zone) ++ block_text (codes "GSK") 60 ++ codes "," ++ block_text (codes "LSK") 40 ++ codes "]}" ≡ old ++ series_text zone
series_joined zone old =
    inside_series old (codes "{\"zone\":\"") (zone_code zone) (34 ∷ []) (codes ",\"from\":\"2024-05-01T00:00:00Z\",\"to\":\"2024-05-02T00:00:00Z\",\"blocks\":[")
    (block_text (codes "GSK") 60) (44 ∷ []) (block_text (codes "LSK") 40) (93 ∷ []) (125 ∷ [])

-- ---- Lines of the grid

two_digits : (n : ℕ) → length (filled 48 2 (decimal (n % 100))) ≡ 2
two_digits n =
    let few = length-decimal-le 2 (n % 100) (omega arith) (omega arith) (omega arith) in
    length-append (replicate (2 - length (decimal (n % 100))) 48) (decimal (n % 100))
    ∙ ap (λ k. k + length (decimal (n % 100))) (length-replicate (2 - length (decimal (n % 100))) 48)
    ∙ omega (arith, few)

hundredths_in_columns : (n : ℕ) → filled 32 11 (decimal (n / 100)) ++ 46 ∷ filled 48 2 (decimal (n % 100)) ≡ filled 32 14 (hundredths_text n)
hundredths_in_columns n =
    let rest = filled 48 2 (decimal (n % 100)) in
    let long : 11 - length (decimal (n / 100)) ≡ 14 - length (hundredths_text n) =
    let whole = length-append (decimal (n / 100)) (46 ∷ rest) in omega (arith, whole, two_digits n) in
    append_assoc (replicate (11 - length (decimal (n / 100))) 32) (decimal (n / 100)) (46 ∷ rest)
    ∙ ap (λ k. replicate k 32 ++ hundredths_text n) long

pub branch_printed : (id : List ℕ) (n : ℕ)
    → id ++ 32 ∷ 48 ∷ (filled 32 11 (decimal (n / 100)) ++ 46 ∷ (filled 48 2 (decimal (n % 100)) ++ 10 ∷ []))
    ≡ id ++ 32 ∷ 48 ∷ (filled 32 14 (hundredths_text n) ++ 10 ∷ [])
branch_printed id n =
    ap (λ t. id ++ 32 ∷ 48 ∷ t)
    (sym (append_assoc (filled 32 11 (decimal (n / 100))) (46 ∷ filled 48 2 (decimal (n % 100))) (10 ∷ [])) ∙ ap (λ t. t ++ 10 ∷ []) (hundredths_in_columns n))

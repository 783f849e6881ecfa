-- The contingencies and the elements of a case, as a JSON CRAC. What is drawn is drawn from a state on.
use Rattle.std.specs.Prelude.{ℕ, ◌+◌, ◌*◌, ◌%◌, List, [], ◌∷◌, ◌++◌, map, codes, if◌then◌else◌, ◌==◌}
use Rattle.std.specs.Fmt.{decimal}
use Rattle.std.specs.List.{range_with_len}
use Rattle.case_maker.specs.Drawing.{state_after, draw_at}
use Rattle.case_maker.specs.Json.{quoted, member, object, array}
use Rattle.case_maker.specs.Layout.{outages_of, elements_of, outage_node, element_node}
use Rattle.case_maker.specs.Naming.{branch_id}

-- an instant
abbrev pub instant_text : List ℕ → List ℕ → List ℕ
instant_text id kind = object (member (codes "id") (quoted id) ∷ member (codes "kind") (quoted kind) ∷ [])

-- the id of a contingency
abbrev pub outage_id : ℕ → List ℕ
outage_id outage = codes "o" ++ decimal outage

-- a contingency: it takes out a chord
abbrev pub contingency_text : ℕ → ℕ → List ℕ
contingency_text nodes outage = object (
    member (codes "id") (quoted (outage_id outage)) ∷
    member (codes "networkElementsIds") (array (quoted (branch_id nodes (outage_node nodes outage) 7) ∷ [])) ∷ [])

-- when an element is monitored: an even one in the grid without outages, an odd one after a contingency
abbrev pub instant_members : ℕ → ℕ → List (List ℕ)
instant_members nodes element = if element % 2 == 0 then member (codes "instant") (quoted (codes "preventive")) ∷ []
    else member (codes "instant") (quoted (codes "outage")) ∷ member (codes "contingencyId") (quoted (outage_id (element % outages_of nodes))) ∷ []

-- the limit of an element and its reliability margin, in MW, which are drawn in this order
abbrev pub limit_of : ℕ → ℕ
limit_of state = 500 + draw_at state 0 1500

abbrev pub margin_of : ℕ → ℕ
margin_of state = draw_at state 1 100

-- a threshold: the same limit in both directions
abbrev pub threshold_text : ℕ → List ℕ
threshold_text limit = object (
    member (codes "unit") (quoted (codes "megawatt")) ∷
    member (codes "min") (codes "-" ++ decimal limit) ∷
    member (codes "max") (decimal limit) ∷ [])

-- an element: it monitors a line round the ring
abbrev pub element_text : ℕ → ℕ → ℕ → List ℕ
element_text state nodes element = object (
    member (codes "id") (quoted (codes "e" ++ decimal element)) ∷
    member (codes "networkElementId") (quoted (branch_id nodes (element_node nodes element) 1)) ∷ (
    instant_members nodes element ++
    member (codes "optimized") (codes "true") ∷
    member (codes "reliabilityMargin") (decimal (margin_of state)) ∷
    member (codes "thresholds") (array (threshold_text (limit_of state) ∷ [])) ∷ []))

-- the contingencies and the elements, each in its order
abbrev pub contingencies_of : ℕ → List (List ℕ)
contingencies_of nodes = map (contingency_text nodes) (range_with_len 0 (outages_of nodes))

-- each element draws two numbers
abbrev pub next_element : ℕ → ℕ → ℕ → List ℕ
next_element state nodes element = element_text (state_after state (2 * element)) nodes element

abbrev pub flow_elements_of : ℕ → ℕ → List (List ℕ)
flow_elements_of state nodes = map (next_element state nodes) (range_with_len 0 (elements_of nodes))

abbrev pub crac_text : ℕ → ℕ → List ℕ
crac_text state nodes = object (
    member (codes "type") (quoted (codes "CRAC")) ∷
    member (codes "version") (quoted (codes "2.5")) ∷
    member (codes "instants") (array (instant_text (codes "preventive") (codes "PREVENTIVE") ∷ instant_text (codes "outage") (codes "OUTAGE") ∷ [])) ∷
    member (codes "contingencies") (array (contingencies_of nodes)) ∷
    member (codes "flowCnecs") (array (flow_elements_of state nodes)) ∷ [])

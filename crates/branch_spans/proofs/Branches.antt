-- A branch that carries between two classes stands in the row of its first node's class.
use Rattle.std.proofs.Common.{◌≡◌, ◌≢◌, ℕ, zero, suc, ◌+◌, ◌^◌, ◌<◌, ◌≤◌, ◌⊎◌, inl, inr, Bool, true, false, cond, not, eqb, ◌&&◌, List, [], ◌∷◌, length, get_or, map, All, Option, Some, None, pos, ◌≤ℤ◌, refl, sym, ap, subst, ◌∙◌, arith, true≢false}
use Rattle.std.specs.Prelude.{slice_get, slice_index_or, unsigned_abs}
use Rattle.std.specs.List.{filter, filter_map, enumerate_from, cons_option}
use Rattle.std.proofs.lemmas.Bool.{and_parts, cases_eq, eq-eqb, ne_eqb, cond-true}
use Rattle.std.proofs.lemmas.List.Elements.{All-head, All-tail, All-get_or}
use Rattle.fb_types.specs.declared.grid.Branch.{Branch}
use Rattle.fb_types.specs.declared.grid.Grid.{Grid}
use Rattle.fb_types.specs.GridRanges.{IsBranch, IsRunning}
use Rattle.grid_state.specs.declared.types.Edge.{Edge}
use Rattle.grid_state.specs.declared.links.Link.{Link}
use Rattle.grid_state.specs.GridState.{GridState, classes_of, class_at, is_live, is_free, carries_at, row_of, weight_to, weight, susceptance_over, IsSound}
use Rattle.grid_state.specs.Links.{is_coupler_kind, is_line, is_out, is_chosen, link_of, between}
use Rattle.grid_state.specs.Rows.{is_crossing, end_seen, edge_seen, carries_in}
use Rattle.grid_state.specs.States.{IsStateOf}
use Rattle.grid_laplacian.specs.Sizes.{greatest_susceptance_of}
use Rattle.grid_laplacian.specs.Ranges.{HasCrossing, IsOfGrid}
use Rattle.grid_laplacian.proofs.LawProofs.{part_of_weight}
use Rattle.grid_laplacian.proofs.Crossings.{susceptance-le-greatest}
use Rattle.security.specs.Flows.{NumberedBranch}
use Rattle.exact_flows.proofs.Listed.{class_below}
use Rattle.branch_spans.specs.FlowSpans.{IsBranchOf}

-- ---- branches by their numbers

at_number : (f : ℕ × Branch → Bool) (bs : List Branch) (a k : ℕ) (br : Branch) → slice_get bs k ≡ Some br → slice_index_or (map f (enumerate_from a bs)) k false ≡ f (a + k, br)
at_number f [] a k br e = absurd cc
at_number f (b ∷ bs) a zero br e =
    let same : b ≡ br = cc in
    let n : a ≡ a + 0 = omega arith in
    ap (λ c. f (a, c)) same ∙ ap (λ m. f (m, br)) n
at_number f (b ∷ bs) a (suc k) br e = let n : (a + 1) + k ≡ a + suc k = omega arith in at_number f bs (a + 1) k br e ∙ ap (λ m. f (m, br)) n

numbered_below : (bs : List Branch) (k : ℕ) (br : Branch) → slice_get bs k ≡ Some br → k < length bs
numbered_below [] k br e = absurd cc
numbered_below (b ∷ bs) zero br e = omega arith
numbered_below (b ∷ bs) (suc k) br e = let h = numbered_below bs k br e in omega (arith, h)

get_is : (bs : List Branch) (k : ℕ) (br d : Branch) → slice_get bs k ≡ Some br → get_or bs k d ≡ br
get_is [] k br d e = absurd cc
get_is (b ∷ bs) zero br d e = cc
get_is (b ∷ bs) (suc k) br d e = get_is bs k br d e

-- ---- what a branch that carries is

-- a line or a transformer in operation, whose nodes are of live classes
pub record Carried (s : GridState) (br : Branch) : Type 0 where
  pub line : is_line br ≡ true
  pub in_operation : br.in_operation ≡ true
  pub from_live : is_live s (class_at s br.from) ≡ true
  pub to_live : is_live s (class_at s br.to) ≡ true

carries_is : (grid : Grid) (slack : ℕ) (outage : List ℕ) (s : GridState) (k : ℕ) (br : Branch) → IsStateOf grid slack outage s → slice_get grid.branches k ≡ Some br → carries_at s k ≡ true
    → carries_in (is_out outage) s.class_of s.live (0 + k, br) ≡ true
carries_is grid slack outage s k br state stands carries =
    sym (at_number (carries_in (is_out outage) s.class_of s.live) grid.branches 0 k br stands) ∙ sym (ap (λ (cs : List Bool). slice_index_or cs k false) state.carries) ∙ carries

pub carried : (grid : Grid) (s : GridState) (c : NumberedBranch) → IsOfGrid grid s → IsBranchOf grid c → carries_at s c.number ≡ true → Carried s c.branch
carried grid s c of stands carries =
    let h = carries_is grid of.slack_node of.outage s c.number c.branch of.of_grid stands.stands carries in
    let parts = and_parts (is_chosen is_line (is_out of.outage) (0 + c.number, c.branch)) (is_live s (class_at s c.branch.from) && is_live s (class_at s c.branch.to)) h in
    let chosen = and_parts (is_line c.branch) (c.branch.in_operation && not (is_out of.outage (0 + c.number))) parts.0 in
    let running = and_parts c.branch.in_operation (not (is_out of.outage (0 + c.number))) chosen.1 in
    let ends = and_parts (is_live s (class_at s c.branch.from)) (is_live s (class_at s c.branch.to)) parts.1 in
    record { line = chosen.0; in_operation = running.0; from_live = ends.0; to_live = ends.1 }

-- its susceptance is in range
pub record InRange (br : Branch) : Type 0 where
  pub some : pos 1 ≤ℤ br.b
  pub small : br.b ≤ℤ pos (10 ^ 11)

pub in_range : (grid : Grid) (s : GridState) (c : NumberedBranch) → IsOfGrid grid s → IsBranchOf grid c → carries_at s c.number ≡ true → InRange c.branch
in_range grid s c of stands carries =
    let h = carried grid s c of stands carries in
    let below = numbered_below grid.branches c.number c.branch stands.stands in
    let branch = subst (IsBranch (length grid.nodes)) (get_is grid.branches c.number c.branch c.branch stands.stands) (All-get_or (IsBranch (length grid.nodes)) grid.branches c.number c.branch below grid.branches_in_range.each) in
    let running : IsRunning c.branch = record { in_operation = h.in_operation; no_coupler = λ e. true≢false (sym h.line ∙ ap (λ kind. not (is_coupler_kind kind)) e) } in
    record { some = branch.some running; small = branch.small running }

-- ---- the row

-- the links of the classes, of chosen branches
abbrev linked : List ℕ → List (ℕ × Branch) → List Link
linked class_of ps = map (between class_of) (map (λ p. link_of p.1) ps)

uncons : (P : Edge → Type 0) (o : Option Edge) (es : List Edge) → All P (cons_option o es) → All P es
uncons P None es h = h
uncons P (Some e) es h = All-tail P e es h

tail_of : (P : Edge → Type 0) (h : Link → Option Edge) (class_of : List ℕ) (t : Bool) (x : ℕ × Branch) (ps : List (ℕ × Branch))
    → All P (filter_map h (linked class_of (cond t (x ∷ ps) ps))) → All P (filter_map h (linked class_of ps))
tail_of P h class_of true x ps all = uncons P (h (between class_of (link_of x.1))) (filter_map h (linked class_of ps)) all
tail_of P h class_of false x ps all = all

first_of : (P : Edge → Type 0) (o : Option Edge) (es : List Edge) (edge : Edge) → o ≡ Some edge → All P (cons_option o es) → P edge
first_of P None es edge e h = absurd cc
first_of P (Some x) es edge e h = let same : x ≡ edge = cc in subst P same (All-head P x es h)

head_of : (P : Edge → Type 0) (h : Link → Option Edge) (class_of : List ℕ) (t : Bool) (x : ℕ × Branch) (ps : List (ℕ × Branch)) (edge : Edge)
    → t ≡ true → h (between class_of (link_of x.1)) ≡ Some edge → All P (filter_map h (linked class_of (cond t (x ∷ ps) ps))) → P edge
head_of P h class_of true x ps edge e seen all = first_of P (h (between class_of (link_of x.1))) (filter_map h (linked class_of ps)) edge seen all
head_of P h class_of false x ps edge e seen all = absurd (true≢false (sym e))

listed : (P : Edge → Type 0) (h : Link → Option Edge) (class_of : List ℕ) (chosen : ℕ × Branch → Bool) (bs : List Branch) (a k : ℕ) (br : Branch) (edge : Edge)
    → slice_get bs k ≡ Some br → chosen (a + k, br) ≡ true → h (between class_of (link_of br)) ≡ Some edge
    → All P (filter_map h (linked class_of (filter chosen (enumerate_from a bs)))) → P edge
listed P h class_of chosen [] a k br edge e c seen all = absurd cc
listed P h class_of chosen (b ∷ bs) a zero br edge e c seen all =
    let same : br ≡ b = cc in
    let n : a + 0 ≡ a = omega arith in
    head_of P h class_of (chosen (a, b)) (a, b) (filter chosen (enumerate_from (a + 1) bs)) edge
    (sym (ap (λ m. chosen (m, br)) n ∙ ap (λ (x : Branch). chosen (a, x)) same) ∙ c) (sym (ap (λ (x : Branch). h (between class_of (link_of x))) same) ∙ seen) all
listed P h class_of chosen (b ∷ bs) a (suc k) br edge e c seen all =
    let n : a + suc k ≡ (a + 1) + k = omega arith in
    listed P h class_of chosen bs (a + 1) k br edge e (sym (ap (λ m. chosen (m, br)) n) ∙ c) seen
    (tail_of P h class_of (chosen (a, b)) (a, b) (filter chosen (enumerate_from (a + 1) bs)) all)

-- the branch as its first node's class sees it
abbrev pub edge_of_branch : GridState → Branch → Edge
edge_of_branch s br = record { to = class_at s br.to; b = unsigned_abs br.b }

seen_here : (live : List Bool) (l : Link) → is_crossing live l ≡ true → edge_seen live l.one l ≡ Some (record { to = l.other; b = l.b })
seen_here live l crossing =
    cond-true (is_crossing live l) (end_seen l.one l) None crossing
    ∙ cond-true (eqb l.one l.one) (Some (record { to = l.other; b = l.b })) (cond (eqb l.other l.one) (Some (record { to = l.one; b = l.b })) None) (eq-eqb l.one l.one refl)

-- what holds of every branch of the row of its first node's class holds of it
pub in_row : (grid : Grid) (s : GridState) (c : NumberedBranch) → IsSound s → IsOfGrid grid s → IsBranchOf grid c → carries_at s c.number ≡ true → class_at s c.branch.from ≢ class_at s c.branch.to
    → (P : Edge → Type 0) → All P (row_of s (class_at s c.branch.from)) → P (edge_of_branch s c.branch)
in_row grid s c sound of stands carries apart P all =
    let i = class_at s c.branch.from in
    let h = carries_is grid of.slack_node of.outage s c.number c.branch of.of_grid stands.stands carries in
    let parts = and_parts (is_chosen is_line (is_out of.outage) (0 + c.number, c.branch)) (is_live s i && is_live s (class_at s c.branch.to)) h in
    let l = between s.class_of (link_of c.branch) in
    let crossing : is_crossing s.live l ≡ true = both (eqb i (class_at s c.branch.to)) (is_live s i && is_live s (class_at s c.branch.to)) (ne_eqb i (class_at s c.branch.to) apart) parts.1 in
    let row = of.of_grid.rows.row i (class_below s sound c.branch.from) in
    listed P (edge_seen s.live i) s.class_of (is_chosen is_line (is_out of.outage)) grid.branches 0 c.number c.branch (edge_of_branch s c.branch) stands.stands parts.0 (seen_here s.live l crossing)
    (subst (All P) row all)
  where
    both : (x y : Bool) → x ≡ false → y ≡ true → (not x && y) ≡ true
    both x y e f = ap (λ b. not b && y) e ∙ f

-- ---- sizes

weight-le-susceptance : (es : List Edge) (j : ℕ) → weight_to es j ≤ susceptance_over es
weight-le-susceptance [] j = omega arith
weight-le-susceptance (e ∷ es) j = let rest = weight-le-susceptance es j in by_test (eqb e.to j) rest
  where
    by_test : (t : Bool) → weight_to es j ≤ susceptance_over es → cond t e.b 0 + weight_to es j ≤ e.b + susceptance_over es
    by_test true h = omega arith
    by_test false h = omega arith

pub crossing : (grid : Grid) (s : GridState) (c : NumberedBranch) → IsSound s → IsOfGrid grid s → IsBranchOf grid c → carries_at s c.number ≡ true → class_at s c.branch.from ≢ class_at s c.branch.to → HasCrossing s
crossing grid s c sound of stands carries apart =
    let i = class_at s c.branch.from in
    record {
      class = i;
      class_below = class_below s sound c.branch.from;
      some = in_row grid s c sound of stands carries apart (λ e. 0 < length (row_of s i)) (λ k d l. omega (arith, l));
    }

-- its susceptance is at most the greatest of a class
pub at_most_greatest : (grid : Grid) (s : GridState) (c : NumberedBranch) → IsSound s → IsOfGrid grid s → IsBranchOf grid c → carries_at s c.number ≡ true → class_at s c.branch.from ≢ class_at s c.branch.to
    → unsigned_abs c.branch.b ≤ greatest_susceptance_of s
at_most_greatest grid s c sound of stands carries apart =
    let i = class_at s c.branch.from in
    let j = class_at s c.branch.to in
    let h = carried grid s c of stands carries in
    let weighs : unsigned_abs c.branch.b ≤ weight s i j = in_row grid s c sound of stands carries apart (λ e. e.b ≤ weight_to (row_of s i) e.to) (λ k d l. part_of_weight (row_of s i) k d l) in
    ends i j h.from_live h.to_live apart weighs (class_below s sound c.branch.from) (class_below s sound c.branch.to) (cases_eq i s.slack)
  where
    free : (k : ℕ) → is_live s k ≡ true → k ≢ s.slack → is_free s k ≡ true
    free k live other = both (is_live s k) (eqb k s.slack) live (ne_eqb k s.slack other)
      where
        both : (x y : Bool) → x ≡ true → y ≡ false → (x && not y) ≡ true
        both x y e f = ap (λ b. b && not y) e ∙ ap (λ b. not b) f

    ends : (i j : ℕ) → is_live s i ≡ true → is_live s j ≡ true → i ≢ j → unsigned_abs c.branch.b ≤ weight s i j → i < classes_of s → j < classes_of s → (i ≡ s.slack) ⊎ (i ≢ s.slack) → unsigned_abs c.branch.b ≤ greatest_susceptance_of s
    ends i j li lj apart weighs hi hj (inr other) =
        let one = weight-le-susceptance (row_of s i) j in
        let two = susceptance-le-greatest s i hi (free i li other) in
        omega arith
    ends i j li lj apart weighs hi hj (inl slack) =
        let other : j ≢ s.slack = λ e. apart (slack ∙ sym e) in
        let turned = sound.symmetric i j in
        let one = weight-le-susceptance (row_of s j) i in
        let two = susceptance-le-greatest s j hj (free j lj other) in
        omega arith

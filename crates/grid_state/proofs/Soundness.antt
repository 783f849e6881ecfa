-- A state of a grid is sound.
use Rattle.std.proofs.Common.{◌≡◌, ℕ, ◌<◌, ◌≤◌, Bool, true, false, eqb, not, ◌&&◌, List, [], length, get_or, All, inl, inr, ◌⊎◌, arith, refl, sym, ap, subst, ◌∙◌}
use Rattle.std.specs.List.{enumerate_from}
use Rattle.std.proofs.lemmas.Bool.{cases_eq, cases_lt, and_parts, and_from, not_from_false, ne_eqb, true_from_ne_false}
use Rattle.std.proofs.lemmas.List.{length-map, get_or_default, get_or_past}
use Rattle.std.proofs.lemmas.List.Elements.{All-get_or, All-from_get_or}
use Rattle.std.proofs.lemmas.List.FromFn.{length-enumerate_from}
use Rattle.fb_types.specs.declared.grid.Grid.{Grid}
use Rattle.grid_state.specs.declared.types.Edge.{Edge}
use Rattle.grid_state.specs.declared.links.Link.{Link}
use Rattle.grid_state.specs.GridState.{GridState, classes_of, weight_to, IsEdge, IsSound}
use Rattle.grid_state.specs.Links.{is_out, lines_of, between, IsJoined, AreReached}
use Rattle.grid_state.specs.Rows.{is_crossing, edges_at, AreRows, carries_in}
use Rattle.grid_state.specs.States.{class_lines_of, IsStateOf}
use Rattle.grid_state.specs.Unions.{Respects, IsLineBelow, is_wanted}
use Rattle.grid_state.proofs.Chains.{same_side, joined_trans, joined_sym}
use Rattle.grid_state.proofs.Ranges.{few_links, lines_below, class_lines_below}
use Rattle.grid_state.proofs.Weights.{edges_in_range, few_edges_at, weight-turned, weight-own, weight-some, dead_row}

-- a link joins its ends
linked : (links : List Link) (k : ℕ) (d : Link) → k < length links → IsJoined links (get_or links k d).one (get_or links k d).other
linked links k d h =
    IsJoined.along (get_or links k d).one (get_or links k d).other (get_or links k d).other
    (k, get_or links k d, h, get_or_default links k (get_or links k d) d h, inl (refl, refl)) (IsJoined.itself (get_or links k d).other)

same_bool : (a b : Bool) → (a ≡ true → b ≡ true) → (b ≡ true → a ≡ true) → a ≡ b
same_bool true b there back = sym (there refl)
same_bool false true there back = back refl
same_bool false false there back = refl

-- rows that the lines of a state make, over plain lists
module _ (classes slack : ℕ) (lines : List Link) (live : List Bool) (rows : List (List Edge)) (h : slack < classes) (ranged : All (IsLineBelow classes) lines) (reached : AreReached classes lines slack live) (are : AreRows live lines rows) where
  live_at : ℕ → Bool
  live_at i = get_or live i false

  row_is : (i : ℕ) → i < classes → get_or rows i [] ≡ edges_at live i lines
  row_is i b = let size = reached.size in are.row i (omega arith)

  -- past the end there is no class, and no row
  row_past : (i : ℕ) → classes ≤ i → get_or rows i [] ≡ []
  row_past i b = let size = reached.size in let size' = are.each_class in get_or_past rows i [] (omega arith)

  past_dead : (i : ℕ) → classes ≤ i → get_or live i false ≡ false
  past_dead i b = let size = reached.size in get_or_past live i false (omega arith)

  -- so each row is that of its class, past the end too
  pub row_of_lines : (i : ℕ) → get_or rows i [] ≡ edges_at live i lines
  row_of_lines i = elim (side i) [ inl b ↦ row_is i b | inr b ↦ row_past i b ∙ sym (dead_row live i lines (past_dead i b)) ]
    where
      side : (i : ℕ) → (i < classes) ⊎ (classes ≤ i)
      side i = cases_lt i classes

  -- both ends of a line are live, or neither is
  live_ends : (k : ℕ) (d : Link) → k < length lines → get_or live (get_or lines k d).one false ≡ get_or live (get_or lines k d).other false
  live_ends k d b =
      let l = get_or lines k d in
      let is = ranged k d b in
      same_bool (get_or live l.one false) (get_or live l.other false)
      (λ on. (reached.each l.other is.other).1 (joined_trans lines slack l.one l.other ((reached.each l.one is.one).0 on) (linked lines k d b)))
      (λ on. (reached.each l.one is.one).1 (joined_trans lines slack l.other l.one ((reached.each l.other is.other).0 on) (joined_sym lines l.one l.other (linked lines k d b))))

  crossing_of : (k : ℕ) (d : Link) → k < length lines → ((get_or lines k d).one ≡ (get_or lines k d).other → ⊥) → get_or live (get_or lines k d).one false ≡ true → is_crossing live (get_or lines k d) ≡ true
  crossing_of k d b apart on =
      let l = get_or lines k d in
      and_from (not (eqb l.one l.other)) (get_or live l.one false && get_or live l.other false) (not_from_false (eqb l.one l.other) (ne_eqb l.one l.other apart))
      (and_from (get_or live l.one false) (get_or live l.other false) on (sym (live_ends k d b) ∙ on))

  -- a set that has, with a class, each that a weight joins to it has both ends of a line of live classes, or neither
  least_respects : (s : ℕ → Bool) → ((i j : ℕ) → i < classes → j < classes → s j ≡ true → 0 < weight_to (get_or rows i []) j → s i ≡ true) → Respects lines (λ i. s i && get_or live i false)
  least_respects s closed = record { both = each }
    where
      forward : (k : ℕ) (d : Link) → k < length lines → ((get_or lines k d).one ≡ (get_or lines k d).other → ⊥) → get_or live (get_or lines k d).one false ≡ true → s (get_or lines k d).other ≡ true → s (get_or lines k d).one ≡ true
      forward k d b apart on e =
          let l = get_or lines k d in
          let is = ranged k d b in
          closed l.one l.other is.one is.other e (subst (λ (r : List Edge). 0 < weight_to r l.other) (sym (row_of_lines l.one)) (weight-some live lines k d b (crossing_of k d b apart on) is.some))

      back : (k : ℕ) (d : Link) → k < length lines → ((get_or lines k d).one ≡ (get_or lines k d).other → ⊥) → get_or live (get_or lines k d).one false ≡ true → s (get_or lines k d).one ≡ true → s (get_or lines k d).other ≡ true
      back k d b apart on e =
          let l = get_or lines k d in
          let is = ranged k d b in
          closed l.other l.one is.other is.one e (subst (λ (r : List Edge). 0 < weight_to r l.one) (sym (row_of_lines l.other))
          (subst (λ (w : ℕ). 0 < w) (weight-turned live l.one l.other lines) (weight-some live lines k d b (crossing_of k d b apart on) is.some)))

      each : (k : ℕ) (d : Link) → k < length lines → (s (get_or lines k d).one && get_or live (get_or lines k d).one false) ≡ (s (get_or lines k d).other && get_or live (get_or lines k d).other false)
      each k d b =
          let l = get_or lines k d in
          elim (cases_eq l.one l.other) [
            | inl e ↦ ap (λ (i : ℕ). s i && get_or live i false) e
            | inr apart ↦
                same_bool (s l.one && get_or live l.one false) (s l.other && get_or live l.other false)
                (λ e. let p = and_parts (s l.one) (get_or live l.one false) e in and_from (s l.other) (get_or live l.other false) (back k d b apart p.1 p.0) (sym (live_ends k d b) ∙ p.1))
                (λ e.
                let p = and_parts (s l.other) (get_or live l.other false) e in
                let on : get_or live l.one false ≡ true = live_ends k d b ∙ p.1 in
                and_from (s l.one) (get_or live l.one false) (forward k d b apart on p.0) on)
          ]

  slack_on : get_or live slack false ≡ true
  slack_on = (reached.each slack h).1 (IsJoined.itself slack)

  pub least : (s : ℕ → Bool) → s slack ≡ true → ((i j : ℕ) → i < classes → j < classes → s j ≡ true → 0 < weight_to (get_or rows i []) j → s i ≡ true) → (i : ℕ) → i < classes → get_or live i false ≡ true → s i ≡ true
  least s in_set closed i b on =
      let chain = (reached.each i b).0 on in
      let same = same_side lines (λ j. s j && get_or live j false) (least_respects s closed) slack i chain in
      (and_parts (s i) (get_or live i false) (sym same ∙ and_from (s slack) (get_or live slack false) in_set slack_on)).0

  -- a class with a weight is live
  pub live_from_weight : (i j : ℕ) → 0 < weight_to (get_or rows i []) j → get_or live i false ≡ true
  live_from_weight i j some = true_from_ne_false (get_or live i false) (λ dead.
      let none : weight_to (get_or rows i []) j ≡ 0 = ap (λ (r : List Edge). weight_to r j) (row_of_lines i ∙ dead_row live i lines dead) in
      omega arith)

  pub slack_is_live : get_or live slack false ≡ true
  slack_is_live = slack_on

  -- what holds of each row of lines holds of each row
  pub each_row : (P : List Edge → Type 0) → ((i : ℕ) → P (edges_at live i lines)) → All P rows
  each_row P gives = All-from_get_or P rows [] (λ i b. subst P (sym (row_of_lines i)) (gives i))

pub sound_of : (grid : Grid) (slack : ℕ) (outage : List ℕ) (s : GridState) → slack < length grid.nodes → IsStateOf grid slack outage s → IsSound s
sound_of grid slack outage s h is =
    let classes = is.classes in
    let few = classes.few in
    let nodes = grid.few_nodes in
    let branches = grid.few_branches in
    let sizes = classes.each_place in
    let size = is.rows.each_class in
    let lines = class_lines_of outage grid.branches s.class_of in
    let in_range : All (IsLineBelow (length s.class_of)) (lines_of outage grid.branches) =
    subst (λ (n : ℕ). All (IsLineBelow n) (lines_of outage grid.branches)) (sym sizes) (lines_below (length grid.nodes) (is_out outage) grid.branches grid.branches_in_range) in
    let ranged : All (IsLineBelow (classes_of s)) lines = class_lines_below (classes_of s) s.class_of (lines_of outage grid.branches) classes.below in_range in
    let slack_below : s.slack < classes_of s = subst (λ (k : ℕ). k < classes_of s) (sym is.slack_class) (All-get_or (λ c. c < classes_of s) s.class_of slack 0 (omega arith) classes.below) in
    let few_lines = few_links (is_wanted false) (is_out outage) grid.branches in
    let same_lines = length-map (lines_of outage grid.branches) (between s.class_of) in
    let carries = ap length is.carries ∙ length-map (enumerate_from 0 grid.branches) (carries_in (is_out outage) s.class_of s.live) ∙ length-enumerate_from 0 grid.branches in
    let row = row_of_lines (classes_of s) s.slack lines s.live s.rows slack_below ranged is.live is.rows in
    record {
      few_nodes = omega arith;
      few_branches = omega arith;
      few_classes = omega arith;
      class_below = classes.below;
      slack_below = slack_below;
      same_length = size;
      edges = each_row (classes_of s) s.slack lines s.live s.rows slack_below ranged is.live is.rows (λ r. All (λ e. IsEdge (classes_of s) e) r) (λ i. edges_in_range (classes_of s) s.live i lines ranged);
      few_edges = each_row (classes_of s) s.slack lines s.live s.rows slack_below ranged is.live is.rows (λ r. length r ≤ 16384) (λ i. let fewer = few_edges_at s.live i lines in omega arith);
      others = λ i. ap (λ (r : List Edge). weight_to r i) (row i) ∙ weight-own s.live i lines;
      symmetric = λ i j. ap (λ (r : List Edge). weight_to r j) (row i) ∙ weight-turned s.live i j lines ∙ sym (ap (λ (r : List Edge). weight_to r i) (row j));
      dead_alone = λ i dead. ap (λ (r : List Edge). length r) (row i ∙ dead_row s.live i lines dead);
      live_closed = record {
        slack_in = slack_is_live (classes_of s) s.slack lines s.live s.rows slack_below ranged is.live is.rows;
        joined_in = λ i j hi hj on some. live_from_weight (classes_of s) s.slack lines s.live s.rows slack_below ranged is.live is.rows i j some;
      };
      live_least = λ set closed i b on. least (classes_of s) s.slack lines s.live s.rows slack_below ranged is.live is.rows set closed.slack_in closed.joined_in i b on;
    }

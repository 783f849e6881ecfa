-- Laws, which are proved: nobody need believe them.
-- A grid, a slack node and an outage have one state, and one first stranded node.
use Rattle.std.proofs.Common.{◌≡◌, ℕ, zero, suc, ◌<◌, ◌≤◌, Bool, true, false, List, [], length, get_or, map, Some, None, inl, inr, arith, refl, sym, ap, ap₂, subst, ◌∙◌}
use Rattle.std.specs.List.{enumerate_from}
use Rattle.std.proofs.lemmas.Bool.{cases_eq, cases_lt, cases_order}
use Rattle.std.proofs.lemmas.List.{ext_get_or, length-map}
use Rattle.std.proofs.lemmas.List.FromFn.{length-enumerate_from}
use Rattle.fb_types.specs.declared.grid.Grid.{Grid}
use Rattle.fb_types.specs.declared.keys.Column.{Column}
use Rattle.grid_state.specs.declared.types.Edge.{Edge}
use Rattle.grid_state.specs.declared.links.Link.{Link}
use Rattle.grid_state.specs.GridState.{GridState, classes_of}
use Rattle.grid_state.specs.Links.{is_out, couplers_of, AreClasses, AreReached}
use Rattle.grid_state.specs.Rows.{AreRows, carries_in}
use Rattle.grid_state.specs.Split.{first_stranded_node, IsSplit}
use Rattle.grid_state.specs.States.{class_lines_of, IsStateOf}

-- ---- the classes are numbered in one way
module _ (n : ℕ) (links : List Link) (c c' : ℕ) (l l' : List ℕ) (a : AreClasses n links c l) (a' : AreClasses n links c' l') where
  numbers_below : (k : ℕ) → k ≤ n → (i : ℕ) → i < k → get_or l i 0 ≡ get_or l' i 0
  numbers_below zero le i h = absurd (omega arith)
  numbers_below (suc k) le i h =
      elim (cases_eq i k) [
        | inr before ↦ numbers_below k (omega arith) i (omega arith)
        | inl e ↦ subst (λ (j : ℕ). get_or l j 0 ≡ get_or l' j 0) (sym e) (elim (cases_order (get_or l k 0) (get_or l' k 0)) [
          | inl same ↦ same
          | inr apart ↦ elim apart [
            | inl lower ↦
                let u = a'.in_order k (get_or l k 0) (omega arith) lower in
                let earlier : u.0 < k = u.1 in
                let same : get_or l u.0 0 ≡ get_or l k 0 = numbers_below k (omega arith) u.0 earlier ∙ u.2 in
                let also : get_or l' u.0 0 ≡ get_or l' k 0 = (a'.one_class u.0 k (omega arith) (omega arith)).1 ((a.one_class u.0 k (omega arith) (omega arith)).0 same) in
                absurd (let e' = u.2 in omega arith)
            | inr higher ↦
                let u = a.in_order k (get_or l' k 0) (omega arith) higher in
                let earlier : u.0 < k = u.1 in
                let same : get_or l' u.0 0 ≡ get_or l' k 0 = sym (numbers_below k (omega arith) u.0 earlier) ∙ u.2 in
                let also : get_or l u.0 0 ≡ get_or l k 0 = (a.one_class u.0 k (omega arith) (omega arith)).1 ((a'.one_class u.0 k (omega arith) (omega arith)).0 same) in
                absurd (let e' = u.2 in omega arith)
          ]
        ])
      ]

  pub same_numbers : l ≡ l'
  same_numbers =
      let size = a.each_place in
      let size' = a'.each_place in
      ext_get_or 0 l l' (omega arith) (λ i h. numbers_below n (omega arith) i (omega arith))

-- so many classes, since each has a place
pub no_more_classes : (n : ℕ) (links : List Link) (c c' : ℕ) (l l' : List ℕ) → AreClasses n links c l → AreClasses n links c' l' → l ≡ l' → c ≤ c'
no_more_classes n links c c' l l' a a' e =
    elim (cases_lt c' c) [
      | inr le ↦ le
      | inl lt ↦
          let u = a.used c' lt in
          let size = a'.each_place in
          let below : u.0 < n = u.1 in
          let number : get_or l' u.0 0 < c' = a'.below u.0 0 (omega arith) in
          let same : get_or l u.0 0 ≡ get_or l' u.0 0 = ap (λ (xs : List ℕ). get_or xs u.0 0) e in
          absurd (let e' = u.2 in omega arith)
    ]

same_test : (a b : Bool) → (a ≡ true → b ≡ true) → (b ≡ true → a ≡ true) → a ≡ b
same_test true b there back = sym (there refl)
same_test false true there back = back refl
same_test false false there back = refl

pub same_reached : (n : ℕ) (links : List Link) (from : ℕ) (m m' : List Bool) → AreReached n links from m → AreReached n links from m' → m ≡ m'
same_reached n links from m m' r r' =
    let size = r.size in
    let size' = r'.size in
    ext_get_or false m m' (omega arith) (λ i h. same_test (get_or m i false) (get_or m' i false)
    (λ on. (r'.each i (omega arith)).1 ((r.each i (omega arith)).0 on)) (λ on. (r.each i (omega arith)).1 ((r'.each i (omega arith)).0 on)))

pub same_rows : (live : List Bool) (links : List Link) (rows rows' : List (List Edge)) → AreRows live links rows → AreRows live links rows' → rows ≡ rows'
same_rows live links rows rows' r r' =
    let size = r.each_class in
    let size' = r'.each_class in
    ext_get_or [] rows rows' (omega arith) (λ i h. r.row i (omega arith) ∙ sym (r'.row i (omega arith)))

same_fields : (s s' : GridState) → s.class_of ≡ s'.class_of → s.slack ≡ s'.slack → s.live ≡ s'.live → s.rows ≡ s'.rows → s.carries ≡ s'.carries → s ≡ s'
same_fields s s' e f g h k =
    ap (λ (v : List ℕ). record s { class_of = v }) e ∙ ap (λ (v : ℕ). record s' { slack = v; live = s.live; rows = s.rows; carries = s.carries }) f
    ∙ ap (λ (v : List Bool). record s' { live = v; rows = s.rows; carries = s.carries }) g ∙ ap (λ (v : List (List Edge)). record s' { rows = v; carries = s.carries }) h
    ∙ ap (λ (v : List Bool). record s' { carries = v }) k

-- there is one state
pub state_unique : (grid : Grid) (slack : ℕ) (outage : List ℕ) (s s' : GridState) → IsStateOf grid slack outage s → IsStateOf grid slack outage s' → s ≡ s'
state_unique grid slack outage s s' is is' =
    let links = couplers_of outage grid.branches in
    let numbers : s.class_of ≡ s'.class_of = same_numbers (length grid.nodes) links (classes_of s) (classes_of s') s.class_of s'.class_of is.classes is'.classes in
    let fewer = no_more_classes (length grid.nodes) links (classes_of s) (classes_of s') s.class_of s'.class_of is.classes is'.classes numbers in
    let more = no_more_classes (length grid.nodes) links (classes_of s') (classes_of s) s'.class_of s.class_of is'.classes is.classes (sym numbers) in
    let count : classes_of s ≡ classes_of s' = omega arith in
    let slacks : s.slack ≡ s'.slack = is.slack_class ∙ ap (λ (l : List ℕ). get_or l slack 0) numbers ∙ sym is'.slack_class in
    let reached : AreReached (classes_of s') (class_lines_of outage grid.branches s'.class_of) s'.slack s.live =
    subst (λ (k : ℕ). AreReached (classes_of s') (class_lines_of outage grid.branches s'.class_of) k s.live) slacks
    (subst (λ (l : List ℕ). AreReached (classes_of s') (class_lines_of outage grid.branches l) s.slack s.live) numbers
    (subst (λ (k : ℕ). AreReached k (class_lines_of outage grid.branches s.class_of) s.slack s.live) count is.live)) in
    let lives : s.live ≡ s'.live = same_reached (classes_of s') (class_lines_of outage grid.branches s'.class_of) s'.slack s.live s'.live reached is'.live in
    let rows : AreRows s'.live (class_lines_of outage grid.branches s'.class_of) s.rows =
    subst (λ (m : List Bool). AreRows m (class_lines_of outage grid.branches s'.class_of) s.rows) lives
    (subst (λ (l : List ℕ). AreRows s.live (class_lines_of outage grid.branches l) s.rows) numbers is.rows) in
    same_fields s s' numbers slacks lives (same_rows s'.live (class_lines_of outage grid.branches s'.class_of) s.rows s'.rows rows is'.rows)
    (is.carries ∙ ap₂ (λ (l : List ℕ) (m : List Bool). map (carries_in (is_out outage) l m) (enumerate_from 0 grid.branches)) numbers lives ∙ sym is'.carries)

some_same : (a b : ℕ) → Some a ≡ Some b → a ≡ b
some_same a b e = cc

-- and one node at which it is split
pub split_unique : (grid : Grid) (slack : ℕ) (outage : List ℕ) (columns : List Column) (node node' : ℕ) → IsSplit grid slack outage columns node → IsSplit grid slack outage columns node' → node ≡ node'
split_unique grid slack outage columns node node' split split' =
    some_same node node' (sym split.first ∙ ap (λ (s : GridState). first_stranded_node s columns grid.nodes) (state_unique grid slack outage split.state split'.state split.of_grid split'.of_grid) ∙ split'.first)

-- a state without a stranded node is not split
pub not_split : (grid : Grid) (slack : ℕ) (outage : List ℕ) (columns : List Column) (s : GridState) → IsStateOf grid slack outage s → first_stranded_node s columns grid.nodes ≡ None → (node : ℕ) → IsSplit grid slack outage columns node → ⊥
not_split grid slack outage columns s is none node split =
    let e = sym none ∙ ap (λ (t : GridState). first_stranded_node t columns grid.nodes) (state_unique grid slack outage s split.state is split.of_grid) ∙ split.first in
    cc

-- a state has a class for each node, and a mark for each branch
pub length-class_of : (grid : Grid) (slack : ℕ) (outage : List ℕ) (s : GridState) → IsStateOf grid slack outage s → length s.class_of ≡ length grid.nodes
length-class_of grid slack outage s is = is.classes.each_place

pub length-carries : (grid : Grid) (slack : ℕ) (outage : List ℕ) (s : GridState) → IsStateOf grid slack outage s → length s.carries ≡ length grid.branches
length-carries grid slack outage s is = ap length is.carries ∙ length-map (enumerate_from 0 grid.branches) (carries_in (is_out outage) s.class_of s.live) ∙ length-enumerate_from 0 grid.branches

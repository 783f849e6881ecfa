-- The rows that links make: their ranges, and the weights between classes.
use Rattle.std.proofs.Common.{◌≡◌, ℕ, zero, suc, ◌+◌, ◌<◌, ◌≤◌, Bool, true, false, eqb, cond, not, ◌&&◌, List, [], ◌∷◌, length, get_or, All, Option, Some, None, arith, refl, sym, ap, ap₂, ◌∙◌}
use Rattle.std.specs.List.{cons_option}
use Rattle.std.proofs.lemmas.Bool.{both_ways, cond-true, and_parts, not-true, eqb-true, eqb-false, eq-eqb}
use Rattle.std.proofs.lemmas.List.Elements.{All-head, All-tail, All-cons, All-nil}
use Rattle.grid_state.specs.declared.types.Edge.{Edge}
use Rattle.grid_state.specs.declared.links.Link.{Link}
use Rattle.grid_state.specs.GridState.{IsEdge, weight_to}
use Rattle.grid_state.specs.Rows.{is_crossing, edge_seen, edges_at}
use Rattle.grid_state.specs.Unions.{IsLineBelow}

-- ---- ranges
edge_cases : (n : ℕ) (x a b : Bool) (l : Link) (es : List Edge) → IsLineBelow n l → All (IsEdge n) es
    → All (IsEdge n) (cons_option (cond x (cond a (Some (record { to = l.other; b = l.b })) (cond b (Some (record { to = l.one; b = l.b })) None)) None) es)
edge_cases n true true b l es is all = All-cons (IsEdge n) (record { to = l.other; b = l.b }) es (record { leads = is.other; some = is.some; small = is.small }) all
edge_cases n true false true l es is all = All-cons (IsEdge n) (record { to = l.one; b = l.b }) es (record { leads = is.one; some = is.some; small = is.small }) all
edge_cases n true false false l es is all = all
edge_cases n false a b l es is all = all

pub edges_in_range : (n : ℕ) (live : List Bool) (i : ℕ) (links : List Link) → All (IsLineBelow n) links → All (IsEdge n) (edges_at live i links)
edges_in_range n live i [] all = All-nil (IsEdge n)
edges_in_range n live i (l ∷ ls) all =
    edge_cases n (is_crossing live l) (eqb l.one i) (eqb l.other i) l (edges_at live i ls) (All-head (IsLineBelow n) l ls all) (edges_in_range n live i ls (All-tail (IsLineBelow n) l ls all))

one_longer : (o : Option Edge) (es : List Edge) → length (cons_option o es) ≤ length es + 1
one_longer None es = omega arith
one_longer (Some e) es = omega arith

pub few_edges_at : (live : List Bool) (i : ℕ) (links : List Link) → length (edges_at live i links) ≤ length links
few_edges_at live i [] = omega arith
few_edges_at live i (l ∷ ls) = let one = one_longer (edge_seen live i l) (edges_at live i ls) in let rest = few_edges_at live i ls in omega arith

-- ---- weights
parted : (o : Option Edge) (es : List Edge) (j : ℕ) → weight_to (cons_option o es) j ≡ weight_to (cons_option o []) j + weight_to es j
parted None es j = omega arith
parted (Some e) es j = omega arith

part_cases : (x a b : Bool) (l : Link) (j : ℕ)
    → weight_to (cons_option (cond x (cond a (Some (record { to = l.other; b = l.b })) (cond b (Some (record { to = l.one; b = l.b })) None)) None) []) j
    ≡ cond x (cond a (cond (eqb l.other j) l.b 0) (cond b (cond (eqb l.one j) l.b 0) 0)) 0
part_cases true true b l j = omega arith
part_cases true false true l j = omega arith
part_cases true false false l j = refl
part_cases false a b l j = refl

-- what a link adds to the weight from i to j
abbrev part : List Bool → ℕ → ℕ → Link → ℕ
part live i j l = cond (is_crossing live l) (cond (eqb l.one i) (cond (eqb l.other j) l.b 0) (cond (eqb l.other i) (cond (eqb l.one j) l.b 0) 0)) 0

weight-cons : (live : List Bool) (i j : ℕ) (l : Link) (ls : List Link) → weight_to (edges_at live i (l ∷ ls)) j ≡ part live i j l + weight_to (edges_at live i ls) j
weight-cons live i j l ls =
    parted (edge_seen live i l) (edges_at live i ls) j
    ∙ ap (λ (k : ℕ). k + weight_to (edges_at live i ls) j) (part_cases (is_crossing live l) (eqb l.one i) (eqb l.other i) l j)

turn_cases : (x a b c d : Bool) (w : ℕ) → (x ≡ true → a ≡ true → b ≡ true → ⊥) → (x ≡ true → c ≡ true → d ≡ true → ⊥)
    → cond x (cond a (cond d w 0) (cond b (cond c w 0) 0)) 0 ≡ cond x (cond c (cond b w 0) (cond d (cond a w 0) 0)) 0
turn_cases false a b c d w p q = refl
turn_cases true true true c d w p q = absurd (p refl refl refl)
turn_cases true a b true true w p q = absurd (q refl refl refl)
turn_cases true true false true false w p q = refl
turn_cases true true false false true w p q = refl
turn_cases true true false false false w p q = refl
turn_cases true false true true false w p q = refl
turn_cases true false true false true w p q = refl
turn_cases true false true false false w p q = refl
turn_cases true false false true false w p q = refl
turn_cases true false false false true w p q = refl
turn_cases true false false false false w p q = refl

own_cases : (x a b : Bool) (w : ℕ) → (x ≡ true → a ≡ true → b ≡ true → ⊥) → cond x (cond a (cond b w 0) (cond b (cond a w 0) 0)) 0 ≡ 0
own_cases false a b w p = refl
own_cases true true true w p = absurd (p refl refl refl)
own_cases true true false w p = refl
own_cases true false true w p = refl
own_cases true false false w p = refl

-- a link that crosses has two ends
two_ends : (live : List Bool) (l : Link) (i : ℕ) → is_crossing live l ≡ true → eqb l.one i ≡ true → eqb l.other i ≡ true → ⊥
two_ends live l i x a b =
    eqb-false l.one l.other (not-true (eqb l.one l.other) (and_parts _ _ x).0) (eqb-true l.one i a ∙ sym (eqb-true l.other i b))

pub weight-turned : (live : List Bool) (i j : ℕ) (links : List Link) → weight_to (edges_at live i links) j ≡ weight_to (edges_at live j links) i
weight-turned live i j [] = refl
weight-turned live i j (l ∷ ls) =
    weight-cons live i j l ls
    ∙ ap₂ ◌+◌ (turn_cases (is_crossing live l) (eqb l.one i) (eqb l.other i) (eqb l.one j) (eqb l.other j) l.b (two_ends live l i) (two_ends live l j)) (weight-turned live i j ls)
    ∙ sym (weight-cons live j i l ls)

pub weight-own : (live : List Bool) (i : ℕ) (links : List Link) → weight_to (edges_at live i links) i ≡ 0
weight-own live i [] = refl
weight-own live i (l ∷ ls) =
    weight-cons live i i l ls ∙ ap₂ ◌+◌ (own_cases (is_crossing live l) (eqb l.one i) (eqb l.other i) l.b (two_ends live l i)) (weight-own live i ls)

-- a link that crosses gives a weight
pub weight-some : (live : List Bool) (links : List Link) (k : ℕ) (d : Link) → k < length links → is_crossing live (get_or links k d) ≡ true → 0 < (get_or links k d).b
    → 0 < weight_to (edges_at live (get_or links k d).one links) (get_or links k d).other
weight-some live [] k d h x some = absurd (omega arith)
weight-some live (l ∷ ls) zero d h x some =
    let whole = weight-cons live l.one l.other l ls in
    let one = cond-true {A = ℕ} (is_crossing live l) (cond (eqb l.one l.one) (cond (eqb l.other l.other) l.b 0) (cond (eqb l.other l.one) (cond (eqb l.one l.other) l.b 0) 0)) 0 x in
    let two = cond-true {A = ℕ} (eqb l.one l.one) (cond (eqb l.other l.other) l.b 0) (cond (eqb l.other l.one) (cond (eqb l.one l.other) l.b 0) 0) (eq-eqb l.one l.one refl) in
    let three = cond-true {A = ℕ} (eqb l.other l.other) l.b 0 (eq-eqb l.other l.other refl) in
    omega arith
weight-some live (l ∷ ls) (suc k) d h x some =
    let rest = weight-some live ls k d (omega arith) x some in
    let whole = weight-cons live (get_or ls k d).one (get_or ls k d).other l ls in
    omega arith

-- a class that is not live has no row
dead_cases : (x y e a b : Bool) (l : Link) (es : List Edge) → (a ≡ true → x ≡ false) → (b ≡ true → y ≡ false)
    → cons_option (cond (not e && (x && y)) (cond a (Some (record { to = l.other; b = l.b })) (cond b (Some (record { to = l.one; b = l.b })) None)) None) es ≡ es
dead_cases x y true a b l es p q = refl
dead_cases false y false a b l es p q = refl
dead_cases true false false a b l es p q = refl
dead_cases true true false true b l es p q = absurd (both_ways true (p refl) refl)
dead_cases true true false false true l es p q = absurd (both_ways true (q refl) refl)
dead_cases true true false false false l es p q = refl

pub dead_row : (live : List Bool) (i : ℕ) (links : List Link) → get_or live i false ≡ false → edges_at live i links ≡ []
dead_row live i [] dead = refl
dead_row live i (l ∷ ls) dead =
    dead_cases (get_or live l.one false) (get_or live l.other false) (eqb l.one l.other) (eqb l.one i) (eqb l.other i) l (edges_at live i ls)
    (λ e. ap (λ (k : ℕ). get_or live k false) (eqb-true l.one i e) ∙ dead) (λ e. ap (λ (k : ℕ). get_or live k false) (eqb-true l.other i e) ∙ dead)
    ∙ dead_row live i ls dead

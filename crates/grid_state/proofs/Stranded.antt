-- The first stranded node, one node at a time.
use Rattle.std.proofs.Common.{◌≡◌, ℕ, [], ◌∷◌, ltb, ap₂, ◌+◌, ◌<◌, ◌≤◌, Bool, true, false, not, cond, pos, ◌&&◌, ◌||◌, List, length, get_or, Some, None, inl, inr, arith, refl, sym, ap, subst, ◌∙◌}
use Rattle.std.specs.Prelude.{position}
use Rattle.std.specs.List.{enumerate_from, position_or_len}
use Rattle.std.proofs.lemmas.Bool.{cases_eq, cond-true, cond-false, lt-ltb, le-ltb}
use Rattle.std.proofs.lemmas.List.{get_or_read}
use Rattle.std.proofs.lemmas.List.Sums.{position_or_len_is}
use Rattle.std.proofs.lemmas.List.FromFn.{length-enumerate_from, get_or-enumerate_from}
use Rattle.fb_types.specs.declared.grid.Node.{Node}
use Rattle.fb_types.specs.declared.keys.Column.{Column}
use Rattle.grid_state.specs.GridState.{GridState, class_at, is_live}
use Rattle.grid_state.specs.Marks.{is_stranded_marked, first_marked, NoneBefore}
use Rattle.grid_state.specs.Split.{is_nonzero, injection_of, AreKeyMarks, is_stranded, first_stranded_node}

pub none_before : (s : GridState) (keyed : List Bool) (nodes : List Node) → NoneBefore s keyed nodes 0
none_before s keyed nodes = record { none = λ i d h. absurd (omega arith) }

item : (nodes : List Node) (k : ℕ) (node : Node) (d : ℕ × Node) → k < length nodes → node ≡ get_or nodes k node → get_or (enumerate_from 0 nodes) k d ≡ (k, node)
item nodes k node d h read =
    get_or-enumerate_from 0 nodes k d h ∙ ap (λ (n : ℕ). (n, get_or nodes k d.1)) (omega arith) ∙ ap (λ (x : Node). (k, x)) (sym (get_or_read nodes k node h read d.1))

pub none_more : (s : GridState) (keyed : List Bool) (nodes : List Node) (k : ℕ) (node : Node) → k < length nodes → node ≡ get_or nodes k node → is_stranded_marked s keyed (k, node) ≡ false → NoneBefore s keyed nodes k → NoneBefore s keyed nodes (k + 1)
none_more s keyed nodes k node h read passed before = record {
  none = λ i d b. elim (cases_eq i k) [
    | inl e ↦ subst (λ (j : ℕ). is_stranded_marked s keyed (get_or (enumerate_from 0 nodes) j d) ≡ false) (sym e) (ap (is_stranded_marked s keyed) (item nodes k node d h read) ∙ passed)
    | inr ne ↦ before.none i d (omega arith)
  ];
}

-- a position that is known
position_at : {X : Type 0} (p : X → Bool) (xs : List X) (i : ℕ) → position_or_len p xs ≡ i → i < length xs → position p xs ≡ Some i
position_at p xs i e h = let lt : position_or_len p xs < length xs = omega arith in cond-true _ (Some (position_or_len p xs)) None (lt-ltb (position_or_len p xs) (length xs) lt) ∙ ap (λ (k : ℕ). Some k) e

position_none : {X : Type 0} (p : X → Bool) (xs : List X) → position_or_len p xs ≡ length xs → position p xs ≡ None
position_none p xs e = let le : length xs ≤ position_or_len p xs = omega arith in cond-false _ (Some (position_or_len p xs)) None (le-ltb (position_or_len p xs) (length xs) le)

pub found_first : (s : GridState) (keyed : List Bool) (nodes : List Node) (k : ℕ) (node : Node) → k < length nodes → node ≡ get_or nodes k node → is_stranded_marked s keyed (k, node) ≡ true → NoneBefore s keyed nodes k → Some k ≡ first_marked s keyed nodes
found_first s keyed nodes k node h read here before =
    let size = length-enumerate_from 0 nodes in
    sym (position_at (is_stranded_marked s keyed) (enumerate_from 0 nodes) k
    (position_or_len_is (is_stranded_marked s keyed) (enumerate_from 0 nodes) k (k, node) (omega arith) (λ i b. before.none i (k, node) b) (λ b. ap (is_stranded_marked s keyed) (item nodes k node (k, node) h read) ∙ here)) (omega arith))

pub found_none : (s : GridState) (keyed : List Bool) (nodes : List Node) (k : ℕ) → length nodes ≤ k → NoneBefore s keyed nodes k → None ≡ first_marked s keyed nodes
found_none s keyed nodes k h before =
    let d : Node = record { code = []; zone = []; level = 0; kind = 0; load = pos 0; generation = pos 0 } in
    let size = length-enumerate_from 0 nodes in
    sym (position_none (is_stranded_marked s keyed) (enumerate_from 0 nodes)
    (position_or_len_is (is_stranded_marked s keyed) (enumerate_from 0 nodes) (length (enumerate_from 0 nodes)) (0, d) (omega arith) (λ i b. before.none i (0, d) (omega arith)) (λ b. absurd (omega arith))))

-- marks of the nodes with a key weight stand for them
same_position : {X : Type 0} (p q : X → Bool) → ((x : X) → p x ≡ q x) → (xs : List X) → position p xs ≡ position q xs
same_position p q e xs = ap (λ (n : ℕ). cond (ltb n (length xs)) (Some n) None) (same_place xs)
  where
    same_place : (ys : List _) → position_or_len p ys ≡ position_or_len q ys
    same_place [] = refl
    same_place (y ∷ ys) = ap₂ (λ (t : Bool) (n : ℕ). cond (not t) (1 + n) 0) (e y) (same_place ys)

pub marked_is_keyed : (s : GridState) (keyed : List Bool) (n : ℕ) (columns : List Column) (nodes : List Node) → AreKeyMarks n columns keyed → first_marked s keyed nodes ≡ first_stranded_node s columns nodes
marked_is_keyed s keyed n columns nodes marks =
    same_position (is_stranded_marked s keyed) (is_stranded s columns) (λ p. ap (λ (t : Bool). (is_nonzero (injection_of p.1) || t) && not (is_live s (class_at s p.0))) (marks.marked p.0)) (enumerate_from 0 nodes)

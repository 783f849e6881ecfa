-- The state of a grid as its callers see it. Couplers make classes of nodes, numbered from 0. Lines and transformers join
-- classes, and those that a chain of them joins to the slack's class are live: the direct-current load flow gives them
-- angles. Susceptances are in kW/rad.
use Rattle.std.specs.Prelude.{◌≡◌, ℕ, ◌+◌, ◌<◌, ◌≤◌, Bool, true, false, not, ◌&&◌, if◌then◌else◌, ◌==◌, ℤ, pos, List, [], ◌∷◌, length, slice_index, slice_index_or, All, count_by}
use Rattle.whole_laws.specs.Sums.{at}
use Rattle.grid_state.specs.declared.types.Edge.{Edge}

pub record GridState : Type 0 where
  -- the class of each node
  pub class_of : List ℕ
  -- the slack's class
  pub slack : ℕ
  -- whether each class is live
  pub live : List Bool
  -- for each class, its carrying branches to other classes, in the order of the branches
  pub rows : List (List Edge)
  -- whether each branch carries
  pub carries : List Bool

-- how many classes there are
abbrev pub classes_of : GridState → ℕ
classes_of s = length s.live

-- the class of a node
abbrev pub class_at : GridState → ℕ → ℕ
class_at s node = slice_index s.class_of node

abbrev pub is_live : GridState → ℕ → Bool
is_live s i = slice_index_or s.live i false

-- live, and not the slack's class: where the load flow has an equation
abbrev pub is_free : GridState → ℕ → Bool
is_free s i = is_live s i && not (i == s.slack)

-- how many classes are live, the slack's with them
abbrev pub live_count : GridState → ℕ
live_count s = count_by (λ l. l) s.live

-- whether a branch carries
abbrev pub carries_at : GridState → ℕ → Bool
carries_at s branch = slice_index_or s.carries branch false

-- the carrying branches of a class to other classes
abbrev pub row_of : GridState → ℕ → List Edge
row_of s i = slice_index_or s.rows i []

-- what stands past the end of a row
abbrev pub no_edge : Edge
no_edge = record { to = 0; b = 0 }

-- the branch at a place of the row of a class
abbrev pub edge_of : GridState → ℕ → ℕ → Edge
edge_of s i k = slice_index_or (row_of s i) k no_edge

-- the sum of the susceptances of a row
abbrev pub susceptance_over : List Edge → ℕ
susceptance_over [] = 0
susceptance_over (e ∷ es) = e.b + susceptance_over es

-- the sum of the susceptances of a class
abbrev pub susceptance_of : GridState → ℕ → ℕ
susceptance_of s i = susceptance_over (row_of s i)

-- the sum of the susceptances of the branches of a row that lead to the class j
abbrev pub weight_to : List Edge → ℕ → ℕ
weight_to [] j = 0
weight_to (e ∷ es) j = (if e.to == j then e.b else 0) + weight_to es j

-- the same between two classes
abbrev pub weight : GridState → ℕ → ℕ → ℕ
weight s i j = weight_to (row_of s i) j

-- ---- What holds of every state

-- a branch leads to a class, and its susceptance is in range
pub record IsEdge (classes : ℕ) (e : Edge) : Type 0 where
  pub leads : e.to < classes
  pub some : 0 < e.b
  pub small : e.b ≤ 100000000000

-- a set of classes that has the slack's, and with a class each class that a carrying branch joins to it
pub record IsClosed (s : GridState) (set : ℕ → Bool) : Type 0 where
  pub slack_in : set s.slack ≡ true
  pub joined_in : (i j : ℕ) → i < classes_of s → j < classes_of s → set j ≡ true → 0 < weight s i j → set i ≡ true

pub record IsSound (s : GridState) : Type 0 where
  pub few_nodes : length s.class_of ≤ 4096
  pub few_branches : length s.carries ≤ 16384
  pub few_classes : classes_of s ≤ 4096
  pub class_below : All (λ c. c < classes_of s) s.class_of
  pub slack_below : s.slack < classes_of s
  -- each class has a row, of branches to other classes
  pub same_length : length s.rows ≡ classes_of s
  pub edges : All (λ row. All (λ e. IsEdge (classes_of s) e) row) s.rows
  pub few_edges : All (λ row. length row ≤ 16384) s.rows
  pub others : (i : ℕ) → weight s i i ≡ 0
  -- a branch stands in the rows of both its ends
  pub symmetric : (i j : ℕ) → weight s i j ≡ weight s j i
  -- a class that is not live has no carrying branch
  pub dead_alone : (i : ℕ) → is_live s i ≡ false → length (row_of s i) ≡ 0
  -- the live classes are the least closed set
  pub live_closed : IsClosed s (is_live s)
  pub live_least : (set : ℕ → Bool) → IsClosed s set → (i : ℕ) → i < classes_of s → is_live s i ≡ true → set i ≡ true

-- a list of sums, one for each row
pub record AreSums (rows : List (List Edge)) (sums : List ℤ) : Type 0 where
  pub each_row : length sums ≡ length rows
  pub same : (i : ℕ) → at sums i ≡ pos (susceptance_over (slice_index_or rows i []))

-- what a state keeps: it is sound, and beside it stand the sums of its rows
pub record IsKept (s : GridState) (sums : List ℤ) : Type 0 where
  pub sound : IsSound s
  pub summed : AreSums s.rows sums

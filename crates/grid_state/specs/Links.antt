-- Branches as links between nodes, chains of links, and the classes that they make.
use Rattle.std.specs.Prelude.{◌≡◌, ℕ, ◌<◌, ◌≤◌, Bool, true, false, not, ◌&&◌, ◌==◌, ◌⊎◌, ◌↔◌, IsTrue, List, length, map, filter, slice_index, slice_index_or, All, Any, unsigned_abs}
use Rattle.std.specs.List.{list_any, enumerate_from}
use Rattle.fb_types.specs.declared.grid.Branch.{Branch}
use Rattle.fb_types.specs.declared.grid.BranchKind.{BranchKind}
use Rattle.fb_types.specs.declared.grid.BranchKind.TheVariants.{Line, Transformer, Coupler}
use Rattle.grid_state.specs.declared.links.Link.{Link}

-- ---- Branches

-- whether a branch is of the outage, which lists the numbers of its branches
abbrev pub is_out : List ℕ → ℕ → Bool
is_out outage branch = list_any (λ k. k == branch) outage

abbrev pub is_coupler_kind : BranchKind → Bool
is_coupler_kind Line = false
is_coupler_kind Transformer = false
is_coupler_kind Coupler = true

abbrev pub is_coupler : Branch → Bool
is_coupler branch = is_coupler_kind branch.kind

-- a line or a transformer
abbrev pub is_line : Branch → Bool
is_line branch = not (is_coupler branch)

-- whether a branch, given with its number, is of the kind, in operation and outside the outage
abbrev pub is_chosen : (Branch → Bool) → (ℕ → Bool) → ℕ × Branch → Bool
is_chosen kind out p = kind p.1 && (p.1.in_operation && not (out p.0))

-- a branch as a link of its two nodes. The susceptance of a line or a transformer in operation is positive
abbrev pub link_of : Branch → Link
link_of branch = record { one = branch.from; other = branch.to; b = unsigned_abs branch.b }

-- the branches of a kind in operation outside the outage as links, in the order of the branches
abbrev pub links_of : (Branch → Bool) → (ℕ → Bool) → List Branch → List Link
links_of kind out branches = map (λ p. link_of p.1) (filter (is_chosen kind out) (enumerate_from 0 branches))

-- the closed couplers outside the outage
abbrev pub couplers_of : List ℕ → List Branch → List Link
couplers_of outage branches = links_of is_coupler (is_out outage) branches

-- the lines and transformers in operation outside the outage
abbrev pub lines_of : List ℕ → List Branch → List Link
lines_of outage branches = links_of is_line (is_out outage) branches

-- a link of nodes as a link of their classes
abbrev pub between : List ℕ → Link → Link
between class_of link = record { one = slice_index class_of link.one; other = slice_index class_of link.other; b = link.b }

-- ---- Chains

-- a link joins the places i and j, in the one direction or the other
abbrev pub HasEnds : ℕ → ℕ → Link → Type 0
HasEnds i j link = ((link.one ≡ i) × (link.other ≡ j)) ⊎ ((link.one ≡ j) × (link.other ≡ i))

-- a chain of links joins two places, which may be one
pub data IsJoined (links : List Link) : ℕ → ℕ → Type 0 where
  itself : (i : ℕ) → IsJoined links i i
  along : (i j k : ℕ) → Any (HasEnds i j) links → IsJoined links j k → IsJoined links i k

-- ---- Classes

-- Each of n places is of one of so many classes. Two places are of one class exactly where a chain of links joins them.
-- The classes are numbered from 0 in the order of their least places: before a place stands one of each class with a smaller
-- number.
pub record AreClasses (n : ℕ) (links : List Link) (classes : ℕ) (class_of : List ℕ) : Type 0 where
  pub each_place : length class_of ≡ n
  pub few : classes ≤ n
  pub below : All (λ c. c < classes) class_of
  pub used : (c : ℕ) → c < classes → (i : ℕ) × (i < n) × (slice_index class_of i ≡ c)
  pub one_class : (i j : ℕ) → i < n → j < n → (slice_index class_of i ≡ slice_index class_of j) ↔ IsJoined links i j
  pub in_order : (i c : ℕ) → i < n → c < slice_index class_of i → (j : ℕ) × (j < i) × (slice_index class_of j ≡ c)

-- marks of the places that a chain of links joins to one place
pub record AreReached (n : ℕ) (links : List Link) (from : ℕ) (marks : List Bool) : Type 0 where
  pub size : length marks ≡ n
  pub each : (i : ℕ) → i < n → IsTrue (slice_index_or marks i false) ↔ IsJoined links from i

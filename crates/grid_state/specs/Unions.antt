-- Words of private contracts: trees of places, in which each place points up to an earlier one of its class, or to itself.
-- Nobody need believe them: `AreClasses` says what comes of them.
use Rattle.std.specs.Prelude.{◌≡◌, ℕ, ◌<◌, ◌≤◌, Bool, true, false, List, length, map, filter, take, slice_index, slice_index_or, All}
use Rattle.std.specs.List.{enumerate_from}
use Rattle.fb_types.specs.declared.grid.Branch.{Branch}
use Rattle.grid_state.specs.declared.links.Link.{Link}
use Rattle.grid_state.specs.Links.{is_coupler, is_line, is_chosen, link_of, links_of}
use Rattle.grid_state.specs.Rows.{carries_in}

-- a set has both ends of each link, or neither
pub record Respects (links : List Link) (set : ℕ → Bool) : Type 0 where
  pub both : All (λ link. set link.one ≡ set link.other) links

-- a set has each place and the one that it points up to, or neither
pub record Follows (up : List ℕ) (set : ℕ → Bool) : Type 0 where
  pub both : (i : ℕ) → i < length up → set (slice_index up i) ≡ set i

pub record PointsUp (up : List ℕ) : Type 0 where
  pub before : (i : ℕ) → i < length up → slice_index up i ≤ i

-- from a place up to another, while the trees are made lower
pub record Climbs (old new : List ℕ) (from to : ℕ) : Type 0 where
  pub points : PointsUp new
  pub size : length new ≡ length old
  pub above : to ≤ from
  pub lower : (set : ℕ → Bool) → Follows old set → Follows new set
  pub higher : (set : ℕ → Bool) → Follows new set → Follows old set
  pub one_tree : (set : ℕ → Bool) → Follows new set → set to ≡ set from
  pub roots : (i : ℕ) → slice_index old i ≡ i → slice_index new i ≡ i

-- the trees of two places are made one
pub record Unites (old new : List ℕ) (link : Link) : Type 0 where
  pub points : PointsUp new
  pub size : length new ≡ length old
  pub united : (set : ℕ → Bool) → Follows old set → set link.one ≡ set link.other → Follows new set
  pub before : (set : ℕ → Bool) → Follows new set → Follows old set
  pub ends : (set : ℕ → Bool) → Follows new set → set link.one ≡ set link.other

-- n places, each of which points up to itself
pub record ArePlacesApart (up : List ℕ) (n : ℕ) : Type 0 where
  pub size : length up ≡ n
  pub itself : (i : ℕ) → i < n → slice_index up i ≡ i

-- trees of the classes that links make
pub record AreTrees (links : List Link) (up : List ℕ) : Type 0 where
  pub points : PointsUp up
  pub followed : (set : ℕ → Bool) → Respects links set → Follows up set
  pub respected : (set : ℕ → Bool) → Follows up set → Respects links set

-- the first places are labelled, each as the one that it points up to
pub record AreLabels (up labels : List ℕ) (count : ℕ) : Type 0 where
  pub few : count ≤ length labels
  pub below : All (λ c. c < count) labels
  pub follow : (i : ℕ) → i < length labels → slice_index labels (slice_index up i) ≡ slice_index labels i
  pub one_tree : (i j : ℕ) → i < length labels → j < length labels → slice_index labels i ≡ slice_index labels j → (set : ℕ → Bool) → Follows up set → set i ≡ set j
  pub used : (c : ℕ) → c < count → (i : ℕ) × (i < length labels) × (slice_index labels i ≡ c)
  pub in_order : (i c : ℕ) → i < length labels → c < slice_index labels i → (j : ℕ) × (j < i) × (slice_index labels j ≡ c)

-- the first k places are labelled
pub record LabelsFirst (up labels : List ℕ) (count k : ℕ) : Type 0 where
  pub good : AreLabels up labels count
  pub so_far : length labels ≡ k

-- marks of the places that pass a test
pub record AreMarks (n : ℕ) (marks : List Bool) (test : ℕ → Bool) : Type 0 where
  pub size : length marks ≡ n
  pub each : (i : ℕ) → slice_index_or marks i false ≡ test i

-- links of places below n
pub record AreLinksBelow (n : ℕ) (links : List Link) : Type 0 where
  pub ones : All (λ link. link.one < n) links
  pub others : All (λ link. link.other < n) links

-- a link of two places below n, with a susceptance in range
pub record IsLineBelow (n : ℕ) (link : Link) : Type 0 where
  pub one : link.one < n
  pub other : link.other < n
  pub some : 0 < link.b
  pub small : link.b ≤ 100000000000

-- couplers, or else lines and transformers
abbrev pub is_wanted : Bool → Branch → Bool
is_wanted true = is_coupler
is_wanted false = is_line

-- the links of the first k branches
abbrev pub links_before : Bool → List Bool → List Branch → ℕ → List Link
links_before couplers out branches k =
    map (λ p. link_of p.1) (filter (is_chosen (is_wanted couplers) (λ n. slice_index_or out n false)) (take k (enumerate_from 0 branches)))

-- the links of all branches, and whether each branch carries, where the branches of the outage are marked
abbrev pub links_marked : Bool → List Bool → List Branch → List Link
links_marked couplers out branches = links_of (is_wanted couplers) (λ n. slice_index_or out n false) branches

abbrev pub carries_marked : List Bool → List ℕ → List Bool → List Branch → List Bool
carries_marked out class_of live branches = map (carries_in (λ n. slice_index_or out n false) class_of live) (enumerate_from 0 branches)

-- whether each of the first k branches carries
abbrev pub carries_before : List Bool → List ℕ → List Bool → List Branch → ℕ → List Bool
carries_before out class_of live branches k = map (carries_in (λ n. slice_index_or out n false) class_of live) (take k (enumerate_from 0 branches))

-- Words of private contracts, which nobody need believe: rows that stand one behind another in one list, and how they are
-- filled, with a cursor for each that says where its next edge goes.
use Rattle.std.specs.Prelude.{◌≡◌, ℕ, zero, suc, ◌+◌, ◌-◌, ◌<◌, ◌≤◌, Bool, List, [], ◌∷◌, length, take, drop, slice_index, slice_index_or}
use Rattle.grid_state.specs.declared.types.Edge.{Edge}
use Rattle.grid_state.specs.declared.links.Link.{Link}
use Rattle.grid_state.specs.Rows.{edges_at}

-- ---- Rows in one list

-- the rows that end at these places, where the first of them starts at the given place
abbrev pub cut_rows : ℕ → List ℕ → List Edge → List (List Edge)
cut_rows start [] edges = []
cut_rows start (stop ∷ stops) edges = take (stop - start) (drop start edges) ∷ cut_rows stop stops edges

-- each row ends within the list, and no sooner than the one before it
pub record AreEnds (ends : List ℕ) (edges : List Edge) : Type 0 where
  pub rising : (i : ℕ) → i < length ends → slice_index (0 ∷ ends) i ≤ slice_index ends i
  pub within : (i : ℕ) → i < length ends → slice_index ends i ≤ length edges

-- ---- Filling

-- the sum of the first widths
abbrev pub before : (ℕ → ℕ) → ℕ → ℕ
before widths zero = 0
before widths (suc i) = before widths i + widths i

-- the row of the class i, and its length
abbrev pub row_seen : List Bool → List Link → ℕ → List Edge
row_seen live links i = edges_at live i links

abbrev pub width_seen : List Bool → List Link → ℕ → ℕ
width_seen live links i = length (edges_at live i links)

-- the length of each row
pub record AreWidths (live : List Bool) (links : List Link) (widths : List ℕ) : Type 0 where
  pub each_class : length widths ≡ length live
  pub width : (i : ℕ) → i < length live → slice_index widths i ≡ width_seen live links i

-- widths are turned into the places where the rows start
pub record AreStarts (widths starts : List ℕ) (total : ℕ) : Type 0 where
  pub each_class : length starts ≡ length widths
  pub start : (i : ℕ) → i < length widths → slice_index starts i ≡ before (slice_index widths) i
  pub whole : total ≡ before (slice_index widths) (length widths)

-- where the rows of these links start, and how many edges there are
pub record AreRowStarts (live : List Bool) (links : List Link) (starts : List ℕ) (total : ℕ) : Type 0 where
  pub each_class : length starts ≡ length live
  pub start : (i : ℕ) → i < length live → slice_index starts i ≡ before (width_seen live links) i
  pub whole : total ≡ before (width_seen live links) (length live)

-- Of n classes with rows of these widths in the end, so much of each row stands in its place, and its cursor behind it.
pub record AreFilled (n : ℕ) (widths : ℕ → ℕ) (rows : ℕ → List Edge) (cursors : List ℕ) (edges : List Edge) : Type 0 where
  pub each_class : length cursors ≡ n
  pub whole : length edges ≡ before widths n
  pub fits : (i : ℕ) → i < n → length (rows i) ≤ widths i
  pub cursor : (i : ℕ) → i < n → slice_index cursors i ≡ before widths i + length (rows i)
  pub put : (i j : ℕ) (d : Edge) → i < n → j < length (rows i) → slice_index_or edges (before widths i + j) d ≡ slice_index_or (rows i) j d

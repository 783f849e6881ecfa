-- Words of private contracts, which nobody need believe: a state that is told by what it changes of another.
use Rattle.std.specs.Prelude.{◌≡◌, ℕ, ◌<◌, ◌==◌, Bool, not, ◌&&◌, List, [], map, position, slice_index_or, Option, Some, None}
use Rattle.std.specs.List.{enumerate_from}
use Rattle.grid_state.specs.declared.types.Edge.{Edge}
use Rattle.grid_state.specs.declared.changes.ChangedRow.{ChangedRow}
use Rattle.grid_state.specs.declared.changes.Changes.{Changes}
use Rattle.grid_state.specs.GridState.{GridState, row_of, carries_at}
use Rattle.grid_state.specs.Links.{is_out}

-- where the row of a class stands among those that are changed
abbrev pub changed_at : List ChangedRow → ℕ → Option ℕ
changed_at changed i = position (λ c. c.class == i) changed

-- what stands past the end of the changed rows
abbrev pub no_change : ChangedRow
no_change = record { class = 0; row = [] }

-- the changed row at a place, or where there is none, the row as it was
abbrev pub row_or : List ChangedRow → Option ℕ → List Edge → List Edge
row_or changed None row = row
row_or changed (Some k) row = (slice_index_or changed k no_change).row

-- the row of a class, given with its number
abbrev pub row_with : List ChangedRow → ℕ × List Edge → List Edge
row_with changed p = row_or changed (changed_at changed p.0) p.1

-- whether a branch carries, given with its number
abbrev pub carries_with : List ℕ → ℕ × Bool → Bool
carries_with out p = p.1 && not (is_out out p.0)

-- a state where these changes are made
abbrev pub with_changes : Changes → GridState → GridState
with_changes changes s = record {
  class_of = s.class_of;
  slack = s.slack;
  live = s.live;
  rows = map (row_with changes.rows) (enumerate_from 0 s.rows);
  carries = map (carries_with changes.out) (enumerate_from 0 s.carries);
}

-- a state has the classes of nodes, the slack's class and the live classes of another
pub record HasClassesOf (s other : GridState) : Type 0 where
  pub class_of : s.class_of ≡ other.class_of
  pub slack : s.slack ≡ other.slack
  pub live : s.live ≡ other.live

-- the first rows of a state are those of another
abbrev pub HasRowsOf : GridState → GridState → ℕ → Type 0
HasRowsOf s other n = (i : ℕ) → i < n → row_of s i ≡ row_of other i

-- of the first branches those carry that do in another
abbrev pub HasCarriesOf : GridState → GridState → ℕ → Type 0
HasCarriesOf s other n = (i : ℕ) → i < n → carries_at s i ≡ carries_at other i

use Rattle.std.proofs.Common.{◌≡◌, ℕ, ◌<◌, ◌≤◌, get_or}
use Rattle.std.specs.Prelude.{slice_index}
use Rattle.grid_state.specs.RowCuts.{before}
use Rattle.grid_state.proofs.rows.starts_of.Given as goal

abbrev pub invariant-loop-place : goal.invariant-loop-place
invariant-loop-place l = record {
  sum : l.start ≡ before (slice_index l.fn.counts) l.place-index;
  done : (i : ℕ) → i < l.place-index → get_or l.counts i 0 ≡ before (slice_index l.fn.counts) i;
  left : (i : ℕ) → l.place-index ≤ i → get_or l.counts i 0 ≡ get_or l.fn.counts i 0;
}

-- Rows that stand one behind another in one list.
use Rattle.std.proofs.Common.{◌≡◌, ℕ, zero, suc, ◌-◌, ◌<◌, List, [], ◌∷◌, length, get_or, take, drop, arith, refl, ap}
use Rattle.grid_state.specs.declared.types.Edge.{Edge}
use Rattle.grid_state.specs.RowCuts.{cut_rows}

pub length-cut_rows : (start : ℕ) (ends : List ℕ) (edges : List Edge) → length (cut_rows start ends edges) ≡ length ends
length-cut_rows start [] edges = refl
length-cut_rows start (stop ∷ stops) edges = ap suc (length-cut_rows stop stops edges)

pub get_or-cut_rows : (start : ℕ) (ends : List ℕ) (edges : List Edge) (i : ℕ) → i < length ends
    → get_or (cut_rows start ends edges) i [] ≡ take (get_or ends i 0 - get_or (start ∷ ends) i 0) (drop (get_or (start ∷ ends) i 0) edges)
get_or-cut_rows start [] edges i h = absurd (omega arith)
get_or-cut_rows start (stop ∷ stops) edges zero h = refl
get_or-cut_rows start (stop ∷ stops) edges (suc i) h = get_or-cut_rows stop stops edges i (omega arith)

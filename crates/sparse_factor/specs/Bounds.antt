-- Words of conditions and of private contracts: nobody need believe them.
use Rattle.std.specs.Prelude.{◌≡◌, ℕ, ◌*◌, ◌^◌, ◌<◌, ◌≤◌, false, List, length, All, ℤ, pos, unsigned_abs}
use Rattle.whole_laws.specs.Sums.{at}
use Rattle.grid_state.specs.GridState.{GridState, is_free, live_count}
use Rattle.grid_laplacian.specs.Sizes.{least_susceptance_of, greatest_susceptance_of, total_susceptance_of}
use Rattle.grid_laplacian.specs.Ranges.{greater_total_of}
use Rattle.sparse_factor.specs.declared.sizes.Sizes.{Sizes}

-- a limit that keeps a guess small
pub record IsLimit (s : GridState) (total : ℕ) (limit : ℕ) : Type 0 where
  pub high : limit ≤ 2 ^ 121
  pub small : least_susceptance_of s * limit ≤ 2 * live_count s * greater_total_of s total

-- the first n classes have numbers within the limit, and 0 where angles stand still
pub record AreBounded (s : GridState) (limit : ℕ) (w : List ℤ) (n : ℕ) : Type 0 where
  pub each_class : length w ≡ n
  pub within : All (λ z. unsigned_abs z ≤ limit) w
  pub fixed : (i : ℕ) → i < n → is_free s i ≡ false → at w i ≡ pos 0

-- the sizes are those of the state
pub record AreSizes (s : GridState) (sizes : Sizes) : Type 0 where
  pub live : sizes.live ≡ live_count s
  pub total : sizes.total ≡ total_susceptance_of s
  pub greatest : sizes.greatest ≡ greatest_susceptance_of s
  pub least : sizes.least ≡ least_susceptance_of s
  pub few : live_count s ≤ 4096
  pub small : total_susceptance_of s ≤ 2 ^ 63
  pub some : 0 < least_susceptance_of s

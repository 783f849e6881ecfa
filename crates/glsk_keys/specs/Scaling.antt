-- A block of a key. Weights are scaled by one power of ten, so that each block's sum lies above 10^11 and at most at 10^12.
use Rattle.std.specs.Prelude.{ℕ, ◌+◌, ℤ, pos, ◌*ℤ◌, List, [], ◌∷◌, if◌then◌else◌, int_lt}
use Rattle.fb_types.specs.declared.keys.Block.{Block}
use Rattle.fb_types.specs.declared.keys.Weight.{Weight}
use Rattle.glsk_keys.specs.Measures.{total_of}
use Rattle.glsk_keys.specs.ScaleFound.{the_scale}

-- the greatest power of ten that keeps a sum from 1 to 10^12 at most at 10^12: this holds of it, and fails of the next power
abbrev pub power_for : ℤ → ℤ
power_for total = (the_scale total).power

-- the weights of the nodes from a place on, times a power: nodes without weight are left out
abbrev pub weights_from : ℕ → ℤ → List ℤ → List Weight
weights_from node power [] = []
weights_from node power (w ∷ ws) =
    if int_lt (pos 0) w then record { node = node; weight = power *ℤ w } ∷ weights_from (node + 1) power ws else weights_from (node + 1) power ws

-- the block with this share, in 10^-8, and these weights of all nodes
unfoldable pub block_with : ℤ → List ℤ → Block
block_with share values = record {
  share = share;
  total = power_for (total_of values) *ℤ total_of values;
  weights = weights_from 0 (power_for (total_of values)) values;
}

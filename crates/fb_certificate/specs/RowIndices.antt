-- Where reductions and grid states are found by number. Nobody need believe these words: they are of private contracts.
use Rattle.std.specs.Prelude.{◌≡◌, ℕ, ◌+◌, ◌*◌, Bool, true, false, List, length, map, Option}
use Rattle.place_tables.specs.Places.{first_places}
use Rattle.run_settings.specs.declared.reduction.Reduction.{Reduction}
use Rattle.fb_certificate.specs.declared.indices.Indices.{Indices}
use Rattle.fb_certificate.specs.declared.types.Inputs.{Inputs}

-- the key of an element in a direction: 2e where it is DIRECT, and 2e + 1 where it is OPPOSITE
abbrev pub key_of : ℕ → Bool → ℕ
key_of element false = 2 * element
key_of element true = 2 * element + 1

abbrev pub reduction_key : Reduction → ℕ
reduction_key r = key_of r.element r.opposite

-- the first reduction of each key, and the state of each contingency
pub record AreIndices (inputs : Inputs) (indices : Indices) : Type 0 where
  pub reductions : indices.reductions.items ≡ first_places (2 * length inputs.crac.elements) (map reduction_key inputs.reductions)
  pub states : indices.states.items ≡ first_places (length inputs.crac.contingencies) inputs.outages

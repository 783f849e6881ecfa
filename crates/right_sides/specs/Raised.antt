-- Words of private contracts: what is added to a list with a number for each class. Nobody need believe them: the contracts of
-- `reference_side` and `block_side` say what comes of them.
use Rattle.std.specs.Prelude.{◌≡◌, ℕ, ◌<◌, ℤ, pos, ◌+ℤ◌, List, length, if◌then◌else◌, ◌==◌}
use Rattle.whole_laws.specs.Sums.{sum_over, at}
use Rattle.fb_types.specs.declared.keys.Weight.{Weight}

-- what the function gives is added at each place
pub record IsRaised (old new : List ℤ) (f : ℕ → ℤ) : Type 0 where
  pub each_class : length new ≡ length old
  pub values : (c : ℕ) → c < length old → at new c ≡ at old c +ℤ f c

-- a number at one place, and 0 at all others
abbrev pub only_at : ℕ → ℤ → ℕ → ℤ
only_at place number c = if place == c then number else pos 0

-- what the weights have at a node
abbrev pub weights_at : List Weight → ℕ → ℤ
weights_at weights n = sum_over (λ w. if w.node == n then w.weight else pos 0) weights

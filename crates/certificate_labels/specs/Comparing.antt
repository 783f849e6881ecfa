-- Words of private contracts: how far the records are compared. Nobody need believe them, since what is wrong is said
-- in Labels.
use Rattle.std.specs.Prelude.{◌≡◌, ℕ, ◌<◌, List, drop}
use Rattle.certificate_labels.specs.Labels.{IsWrongAt}

-- the records before this place are compared, and none of them has a wrong label
pub record IsComparedSoFar (due records left : List (List (List ℕ))) (place : ℕ) : Type 0 where
  pub rest : left ≡ drop place records
  pub before : (i : ℕ) → i < place → ¬ IsWrongAt due records i

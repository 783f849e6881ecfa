-- Checks in order.
use Rattle.std.specs.Prelude.{Bool, List, [], ◌∷◌, Option, Some, None, if◌then◌else◌}

-- the kind of the first check that fails: a check is a test, true where it fails, and a kind
abbrev pub first_failing : {K : Type 0} → List (Bool × K) → Option K
first_failing [] = None
first_failing (check ∷ checks) = if check.0 then Some check.1 else first_failing checks

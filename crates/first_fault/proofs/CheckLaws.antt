-- Checks in order, part by part.
use Rattle.std.proofs.Common.{◌≡◌, Bool, true, false, cond, List, [], ◌∷◌, ◌++◌, Option, Some, None, refl, ap, ◌∙◌}
use Rattle.std.specs.Option.{option_or}
use Rattle.first_fault.specs.Checks.{first_failing}

pub first_failing-append : {K : Type 0} (front back : List (Bool × K)) → first_failing (front ++ back) ≡ option_or (first_failing front) (first_failing back)
first_failing-append [] back = refl
first_failing-append {K} (check ∷ checks) back = ap (cond check.0 (Some check.1)) (first_failing-append checks back) ∙ by_test check.0
  where
    by_test : (b : Bool) → cond b (Some check.1) (option_or (first_failing checks) (first_failing back)) ≡ option_or (cond b (Some check.1) (first_failing checks)) (first_failing back)
    by_test true = refl
    by_test false = refl

pub option_or-none : {K : Type 0} (o p : Option K) → o ≡ None → option_or o p ≡ p
option_or-none o p e = ap (λ x. option_or x p) e

use Rattle.std.proofs.Common.{◌≡◌, ◌^◌, ℤ, pos, ◌-ℤ◌, ◌*ℤ◌, List, ap, ◌∙◌, lit<, arith, to_z, of_z}
use mir.Syntax.{w64}
use Rattle.whole_laws.specs.Sums.{at, IsWithin}
use Rattle.fb_types.specs.Domain.{combined_coefficient}
use Rattle.fb_types.specs.declared.rows.Mult.{Mult}
use Rattle.row_weighing.proofs.Wide.{less_two_is, widened}
use Rattle.row_weighing.proofs.rest_at.Goals as goal

coefficient_within : (c : goal.After-result-1) → IsWithin (10 ^ 12) (at c.args.target.now.a c.args.zone)
coefficient_within c = c.requires.target_over.coefficients c.args.zone (pos 0) (omega (arith, c.requires.target_over.long))

-- the coefficient that the code reads is the target's
coefficient_read : (c : goal.After-result-1) → c.from-a.result ≡ at c.args.target.now.a c.args.zone
coefficient_read c =
    widened (10 ^ 12) (at c.args.target.now.a c.args.zone) c.from-a.result (coefficient_within c) (lit< tt) (c.from-a.ensures ∙ ap (λ (xs : List ℤ). to_z w64 (of_z w64 (at xs c.args.zone))) c.as_slice.ensures.items)

pub returns-clause-exact : goal.returns-clause-exact
returns-clause-exact c =
    let a = at c.args.target.now.a c.args.zone in
    let w = c.weighted_coefficient.ensures in
    let r = less_two_is c.from-a.result a c.weighted_coefficient.result c.args.by.now.mu (coefficient_read c) (coefficient_within c) w.small c.requires.balance in
    r.0 ∙ ap (λ (t : ℤ). pos (10 ^ 9) *ℤ a -ℤ t -ℤ c.args.by.now.mu) (w.exact ∙ ap (λ (ms : List Mult). combined_coefficient c.args.rows.now ms c.args.zone) c.as_slice-2.ensures.items)

pub returns-clause-small : goal.returns-clause-small
returns-clause-small c =
    (less_two_is c.from-a.result (at c.args.target.now.a c.args.zone) c.weighted_coefficient.result c.args.by.now.mu (coefficient_read c) (coefficient_within c) c.weighted_coefficient.ensures.small c.requires.balance).1

use Rattle.std.proofs.Common.{◌≡◌, ◌^◌, ℤ, pos, List, ap, ◌∙◌, lit<, arith, to_z, of_z}
use mir.Syntax.{w64}
use Rattle.whole_laws.specs.Sums.{at, IsWithin}
use Rattle.fb_types.specs.Domain.{combined_coefficient}
use Rattle.row_weighing.proofs.Wide.{widened}
use Rattle.multiplier_search.proofs.Light.{light_within, less_one_is}
use Rattle.multiplier_search.proofs.weighing.corner_at.Goals as goal

coefficient_within : (c : goal.After-weighted_coefficient) → IsWithin (10 ^ 12) (at c.args.target.now.a c.args.zone)
coefficient_within c = c.requires.target_over.coefficients c.args.zone (pos 0) (omega (arith, c.requires.target_over.long))

-- the coefficient that the code reads is the target's
coefficient_read : (c : goal.After-weighted_coefficient) → c.from-a.result ≡ at c.args.target.now.a c.args.zone
coefficient_read c =
    widened (10 ^ 12) (at c.args.target.now.a c.args.zone) c.from-a.result (coefficient_within c) (lit< tt) (c.from-a.ensures ∙ ap (λ (xs : List ℤ). to_z w64 (of_z w64 (at xs c.args.zone))) c.as_slice.ensures.items)

pub returns-clause-exact : goal.returns-clause-exact
returns-clause-exact c =
    (less_one_is c.from-a.result (at c.args.target.now.a c.args.zone) c.weighted_coefficient.result (combined_coefficient c.args.rows.now c.args.mults.now c.args.zone) (coefficient_read c) c.weighted_coefficient.ensures.exact (coefficient_within c) (light_within c.args.zones c.args.zone c.args.rows.now c.args.mults.now c.requires.over c.requires.zone_in c.requires.weights c.requires.light)).0

pub returns-clause-small : goal.returns-clause-small
returns-clause-small c =
    (less_one_is c.from-a.result (at c.args.target.now.a c.args.zone) c.weighted_coefficient.result (combined_coefficient c.args.rows.now c.args.mults.now c.args.zone) (coefficient_read c) c.weighted_coefficient.ensures.exact (coefficient_within c) (light_within c.args.zones c.args.zone c.args.rows.now c.args.mults.now c.requires.over c.requires.zone_in c.requires.weights c.requires.light)).1

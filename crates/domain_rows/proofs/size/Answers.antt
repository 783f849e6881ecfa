use Rattle.std.proofs.Common.{max, ap, ap₂, ◌∙◌, FitsSigned, rules}
use Rattle.std.specs.Prelude.{unsigned_abs}
use Rattle.std.specs.Int.{w128}
use Rattle.std.proofs.lemmas.Int.{to_z-of_z}
use Rattle.domain_rows.proofs.Sizes.{size_within, size_least}
use Rattle.domain_rows.proofs.size.Goals as goal

pub returns : goal.returns
returns c =
    let low_fits : FitsSigned w128 c.low.result = search rules in
    let high_fits : FitsSigned w128 c.high.result = search rules in
    let is = c.max.ensures
    ∙ ap₂ max (c.unsigned_abs.ensures.value ∙ ap unsigned_abs (to_z-of_z w128 c.low.result low_fits ∙ c.low.ensures)) (c.unsigned_abs-2.ensures.value ∙ ap unsigned_abs (to_z-of_z w128 c.high.result high_fits ∙ c.high.ensures)) in
    record { within = size_within c.args.span c.max.result is; least = λ m h. size_least c.args.span c.max.result m is h }

use Rattle.std.proofs.lemmas.Bool.{OnTrue_from, OnFalse_from, both_ways}
use Rattle.certificate_check.specs.Bounded.{IsSmall}
use Rattle.certificate_check.proofs.SmallNumbers.{small_within}
use Rattle.certificate_check.proofs.columns.is_small.Goals as goal

pub returns-clause-yes : goal.returns-clause-yes
returns-clause-yes c =
    OnTrue_from c.are_within.result (IsSmall c.args.state.now c.args.w.now)
    (λ t. (small_within c.args.state.now c.sound.ensures c.args.w.now c.greatest_angle.result
    c.greatest_angle.ensures).0 (c.are_within.ensures.0 t))

pub returns-clause-no : goal.returns-clause-no
returns-clause-no c =
    OnFalse_from c.are_within.result (IsSmall c.args.state.now c.args.w.now → ⊥)
    (λ t small. absurd (both_ways c.are_within.result t
    (c.are_within.ensures.1 ((small_within c.args.state.now c.sound.ensures c.args.w.now c.greatest_angle.result
    c.greatest_angle.ensures).1 small))))

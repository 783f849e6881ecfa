use Rattle.std.proofs.Common.{ℕ, List, [], ◌∷◌, ◌++◌, ap, sym, ◌∙◌}
use Rattle.domain_maker.proofs.Zips.{range_next}
use Rattle.domain_maker.proofs.state_rows.numbers_below.Goals as goal

pub loop-number-preserved : goal.loop-number-preserved
loop-number-preserved c =
    c.in_ok-add.ensures.pushed
    ∙ (ap (λ (ns : List ℕ). ns ++ c.loop-number.number ∷ []) c.loop-number.invariant
    ∙ sym (range_next c.loop-number.number))

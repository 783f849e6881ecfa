use Rattle.std.proofs.Common.{pos, ◌-ℤ◌, sym, subst, ap, ap₂, ◌∙◌}
use Rattle.std.specs.Int.{int_max}
use Rattle.fb_span.specs.Exact.{IsFrom}
use Rattle.cnec_selection.proofs.SpreadProofs.{spread_from_zero, spread_ordered, no_spread}
use Rattle.cnec_selection.proofs.spread.Goals as goal

pub returns-in_err-not_negative : goal.returns-in_err-not_negative
returns-in_err-not_negative g c =
    let e = c.in_ok-greatest.ensures in
    let whole = g.T.Scalar.whole in
    let low = whole g.T.Scalar.LOW in
    let high = whole g.T.Scalar.HIGH in
    let greatest = c.in_ok-greatest.field-0.greatest in
    let least = c.in_ok-greatest.field-0.least in
    let inner = ap₂ (λ x y. whole x -ℤ whole y) c.low.ensures c.high.ensures in
    let outer = ap₂ (λ x y. whole x -ℤ whole y) c.high-2.ensures c.low-2.ensures in
    no_spread whole low high c.args.factors.now c.from_residual-in_err-not_negative.result c.from_residual-in_err-not_negative.ensures
    (λ fits. c.in_err-not_negative.ensures (subst (λ z. IsFrom low high (int_max z (pos 0))) (sym (c.in_ok-low.ensures.0 ∙ inner))
    (spread_from_zero low high c.as_slice.result.now (whole greatest.0, whole greatest.1) (whole least.0, whole least.1) c.sound.ensures c.sound-2.ensures e.greatest_low e.least_low
    (subst (IsFrom low high) inner c.in_ok-low.ensures.1) (subst (IsFrom low high) outer c.in_ok-high.ensures.1))))

pub between-requires : goal.between-requires
between-requires g c =
    let e = c.in_ok-greatest.ensures in
    let whole = g.T.Scalar.whole in
    let greatest = c.in_ok-greatest.field-0.greatest in
    let least = c.in_ok-greatest.field-0.least in
    spread_ordered c.as_slice.result.now (whole greatest.0, whole greatest.1) (whole least.0, whole least.1) _ _ c.sound.ensures c.sound-2.ensures e.greatest_low e.least_low
    (c.in_ok-not_negative.ensures.0 ∙ ap (λ z. int_max z (pos 0)) (c.in_ok-low.ensures.0 ∙ ap₂ (λ x y. whole x -ℤ whole y) c.low.ensures c.high.ensures))
    (c.in_ok-high.ensures.0 ∙ ap₂ (λ x y. whole x -ℤ whole y) c.high-2.ensures c.low-2.ensures)

use Rattle.std.proofs.Common.{◌∙◌, ap, ap₂, FitsSigned, w64, rules, rules}
use mir.Syntax.{w128}
use Rattle.std.proofs.lemmas.Int.{to_z-of_z}
use Rattle.security.specs.Margins.{numbers_of}
use Rattle.ram_formulas.specs.MarginSpans.{margin_at}
use Rattle.ram_formulas.proofs.MarginProofs.{margin_falls, margin_held}
use Rattle.ram_formulas.proofs.ram.Goals as goal

pub between-requires : goal.between-requires
between-requires c =
    let limit : FitsSigned w64 c.args.limit = c.ranges.limit in
    let margin : FitsSigned w64 c.args.margin = c.ranges.margin in
    let cva : FitsSigned w64 c.args.cva = c.ranges.cva in
    let iva : FitsSigned w64 c.args.iva = c.ranges.iva in
    let at_high : FitsSigned w128 c.high.result = search rules in
    let fuaf_high : FitsSigned w128 c.high-2.result = search rules in
    let at_low : FitsSigned w128 c.low.result = search rules in
    let fuaf_low : FitsSigned w128 c.low-2.result = search rules in
    let low_fits : FitsSigned w128 c.margin_from-low.result = search rules in
    let high_fits : FitsSigned w128 c.margin_from-high.result = search rules in
    let low = simp to_z-of_z at c.margin_from-low.ensures.value in
    let high = simp to_z-of_z at c.margin_from-high.ensures.value in
    rw (to_z-of_z w128 c.margin_from-low.result low_fits, to_z-of_z w128 c.margin_from-high.result high_fits, low, high, c.high.ensures, c.high-2.ensures, c.low.ensures, c.low-2.ensures)
    (margin_falls (numbers_of c.args.limit c.args.margin c.args.ramr c.args.cva c.args.iva) _ _ _ _ c.sound.ensures c.sound-2.ensures)

pub returns-clause-low : goal.returns-clause-low
returns-clause-low c =
    let limit : FitsSigned w64 c.args.limit = c.ranges.limit in
    let margin : FitsSigned w64 c.args.margin = c.ranges.margin in
    let cva : FitsSigned w64 c.args.cva = c.ranges.cva in
    let iva : FitsSigned w64 c.args.iva = c.ranges.iva in
    let at_high : FitsSigned w128 c.high.result = search rules in
    let fuaf_high : FitsSigned w128 c.high-2.result = search rules in
    let low_fits : FitsSigned w128 c.margin_from-low.result = search rules in
    let low = simp to_z-of_z at c.margin_from-low.ensures.value in
    ap (λ s. s.0) c.between.ensures ∙ to_z-of_z w128 c.margin_from-low.result low_fits ∙ low
    ∙ ap₂ (margin_at (numbers_of c.args.limit c.args.margin c.args.ramr c.args.cva c.args.iva)) c.high.ensures c.high-2.ensures

pub returns-clause-high : goal.returns-clause-high
returns-clause-high c =
    let limit : FitsSigned w64 c.args.limit = c.ranges.limit in
    let margin : FitsSigned w64 c.args.margin = c.ranges.margin in
    let cva : FitsSigned w64 c.args.cva = c.ranges.cva in
    let iva : FitsSigned w64 c.args.iva = c.ranges.iva in
    let at_low : FitsSigned w128 c.low.result = search rules in
    let fuaf_low : FitsSigned w128 c.low-2.result = search rules in
    let high_fits : FitsSigned w128 c.margin_from-high.result = search rules in
    let high = simp to_z-of_z at c.margin_from-high.ensures.value in
    ap (λ s. s.1) c.between.ensures ∙ to_z-of_z w128 c.margin_from-high.result high_fits ∙ high
    ∙ ap₂ (margin_at (numbers_of c.args.limit c.args.margin c.args.ramr c.args.cva c.args.iva)) c.low.ensures c.low-2.ensures

pub returns-clause-holds : goal.returns-clause-holds
returns-clause-holds c = margin_held (numbers_of c.args.limit c.args.margin c.args.ramr c.args.cva c.args.iva) c.args.f0core c.args.fuaf c.between.result (returns-clause-low c) (returns-clause-high c)

use Rattle.std.proofs.Common.{◌∙◌, ap₂, ◌-ℤ◌, FitsSigned, w64}
use mir.Syntax.{w128}
use Rattle.std.specs.Int.{int_max}
use Rattle.std.proofs.lemmas.Int.{to_z-of_z}
use Rattle.ram_formulas.proofs.MarginProofs.{computed}
use Rattle.ram_formulas.proofs.margin_from.Goals as goal

pub overflow_sub-result : goal.overflow_sub-result
overflow_sub-result c = (computed _ _ _ _ _ _ c.shared.ensures.within c.fifth.ensures.within c.room.ensures.within c.reductions.ensures.within c.max.ensures.value c.max-most.ensures.value).fits

pub returns-clause-value : goal.returns-clause-value
returns-clause-value c =
    let limit : FitsSigned w64 c.args.limit = c.ranges.limit in
    let margin : FitsSigned w64 c.args.margin = c.ranges.margin in
    let cva : FitsSigned w64 c.args.cva = c.ranges.cva in
    let iva : FitsSigned w64 c.args.iva = c.ranges.iva in
    let f0core : FitsSigned w128 c.args.f0core = c.ranges.f0core in
    let fuaf : FitsSigned w128 c.args.fuaf = c.ranges.fuaf in
    let shared = simp to_z-of_z at c.shared.ensures.value in
    let fifth = simp to_z-of_z at c.fifth.ensures.value in
    let room = simp to_z-of_z at c.room.ensures.value in
    let reductions = simp to_z-of_z at c.reductions.ensures.value in
    (computed _ _ _ _ _ _ c.shared.ensures.within c.fifth.ensures.within c.room.ensures.within c.reductions.ensures.within c.max.ensures.value c.max-most.ensures.value).value
    ∙ ap₂ ◌-ℤ◌ (ap₂ int_max (ap₂ int_max shared fifth) room) reductions

pub returns-clause-within : goal.returns-clause-within
returns-clause-within c = (computed _ _ _ _ _ _ c.shared.ensures.within c.fifth.ensures.within c.room.ensures.within c.reductions.ensures.within c.max.ensures.value c.max-most.ensures.value).within

use Rattle.std.proofs.Common.{w64, subst, rules}
use Rattle.std.proofs.lemmas.Int.{to_z-of_z}
use Rattle.cnec_selection.specs.SpreadSpans.{HoldsSpread}
use Rattle.cnec_rows.specs.RowNumbers.{stated_of, of_core, f0core_span, f0all_span, fuaf_span, ram_span, spread_span}
use Rattle.cnec_rows.proofs.Parts.{spans_same, ram_same, spread_same, stated_same, margin_same}
use Rattle.cnec_rows.proofs.row.spans_from.Goals as goal

pub returns-clause-value : goal.returns-clause-value
returns-clause-value c =
    let terms = c.args.terms.now in
    let zones = c.args.zones.now in
    let fref = c.args.fref in
    let factors = c.args.factors.now in
    let f0core = c.without_core-f0core.ensures.value in
    let fuaf = c.external-fuaf.ensures.value in
    let stated = stated_same terms.limit terms.margin terms.cva terms.iva _ _ _ _ terms.ramr (to_z-of_z w64 terms.limit (search rules)) (to_z-of_z w64 terms.margin (search rules)) (to_z-of_z w64 terms.cva (search rules)) (to_z-of_z w64 terms.iva (search rules)) in
    spans_same fref c.without_core-f0core.result c.without_any.result c.external-fuaf.result c.ram.result c.zone_to_zone.result
    (f0core_span zones fref factors) (f0all_span zones fref factors) (fuaf_span zones factors) (ram_span (stated_of terms) (f0core_span zones fref factors) (fuaf_span zones factors)) (spread_span (of_core zones.core factors))
    f0core c.without_any.ensures.value fuaf
    (ram_same _ (stated_of terms) c.without_core-f0core.result c.external-fuaf.result _ _ c.ram.result stated f0core fuaf c.ram.ensures.low c.ram.ensures.high)
    (spread_same c.args.core.now (of_core zones.core factors) c.zone_to_zone.result c.requires.core c.zone_to_zone.ensures.low c.zone_to_zone.ensures.high)

pub returns-clause-holds : goal.returns-clause-holds
returns-clause-holds c =
    let terms = c.args.terms.now in
    let stated = stated_same terms.limit terms.margin terms.cva terms.iva _ _ _ _ terms.ramr (to_z-of_z w64 terms.limit (search rules)) (to_z-of_z w64 terms.margin (search rules)) (to_z-of_z w64 terms.cva (search rules)) (to_z-of_z w64 terms.iva (search rules)) in
    record {
      f0core = c.without_core-f0core.ensures.holds;
      f0all = c.without_any.ensures.holds;
      fuaf = c.external-fuaf.ensures.holds;
      ram = margin_same _ (stated_of terms) c.without_core-f0core.result c.external-fuaf.result c.ram.result stated c.ram.ensures.holds;
      spread = subst (λ core. HoldsSpread core c.zone_to_zone.result) c.requires.core c.zone_to_zone.ensures.holds;
    }

use Rattle.std.proofs.Common.{◌<◌, length, sym, subst, ap, ◌∙◌, arith, FitsSigned, w64, rules}
use Rattle.std.proofs.lemmas.Int.{to_z-of_z}
use Rattle.whole_laws.specs.Sums.{IsWithin}
use Rattle.domain_rows.specs.Brackets.{coefficient_of}
use Rattle.domain_rows.proofs.Loops.{coefficients_more, each_more}
use Rattle.domain_rows.proofs.put_coefficients.Goals as goal

pub loop-zone-preserved : goal.loop-zone-preserved
loop-zone-preserved c =
    let zone = c.loop-zone.zone in
    let in_a : zone < length c.loop-zone.a = omega arith in
    let fits : FitsSigned w64 c.coefficient.result = search rules in
    let same = to_z-of_z w64 c.coefficient.result fits in
    record {
      coefficients = coefficients_more c.loop-zone.a c.args.factors.now zone _ c.index-factors-zone.result in_a c.loop-zone-test.true c.loop-zone.invariant.coefficients
          (same ∙ c.coefficient.ensures.value ∙ ap coefficient_of c.index-factors-zone.is);
      within = each_more (IsWithin 1_000_000_000_000) c.loop-zone.a zone _ in_a c.loop-zone.invariant.within (subst (IsWithin 1_000_000_000_000) (sym same) c.coefficient.ensures.within);
    }

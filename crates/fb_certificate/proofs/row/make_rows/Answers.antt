use Rattle.std.proofs.Common.{◌<◌, length, ap, sym, ◌∙◌, arith}
use Rattle.std.proofs.lemmas.List.{length-map}
use Rattle.fb_certificate.specs.Capacity.{IsRight}
use Rattle.fb_certificate.specs.CracRows.{crac_rows}
use Rattle.fb_certificate.specs.RunRows.{run_row}
use Rattle.fb_certificate.specs.Valid.{IsRowOf}
use Rattle.fb_certificate.proofs.RunLaws.{crac_row_at, run_row_at}
use Rattle.fb_certificate.proofs.WholeLaws.{zip_more}
use Rattle.fb_certificate.proofs.row.make_rows.Goals as goal

pub loop-row-preserved : goal.loop-row-preserved
loop-row-preserved c =
    let inputs = c.args.inputs.now in
    let rows = crac_rows inputs.crac.elements in
    let k = c.loop-row.row-index in
    let same = c.as_slice-row-items.ensures.value ∙ c.in_ok-rows.ensures in
    let below : k < length rows = omega (arith, c.loop-row-test.true, ap length same, length-map rows (run_row inputs)) in
    let row = crac_row_at rows k below in
    let is = run_row_at inputs c.as_slice-row-items.result.now k row.0 _ same below row.1 in
    record {
      numbers = zip_more (IsRowOf inputs c.args.states.now) rows k row.0 c.loop-row.made c.add.new.self c.in_ok-found.found.numbers below (sym row.1) c.loop-row.invariant.numbers
          (record { spans = c.in_ok-found.found.spans; are = c.in_ok-found.ensures.numbers row.0 is }) c.in_ok-add.ensures.pushed;
      right = zip_more (IsRight inputs) rows k row.0 c.loop-row.made c.add.new.self c.in_ok-found.found.numbers below (sym row.1) c.loop-row.invariant.right
          (c.in_ok-found.ensures.right row.0 is) c.in_ok-add.ensures.pushed;
      last = c.in_ok-found.ensures.flows;
    }

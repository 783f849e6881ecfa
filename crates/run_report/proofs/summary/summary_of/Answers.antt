use Rattle.std.proofs.Common.{ap, arith}
use Rattle.run_settings.specs.Laws.{core_bounds}
use Rattle.fb_certificate.specs.Lists.{inner_list, outer_list}
use Rattle.run_report.specs.ReportTexts.{count_where}
use Rattle.run_report.proofs.Counts.{inner_counted, kept_counted, outer_counted}
use Rattle.run_report.proofs.summary.summary_of.Goals as goal

pub overflow_sub-inner : goal.overflow_sub-inner
overflow_sub-inner c = omega (arith, c.below_count-below.ensures, inner_counted c.as_slice-rows.result.now)

pub overflow_sub-outer : goal.overflow_sub-outer
overflow_sub-outer c =
    let rows = c.as_slice-rows.result.now in
    let inner = inner_counted rows in
    let outer = outer_counted rows in
    omega (arith, c.below_count-below.ensures, c.doubtful_count-doubtful.ensures, inner, outer)

pub overflow_sub-result : goal.overflow_sub-result
overflow_sub-result c =
    let rows = c.as_slice-rows.result.now in
    let certificate = c.args.certificate.now in
    let same = ap (count_where inner_list.holds) c.as_slice-rows.ensures.items in
    omega (
      arith,
      c.below_count-below.ensures,
      c.len-inner_removed.ensures.count,
      same,
      inner_counted rows,
      kept_counted inner_list (core_bounds c.args.inputs.now.settings.zones) certificate.rows certificate.inner
          c.requires.inner,
    )

pub overflow_sub-result-2 : goal.overflow_sub-result-2
overflow_sub-result-2 c =
    let rows = c.as_slice-rows.result.now in
    let certificate = c.args.certificate.now in
    let same = ap (count_where outer_list.holds) c.as_slice-rows.ensures.items in
    omega (
      arith,
      c.below_count-below.ensures,
      c.doubtful_count-doubtful.ensures,
      c.len-outer_removed.ensures.count,
      same,
      inner_counted rows,
      outer_counted rows,
      kept_counted outer_list (core_bounds c.args.inputs.now.settings.zones) certificate.rows certificate.outer
          c.requires.outer,
    )

pub returns-clause-inner_kept : goal.returns-clause-inner_kept
returns-clause-inner_kept c =
    let rows = c.as_slice-rows.result.now in
    let certificate = c.args.certificate.now in
    let same = ap (count_where inner_list.holds) c.as_slice-rows.ensures.items in
    omega (
      arith,
      c.below_count-below.ensures,
      c.len-inner_removed.ensures.count,
      same,
      inner_counted rows,
      kept_counted inner_list (core_bounds c.args.inputs.now.settings.zones) certificate.rows certificate.inner
          c.requires.inner,
    )

pub returns-clause-outer_kept : goal.returns-clause-outer_kept
returns-clause-outer_kept c =
    let rows = c.as_slice-rows.result.now in
    let certificate = c.args.certificate.now in
    let same = ap (count_where outer_list.holds) c.as_slice-rows.ensures.items in
    omega (
      arith,
      c.below_count-below.ensures,
      c.doubtful_count-doubtful.ensures,
      c.len-outer_removed.ensures.count,
      same,
      inner_counted rows,
      outer_counted rows,
      kept_counted outer_list (core_bounds c.args.inputs.now.settings.zones) certificate.rows certificate.outer
          c.requires.outer,
    )

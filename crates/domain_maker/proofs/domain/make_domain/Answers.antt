use Rattle.std.proofs.Common.{refl}
use Rattle.fb_certificate.specs.declared.types.Certificate.{Certificate}
use Rattle.valid_domains.proofs.NumberRanges.{rows_in_box}
use Rattle.domain_maker.proofs.Lists.{few_rows}
use Rattle.domain_maker.proofs.RowsByState.{rows_due, spans_due}
use Rattle.domain_maker.proofs.domain.make_domain.Goals as goal

pub removed-requires-clause-range : goal.removed-requires-clause-range
removed-requires-clause-range g c =
    let inputs = c.args.inputs.now in
    let made = c.in_ok-made.ensures in
    let rows = c.in_ok-spans.rows in
    rows_in_box inputs made.proofs rows c.requires.whole made.proved (rows_due inputs c.in_ok-made.made made rows c.in_ok-spans.ensures.rows)

pub removed-requires-clause-few : goal.removed-requires-clause-few
removed-requires-clause-few g c =
    let inputs = c.args.inputs.now in
    let made = c.in_ok-made.ensures in
    let rows = c.in_ok-spans.rows in
    few_rows inputs made.proofs rows c.requires.whole (rows_due inputs c.in_ok-made.made made rows c.in_ok-spans.ensures.rows)

pub removed-requires-2-clause-range : goal.removed-requires-2-clause-range
removed-requires-2-clause-range g c =
    let inputs = c.args.inputs.now in
    let made = c.in_ok-made.ensures in
    let rows = c.in_ok-spans.rows in
    rows_in_box inputs made.proofs rows c.requires.whole made.proved (rows_due inputs c.in_ok-made.made made rows c.in_ok-spans.ensures.rows)

pub removed-requires-2-clause-few : goal.removed-requires-2-clause-few
removed-requires-2-clause-few g c =
    let inputs = c.args.inputs.now in
    let made = c.in_ok-made.ensures in
    let rows = c.in_ok-spans.rows in
    few_rows inputs made.proofs rows c.requires.whole (rows_due inputs c.in_ok-made.made made rows c.in_ok-spans.ensures.rows)

pub returns : goal.returns
returns g c =
    let inputs = c.args.inputs.now in
    let made = c.in_ok-made.ensures in
    let rows = c.in_ok-spans.rows in
    let inner = c.in_ok-inner.inner in
    let outer = c.in_ok-outer.outer in
    let full : Certificate = record { version = 1; states = made.proofs; rows = rows; inner = inner; outer = outer } in
    record {
      full = full;
      valid = record {
        version = refl;
        states = made.proved;
        rows = rows_due inputs c.in_ok-made.made made rows c.in_ok-spans.ensures.rows;
        inner = c.in_ok-inner.ensures.cites;
        outer = c.in_ok-outer.ensures.cites;
      };
      thin = record { inner = c.in_ok-inner.ensures.thin; outer = c.in_ok-outer.ensures.thin };
      same = λ i. record { version = 1; states = c.new.ensures.empty i; rows = rows; inner = inner; outer = outer };
      spans = spans_due inputs c.in_ok-made.made made c.in_ok-spans.spans c.in_ok-spans.ensures.spans;
    }

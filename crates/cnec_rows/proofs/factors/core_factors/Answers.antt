use Rattle.std.proofs.Common.{length, pos, ap, ◌∙◌, arith}
use Rattle.std.proofs.lemmas.List.Elements.{All-same}
use Rattle.fb_span.specs.Ends.{EndsWithin}
use Rattle.cnec_rows.specs.RowNumbers.{of_core}
use Rattle.cnec_rows.proofs.Lists.{core_same, core_more, core_length, core_all, core_found}
use Rattle.cnec_rows.proofs.factors.core_factors.Goals as goal

pub bounds-flags-zone : goal.bounds-flags-zone
bounds-flags-zone c =
    let flags = ap length c.as_slice-flags.ensures.items in
    let spans = ap length c.as_slice-spans.ensures.items in
    omega (arith, flags, spans)

pub loop-zone-preserved-then-not-flags-zone : goal.loop-zone-preserved-then-not-flags-zone
loop-zone-preserved-then-not-flags-zone c =
    let flags = ap length c.as_slice-flags.ensures.items in
    let spans = ap length c.as_slice-spans.ensures.items in
    core_same c.as_slice-flags.result.now c.as_slice-spans.result.now c.loop-zone.found c.loop-zone.zone _ (pos 0, pos 0) (omega (arith, flags, spans)) c.loop-zone-test.true c.if-not-flags-zone.true c.loop-zone.invariant

pub loop-zone-preserved : goal.loop-zone-preserved
loop-zone-preserved c =
    let flags = ap length c.as_slice-flags.ensures.items in
    let spans = ap length c.as_slice-spans.ensures.items in
    core_more c.as_slice-flags.result.now c.as_slice-spans.result.now c.loop-zone.found c.add.new.self c.loop-zone.zone _ c.index-spans-zone.result (omega (arith, flags, spans)) c.loop-zone-test.true c.if-not-flags-zone.false c.index-spans-zone.is
    c.loop-zone.invariant c.in_ok-add.ensures.pushed

pub returns-clause-value : goal.returns-clause-value
returns-clause-value c =
    core_found c.as_slice-flags.result.now c.args.core.now c.as_slice-spans.result.now c.args.factors.now c.loop-zone.found c.loop-zone.zone c.as_slice-flags.ensures.items c.as_slice-spans.ensures.items
    c.requires.as_many c.loop-zone-test.false c.loop-zone.invariant

pub returns-clause-count : goal.returns-clause-count
returns-clause-count c = ap length (returns-clause-value c) ∙ core_length c.args.core.now c.args.factors.now c.requires.as_many

pub returns-clause-within : goal.returns-clause-within
returns-clause-within c =
    All-same (EndsWithin 1_000_000_000_000) c.loop-zone.found (of_core c.args.core.now c.args.factors.now) (returns-clause-value c) (core_all (EndsWithin 1_000_000_000_000) c.args.core.now c.args.factors.now c.requires.factors_in)

use Rattle.std.proofs.Common.{◌≡◌, ◌<◌, ℤ, List, map, sym, ap, ap₂, subst, ◌∙◌}
use Rattle.domain_rows.specs.Brackets.{Brackets}
use Rattle.cnec_rows.specs.declared.types.RowSpans.{RowSpans}
use Rattle.cnec_rows.specs.RowNumbers.{directed, row_on, of_core, spans_from, proof_from}
use Rattle.cnec_rows.proofs.Exact.{hold_numbers, right_row}
use Rattle.cnec_rows.proofs.Turned.{turned_along, turned_factors, turned_within}
use Rattle.cnec_rows.proofs.row.row_on.Goals as goal

pub spans_from-spans-requires-clause-some : goal.spans_from-spans-requires-clause-some
spans_from-spans-requires-clause-some c = subst (λ n. 0 < n) (c.requires.zones.bounds ∙ sym c.in_ok-core.ensures.count) c.requires.zones.some

pub proof_from-requires-clause-as_many_bounds : goal.proof_from-requires-clause-as_many_bounds
proof_from-requires-clause-as_many_bounds c = c.requires.zones.bounds ∙ sym c.in_ok-core.ensures.count

pub returns-clause-spans : goal.returns-clause-spans
returns-clause-spans c =
    c.spans_from-spans.ensures.value
    ∙ ap₂ (λ fref factors. spans_from c.args.terms.now c.args.zones.now fref factors) c.directed-fref.ensures c.in_ok-factors.ensures.value

pub returns-clause-row : goal.returns-clause-row
returns-clause-row c =
    let zones = c.args.zones.now in
    let terms = c.args.terms.now in
    let spans = c.spans_from-spans.result in
    let factors = map (directed terms.against) c.args.flows.now.factors in
    let core : c.in_ok-core.core ≡ of_core zones.core factors = c.in_ok-core.ensures.value ∙ ap (of_core zones.core) c.in_ok-factors.ensures.value in
    c.in_ok-row.ensures.value ∙ ap (λ (k : List (ℤ × ℤ)). proof_from terms zones k spans.ram spans.spread) core
    ∙ ap (λ (x : RowSpans). proof_from terms zones (of_core zones.core factors) x.ram x.spread) (returns-clause-spans c)

pub spans_from-spans-requires-clause-fref_in : goal.spans_from-spans-requires-clause-fref_in
spans_from-spans-requires-clause-fref_in c =
    turned_within 3_000_000_000_000_000_000_000_000 c.args.terms.now.against c.args.flows.now.reference c.directed-fref.result c.requires.flows.reference_in c.directed-fref.ensures

pub returns-clause-holds : goal.returns-clause-holds
returns-clause-holds c = λ named same stands.
    let s = c.args.state.now in
    let against = c.args.terms.now.against in
    let flows = c.args.flows.now in
    let held = c.requires.flows.hold named same stands in
    let fref = ap (λ (x : RowSpans). x.fref) c.spans_from-spans.ensures.value in
    hold_numbers s c.args.grid.now (row_on c.args.terms.now named) c.args._columns.now c.args.zones.now c.in_ok-factors.factors c.spans_from-spans.result c.requires.zones
    (turned_factors s named against c.args._columns.now flows.factors c.in_ok-factors.factors held.factors c.in_ok-factors.ensures.value)
    (turned_along s c.args.grid.now named against flows.reference c.spans_from-spans.result.fref held.reference (fref ∙ c.directed-fref.ensures))
    c.spans_from-spans.ensures.holds

pub returns-clause-right : goal.returns-clause-right
returns-clause-right c = λ named same stands.
    let s = c.args.state.now in
    let zones = c.args.zones.now in
    let terms = c.args.terms.now in
    let spans = c.spans_from-spans.result in
    let held = c.requires.flows.hold named same stands in
    right_row s c.args.grid.now (row_on terms named) c.args._columns.now zones c.in_ok-factors.factors terms.threshold spans c.in_ok-row.row c.bracketing.ensures c.requires.zones
    (turned_factors s named terms.against c.args._columns.now c.args.flows.now.factors c.in_ok-factors.factors held.factors c.in_ok-factors.ensures.value)
    (returns-clause-holds c named same stands) c.in_ok-row.ensures.right
    (subst (λ (k : List (ℤ × ℤ)). Brackets k spans.ram zones.bounds c.in_ok-row.row.a c.in_ok-row.row.r_in c.in_ok-row.row.r_out) c.in_ok-core.ensures.value c.in_ok-row.ensures.brackets)

use Rattle.std.proofs.Common.{◌+◌, ◌<◌, List, [], ◌∷◌, length, sym, ap, subst, ◌∙◌, arith, take_all, length-append}
use Rattle.std.specs.List.{AllZip}
use Rattle.std.proofs.lemmas.List.Elements.{All-push, All-same}
use Rattle.fb_span.specs.Ends.{EndsWithin}
use Rattle.fb_types.specs.declared.keys.Block.{Block}
use Rattle.fb_types.specs.declared.keys.Column.{Column}
use Rattle.fb_types.specs.declared.rows.Angles.{Angles}
use Rattle.grid_laplacian.specs.Enclosures.{EnclosesColumn}
use Rattle.security.specs.Balances.{block_side}
use Rattle.zonal_factors.specs.FactorSpans.{IsKey, HoldsFactor}
use Rattle.state_proofs.specs.StateProofs.{all_blocks}
use Rattle.cnec_rows.specs.RowNumbers.{factors_from}
use Rattle.cnec_rows.proofs.Columns.{count_more, factors_more, factors_all, own_angles, column_at}
use Rattle.cnec_rows.proofs.Turned.{zip_more}
use Rattle.cnec_rows.proofs.flows.factor_spans.Goals as goal

pub factor_span-factor-requires-clause-key : goal.factor_span-factor-requires-clause-key
factor_span-factor-requires-clause-key c =
    column_at IsKey c.as_slice-column-items.result.now c.args.columns.now c.loop-column.column-index c.column-item.result c.loop-column-test.true c.column-item.is c.as_slice-column-items.ensures.items c.requires.keys

pub factor_span-factor-requires-clause-encloses : goal.factor_span-factor-requires-clause-encloses
factor_span-factor-requires-clause-encloses c =
    let items = c.as_slice-column-items.result.now in
    own_angles (λ (b : Block) (a : Angles). EnclosesColumn c.args.state.now (block_side c.args.state.now b) a) items c.args.proof.now.blocks c.loop-column.column-index c.loop-column.first c.column-item.result
    c.loop-column-test.true c.column-item.is c.loop-column.invariant.place
    (subst (λ (cs : List Column). AllZip (λ (b : Block) (a : Angles). EnclosesColumn c.args.state.now (block_side c.args.state.now b) a) (all_blocks cs) c.args.proof.now.blocks) (sym c.as_slice-column-items.ensures.items) c.requires.proof.blocks)

pub loop-column-preserved : goal.loop-column-preserved
loop-column-preserved c =
    let items = c.as_slice-column-items.result.now in
    let i = c.loop-column.column-index in
    let h = c.loop-column.invariant in
    let column = c.column-item.result in
    let span = c.factor_span-factor.result in
    let in_items : i < length items = c.loop-column-test.true in
    let more = ap length c.in_ok-add.ensures.pushed ∙ length-append c.loop-column.factors (span ∷ []) in
    record {
      value = λ named same stands. factors_more c.args.state.now named c.args.proof.now items i c.loop-column.first column span c.loop-column.factors c.add.new.self
          in_items c.column-item.is h.place (c.factor_span-factor.ensures.value named same stands) (h.value named same stands) c.in_ok-add.ensures.pushed;
      count = omega (arith, more);
      within = All-same (EndsWithin 1_000_000_000_000) _ _ c.in_ok-add.ensures.pushed (All-push (EndsWithin 1_000_000_000_000) c.loop-column.factors span h.within c.factor_span-factor.ensures.within);
      holds = λ named same stands. zip_more (HoldsFactor c.args.state.now named) items c.loop-column.factors c.add.new.self i column span in_items c.column-item.is (h.holds named same stands)
          (c.factor_span-factor.ensures.holds named same stands) c.in_ok-add.ensures.pushed;
      place = count_more items i c.loop-column.first _ column in_items c.column-item.is h.place (c.in_ok-first.ensures ∙ ap (λ n. c.loop-column.first + n) c.len.ensures.count);
    }

pub returns-clause-value : goal.returns-clause-value
returns-clause-value c = λ named same stands.
    let items = c.as_slice-column-items.result.now in
    factors_all c.args.state.now named c.args.proof.now items c.loop-column.column-index c.loop-column.factors c.loop-column-test.false (c.loop-column.invariant.value named same stands)
    ∙ ap (λ (cs : List Column). factors_from c.args.state.now named c.args.proof.now 0 cs) c.as_slice-column-items.ensures.items

pub returns-clause-count : goal.returns-clause-count
returns-clause-count c = let same = ap length c.as_slice-column-items.ensures.items in omega (arith, same)

pub returns-clause-holds : goal.returns-clause-holds
returns-clause-holds c = λ named same stands.
    let items = c.as_slice-column-items.result.now in
    subst (λ (cs : List Column). AllZip (HoldsFactor c.args.state.now named) cs c.loop-column.factors) (take_all c.loop-column.column-index items c.loop-column-test.false ∙ c.as_slice-column-items.ensures.items)
    (c.loop-column.invariant.holds named same stands)

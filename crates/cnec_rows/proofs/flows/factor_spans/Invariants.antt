use Rattle.std.proofs.Common.{◌≡◌, length, take, All}
use Rattle.std.specs.List.{AllZip}
use Rattle.fb_span.specs.Ends.{EndsWithin}
use Rattle.branch_spans.specs.FlowSpans.{ForBranch}
use Rattle.zonal_factors.specs.FactorSpans.{HoldsFactor}
use Rattle.cnec_rows.specs.RowNumbers.{factors_from}
use Rattle.cnec_rows.proofs.Columns.{block_count}
use Rattle.cnec_rows.proofs.flows.factor_spans.Given as goal

abbrev pub invariant-loop-column : goal.invariant-loop-column
invariant-loop-column l = record {
  value : ForBranch l.grid l.branch (λ c. l.factors ≡ take l.column-index (factors_from l.state c l.proof 0 l.column-items));
  count : length l.factors ≡ l.column-index;
  within : All (EndsWithin 1_000_000_000_000) l.factors;
  holds : ForBranch l.grid l.branch (λ c. AllZip (HoldsFactor l.state c) (take l.column-index l.column-items) l.factors);
  place : l.first ≡ block_count (take l.column-index l.column-items);
}

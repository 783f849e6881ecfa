use Rattle.std.proofs.Common.{◌≡◌, map}
use Rattle.domain_maker.proofs.domain.parts.Given as goal

abbrev pub invariant-loop-row : goal.invariant-loop-row
invariant-loop-row l = record {
  spans : l.spans ≡ map (λ row. row.spans) l.yielded;
  rows : l.rows ≡ map (λ row. row.numbers) l.yielded;
}

use Rattle.std.proofs.Common.{◌≡◌, map, take}
use Rattle.domain_maker.proofs.state_rows.states_of.Given as goal

abbrev pub invariant-loop-row : goal.invariant-loop-row
invariant-loop-row l = l.numbers.items ≡ map (λ row. row.state) (take l.row-index l.rows)

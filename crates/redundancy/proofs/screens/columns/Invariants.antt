use Rattle.std.specs.List.{All}
use Rattle.redundancy.specs.Points.{IsColumn}
use Rattle.redundancy.proofs.screens.columns.Given as goal

abbrev pub invariant-loop-seed : goal.invariant-loop-seed
invariant-loop-seed l = All (IsColumn l.rows l.bounds) l.all.items

use Rattle.std.proofs.Common.{◌≡◌, map, take}
use Rattle.row_removal.specs.Kinds.{kind_of}
use Rattle.certificate_check.proofs.lists.halves_of.Given as goal

abbrev pub invariant-loop-row : goal.invariant-loop-row
invariant-loop-row l = l.halves ≡ map (kind_of l.list).half (take l.row-index l.rows)

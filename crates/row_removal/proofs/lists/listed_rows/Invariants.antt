use Rattle.std.proofs.Common.{◌≡◌, map}
use Rattle.row_removal.specs.Kinds.{kind_of}
use Rattle.row_removal.specs.Renumbered.{listed_numbers, numbered_half}
use Rattle.row_removal.proofs.lists.listed_rows.Given as goal

abbrev pub invariant-loop-place : goal.invariant-loop-place
invariant-loop-place l = (l.numbers.items ≡ listed_numbers (kind_of l.list) l.rows l.place) × (l.halves.items ≡ map (numbered_half (kind_of l.list) l.rows) l.numbers.items)

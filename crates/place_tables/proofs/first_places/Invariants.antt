use Rattle.std.proofs.Common.{◌≡◌, take}
use Rattle.place_tables.specs.Places.{first_places}
use Rattle.place_tables.proofs.first_places.Given as goal

abbrev pub invariant-loop-place : goal.invariant-loop-place
invariant-loop-place l = l.places.items ≡ first_places l.count (take l.place l.numbers)

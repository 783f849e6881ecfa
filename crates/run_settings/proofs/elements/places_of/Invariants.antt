use Rattle.std.proofs.Common.{drop}
use Rattle.run_settings.specs.Places.{WillBePlaces}
use Rattle.run_settings.specs.Reductions.{element_ids}
use Rattle.run_settings.proofs.elements.places_of.Given as goal

abbrev pub invariant-loop-place : goal.invariant-loop-place
invariant-loop-place l = WillBePlaces l.places l.place (element_ids (drop l.place l.elements)) (element_ids l.elements)

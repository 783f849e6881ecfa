use Rattle.std.proofs.Common.{drop}
use Rattle.run_settings.specs.Nodes.{node_codes}
use Rattle.run_settings.specs.Places.{WillBePlaces}
use Rattle.run_settings.proofs.nodes.places_of.Given as goal

abbrev pub invariant-loop-place : goal.invariant-loop-place
invariant-loop-place l = WillBePlaces l.places l.place (node_codes (drop l.place l.nodes)) (node_codes l.nodes)

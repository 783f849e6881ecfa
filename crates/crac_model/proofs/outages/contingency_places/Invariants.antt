use Rattle.std.proofs.Common.{◌≡◌, drop}
use Rattle.name_tables.specs.Names.{numbered_from}
use Rattle.name_tables.specs.Tables.{with_entries}
use Rattle.crac_model.specs.Naming.{places_of}
use Rattle.crac_model.specs.Crac.{contingency_ids}
use Rattle.crac_model.proofs.outages.contingency_places.Given as goal

abbrev pub invariant-loop-contingency : goal.invariant-loop-contingency
invariant-loop-contingency l = record {
  place : l.place ≡ l.contingency-index;
  left : with_entries l.places (numbered_from l.place (contingency_ids (drop l.contingency-index l.contingencies))) ≡ places_of (contingency_ids l.contingencies);
}

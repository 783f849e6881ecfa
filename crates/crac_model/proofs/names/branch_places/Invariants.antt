use Rattle.std.proofs.Common.{◌≡◌, drop}
use Rattle.name_tables.specs.Names.{numbered_from}
use Rattle.name_tables.specs.Tables.{with_entries}
use Rattle.crac_model.specs.Naming.{branch_ids, branch_places}
use Rattle.crac_model.proofs.names.branch_places.Given as goal

abbrev pub invariant-loop-branch : goal.invariant-loop-branch
invariant-loop-branch l = record {
  place : l.place ≡ l.branch-index;
  left : with_entries l.places (numbered_from l.place (branch_ids (drop l.branch-index l.branches))) ≡ branch_places l.branches;
}

use Rattle.std.proofs.Common.{length, rules, ◌∙◌, ap}
use Rattle.std.proofs.lemmas.List.{with_items_is, places}
use Rattle.grid_state.proofs.Classes.{trees_apart}
use Rattle.grid_state.proofs.components.trees.Goals as goal

pub unite_all-requires-clause-links : goal.unite_all-requires-clause-links
unite_all-requires-clause-links c = rw (c.deref_mut.ensures.value, c.in_ok-up.ensures.size) c.requires

pub unite_all-requires-clause-apart : goal.unite_all-requires-clause-apart
unite_all-requires-clause-apart c = rw c.deref_mut.ensures.value (trees_apart _ _ c.in_ok-up.ensures)

pub returns-clause-trees : goal.returns-clause-trees
returns-clause-trees c = rw (with_items_is c.in_ok-up.up c.unite_all.new.up (search (rules, places))) c.unite_all.ensures

pub returns-clause-each_place : goal.returns-clause-each_place
returns-clause-each_place c = rw (with_items_is c.in_ok-up.up c.unite_all.new.up (search (rules, places))) (c.unite_all.auto.up ∙ ap length c.deref_mut.ensures.value ∙ c.in_ok-up.ensures.size)

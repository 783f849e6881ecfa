-- What the reader of elements holds, as the description sees it.
-- Nobody need believe these words: they are of private contracts.
use Rattle.crac_model.specs.Crac.{Facts, State}
use Rattle.crac_model.specs.Naming.{grid_of}
use Rattle.crac_model.specs.declared.entries.ElementReader.{ElementReader}
use Rattle.crac_model.specs.declared.entries.Monitoring.{Monitoring}

abbrev pub facts_of : ElementReader → Facts
facts_of r = record { grid = grid_of r.grid; instants = r.instants.now; contingencies = r.contingencies.now }

abbrev pub state_in : Monitoring → State
state_in m = record { instant = m.instant.now; contingency = m.contingency }

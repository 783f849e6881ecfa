-- A generated case: all four documents, from its number and the count of its nodes.
use Rattle.std.specs.Prelude.{◌≡◌, ℕ, ◌*◌}
use Rattle.case_maker.specs.declared.Case.{Case}
use Rattle.case_maker.specs.Drawing.{state_after}
use Rattle.case_maker.specs.GridTexts.{grid_text}
use Rattle.case_maker.specs.CracTexts.{crac_text}
use Rattle.case_maker.specs.ZoneTexts.{settings_text, glsk_text}

-- the grid draws four numbers for each node, and the elements draw after it
pub record IsCase (number nodes : ℕ) (documents : Case) : Type 0 where
  pub grid : documents.grid ≡ grid_text number nodes
  pub crac : documents.crac ≡ crac_text (state_after number (4 * nodes)) nodes
  pub settings : documents.settings ≡ settings_text
  pub glsk : documents.glsk ≡ glsk_text

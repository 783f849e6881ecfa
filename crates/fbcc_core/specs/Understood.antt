-- Words of private contracts on documents that were read: each is in its ranges and fits the others. Nobody need believe
-- them.
use Rattle.std.specs.Prelude.{length}
use Rattle.fb_certificate.specs.Whole.{IsCracOver}
use Rattle.glsk_keys.specs.Laws.{AreKeys}
use Rattle.run_settings.specs.Laws.{AreSettings}
use Rattle.run_settings.specs.ReductionLaws.{AreReductionsOf}
use Rattle.run_settings.specs.Views.{said}
use Rattle.fbcc_core.specs.declared.documents.RunDocuments.{RunDocuments}

pub record AreInOrder (d : RunDocuments) : Type 0 where
  pub crac : IsCracOver (length d.grid.branches) d.crac
  pub settings : AreSettings d.grid.nodes (said d.settings)
  pub keys : AreKeys d.grid.nodes d.settings.zones d.keys
  pub reductions : AreReductionsOf d.crac.elements d.reductions

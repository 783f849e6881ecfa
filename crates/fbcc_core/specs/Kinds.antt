-- The names of faults in fault lines.
use Rattle.std.specs.Prelude.{ℕ, List, codes}
use Rattle.ucte_reader.specs.declared.kind.GridKind.{GridKind}
use Rattle.ucte_reader.specs.declared.kind.GridKind.TheVariants as grid
use Rattle.crac_model.specs.declared.fault.CracKind.{CracKind}
use Rattle.crac_model.specs.declared.fault.CracKind.TheVariants as crac
use Rattle.run_settings.specs.declared.model.SettingsKind.{SettingsKind}
use Rattle.run_settings.specs.declared.model.SettingsKind.TheVariants as settings
use Rattle.glsk_keys.specs.declared.model.KeyKind.{KeyKind}
use Rattle.glsk_keys.specs.declared.model.KeyKind.TheVariants as key
use Rattle.run_settings.specs.declared.reduction.ReductionKind.{ReductionKind}
use Rattle.run_settings.specs.declared.reduction.ReductionKind.TheVariants as reduction

-- what is wrong with a line of a grid
abbrev pub grid_kind_text : GridKind → List ℕ
grid_kind_text grid.UnknownBlock = codes "UnknownBlock"
grid_kind_text grid.BadNumber = codes "BadNumber"
grid_kind_text grid.BadCode = codes "BadCode"
grid_kind_text grid.BadStatus = codes "BadStatus"
grid_kind_text grid.DuplicateNode = codes "DuplicateNode"
grid_kind_text grid.DuplicateBranch = codes "DuplicateBranch"
grid_kind_text grid.UnknownNode = codes "UnknownNode"
grid_kind_text grid.UnknownBranch = codes "UnknownBranch"
grid_kind_text grid.NegativeReactance = codes "NegativeReactance"
grid_kind_text grid.SusceptanceOutOfRange = codes "SusceptanceOutOfRange"
grid_kind_text grid.InjectionOutOfRange = codes "InjectionOutOfRange"
grid_kind_text grid.TooMany = codes "TooMany"
grid_kind_text grid.NoNodes = codes "NoNodes"
grid_kind_text grid.BadPhase = codes "BadPhase"

-- what is wrong at a place of a CRAC
abbrev pub crac_kind_text : CracKind → List ℕ
crac_kind_text crac.Missing = codes "Missing"
crac_kind_text crac.WrongType = codes "WrongType"
crac_kind_text crac.UnknownInstant = codes "UnknownInstant"
crac_kind_text crac.UnknownContingency = codes "UnknownContingency"
crac_kind_text crac.UnknownElement = codes "UnknownElement"
crac_kind_text crac.CouplerMonitored = codes "CouplerMonitored"
crac_kind_text crac.LimitNotPositive = codes "LimitNotPositive"
crac_kind_text crac.OutOfRange = codes "OutOfRange"
crac_kind_text crac.NoLimit = codes "NoLimit"
crac_kind_text crac.NoCurrent = codes "NoCurrent"
crac_kind_text crac.BothMargins = codes "BothMargins"
crac_kind_text crac.DuplicateId = codes "DuplicateId"
crac_kind_text crac.TooMany = codes "TooMany"

-- at a place of settings
abbrev pub settings_kind_text : SettingsKind → List ℕ
settings_kind_text settings.Missing = codes "Missing"
settings_kind_text settings.WrongType = codes "WrongType"
settings_kind_text settings.BoxReversed = codes "BoxReversed"
settings_kind_text settings.OutOfRange = codes "OutOfRange"
settings_kind_text settings.UnknownNode = codes "UnknownNode"
settings_kind_text settings.BadTime = codes "BadTime"
settings_kind_text settings.Twice = codes "Twice"
settings_kind_text settings.TooMany = codes "TooMany"

-- at a place of shift keys
abbrev pub key_kind_text : KeyKind → List ℕ
key_kind_text key.Missing = codes "Missing"
key_kind_text key.WrongType = codes "WrongType"
key_kind_text key.BadTime = codes "BadTime"
key_kind_text key.UnknownNode = codes "UnknownNode"
key_kind_text key.WrongZone = codes "WrongZone"
key_kind_text key.SharesNot100 = codes "SharesNot100"
key_kind_text key.EmptyKey = codes "EmptyKey"
key_kind_text key.NegativeFactor = codes "NegativeFactor"
key_kind_text key.OutOfRange = codes "OutOfRange"
key_kind_text key.TooMany = codes "TooMany"
key_kind_text key.NoSeries = codes "NoSeries"
key_kind_text key.TwoSeries = codes "TwoSeries"

-- with a row of reductions
abbrev pub reduction_kind_text : ReductionKind → List ℕ
reduction_kind_text reduction.Missing = codes "Missing"
reduction_kind_text reduction.WrongType = codes "WrongType"
reduction_kind_text reduction.UnknownElement = codes "UnknownElement"
reduction_kind_text reduction.OutOfRange = codes "OutOfRange"
reduction_kind_text reduction.Twice = codes "Twice"

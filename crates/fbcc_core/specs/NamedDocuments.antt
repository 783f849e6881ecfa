-- Words of private contracts on the names that a command needs. Nobody need believe them: what the words of a call
-- have to name is said in `command_words`.
use Rattle.std.specs.Prelude.{◌≢◌, ◌≤◌, None, ⊤}
use Rattle.fbcc_core.specs.Words.{Names}
use Rattle.fbcc_core.specs.declared.answer.Document.TheVariants as document
use Rattle.fbcc_core.specs.declared.request.Command.{Command}
use Rattle.fbcc_core.specs.declared.request.Command.TheVariants as command

-- the documents of a domain are named; reductions need not be
pub record AreDomainNames (names : Names) : Type 0 where
  pub grid : names document.Grid ≢ None
  pub crac : names document.Crac ≢ None
  pub glsk : names document.Glsk ≢ None
  pub settings : names document.Settings ≢ None

-- the documents that the command needs are named
abbrev pub AreNamed : Command → Names → Type 0
AreNamed command.Rows names = names document.Rows ≢ None
AreNamed command.Net names = names document.Grid ≢ None
AreNamed command.Domain names = AreDomainNames names
AreNamed command.Certify names = AreDomainNames names
AreNamed command.Check names = AreDomainNames names × (names document.Certificate ≢ None)
AreNamed command.Report names = AreDomainNames names
AreNamed (command.Selftest case nodes) names = ⊤

-- a generated case has from 48 to 4,096 nodes
abbrev pub IsCaseInRange : Command → Type 0
IsCaseInRange command.Rows = ⊤
IsCaseInRange command.Net = ⊤
IsCaseInRange command.Domain = ⊤
IsCaseInRange command.Certify = ⊤
IsCaseInRange command.Check = ⊤
IsCaseInRange command.Report = ⊤
IsCaseInRange (command.Selftest case nodes) = (48 ≤ nodes) × (nodes ≤ 4096)

-- the command is for a generated case
abbrev pub IsOfCase : Command → Type 0
IsOfCase command.Rows = ⊥
IsOfCase command.Net = ⊥
IsOfCase command.Domain = ⊥
IsOfCase command.Certify = ⊥
IsOfCase command.Check = ⊥
IsOfCase command.Report = ⊥
IsOfCase (command.Selftest case nodes) = ⊤

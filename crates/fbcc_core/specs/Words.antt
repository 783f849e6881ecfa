-- The words of a call: the command that they ask for, and the names of the documents. A word is the bytes of its text.
use Rattle.std.specs.Prelude.{◌≡◌, ℕ, List, Option, Some, None, codes}
use Rattle.std.specs.Option.{option_copied}
use Rattle.clap.specs.Words.{first_of, matches_of}
use Rattle.command_words.specs.Words.{Asks as IsRequestOf, fbcc_app}
use Rattle.command_words.specs.declared.request.Command.{Command as AnyCommand}
use Rattle.command_words.specs.declared.request.Command.TheVariants as any
use Rattle.command_words.specs.declared.request.Request.{Request}
use Rattle.fbcc_core.specs.declared.answer.Document.{Document}
use Rattle.fbcc_core.specs.declared.answer.Document.TheVariants as document
use Rattle.fbcc_core.specs.declared.request.Command.{Command}
use Rattle.fbcc_core.specs.declared.request.Command.TheVariants as command

-- ---- Names of documents

-- for each document its name, if it has one
abbrev pub Names : Type 0
Names = Document → Option (List ℕ)

-- the option that names a document, without its hyphens
abbrev pub option_for : Document → List ℕ
option_for document.Grid = codes "grid"
option_for document.Crac = codes "crac"
option_for document.Settings = codes "settings"
option_for document.Glsk = codes "glsk"
option_for document.Reductions = codes "reductions"
option_for document.Certificate = codes "certificate"
option_for document.Rows = codes "rows"

-- the name that the words give for a document, if they do: the value that `clap` finds under its option
abbrev pub name_given : List (List ℕ) → Document → Option (List ℕ)
name_given words document = first_of (option_for document) (matches_of fbcc_app words)

-- the names in a request
abbrev pub names_of : Request → Document → Option (List ℕ)
names_of request document.Grid = option_copied request.grid
names_of request document.Crac = option_copied request.crac
names_of request document.Settings = option_copied request.settings
names_of request document.Glsk = option_copied request.glsk
names_of request document.Reductions = option_copied request.reductions
names_of request document.Certificate = option_copied request.certificate
names_of request document.Rows = option_copied request.rows

-- ---- Commands

-- the command, with the number of the case and the count of its nodes where it has one
abbrev pub command_of : AnyCommand → Option ℕ → Option ℕ → Option Command
command_of any.Rows case nodes = Some command.Rows
command_of any.Net case nodes = Some command.Net
command_of any.Domain case nodes = Some command.Domain
command_of any.Certify case nodes = Some command.Certify
command_of any.Check case nodes = Some command.Check
command_of any.Report case nodes = Some command.Report
command_of any.Selftest None nodes = None
command_of any.Selftest (Some case) None = None
command_of any.Selftest (Some case) (Some nodes) = Some (command.Selftest case nodes)

abbrev pub command_in : Request → Option Command
command_in request = command_of request.command request.case request.nodes

-- the words are a request for the command
pub record Asks (words : List (List ℕ)) (command : Command) : Type 0 where
  pub request : Request
  pub asked : IsRequestOf words request
  pub is : command_in request ≡ Some command

pub record Accepts (words : List (List ℕ)) : Type 0 where
  pub command : Command
  pub asked : Asks words command

-- the words ask for the work on a generated case
pub record IsGenerated (words : List (List ℕ)) : Type 0 where
  pub case : ℕ
  pub nodes : ℕ
  pub asked : Asks words (command.Selftest case nodes)

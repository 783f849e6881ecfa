-- The words of a call: how `clap` takes them, and what each command of the program needs. A word is the bytes of its
-- text.
use Rattle.std.specs.Prelude.{◌≡◌, ◌≤◌, ◌||◌, ℕ, Bool, true, not, List, [], ◌∷◌, Option, Some, None, is_some}
use Rattle.std.specs.Prelude.{option_and_then, codes, if◌then◌else◌}
use Rattle.std.specs.List.{list_all, list_any}
use Rattle.std.specs.Option.{option_copied}
use Rattle.std.specs.Str.{bytes_eq}
use Rattle.std.specs.Str.Parse.{IsNumeral, digits_value}
use Rattle.clap.specs.Words.{App, Row, Rule, Text, fault_of, first_of, matches_of, new_app, new_rule, with_rule}
use Rattle.clap.specs.Simple.{new_shape}
use Rattle.clap.specs.declared.builder.action.ArgAction.TheVariants.{Set}
use Rattle.command_words.specs.declared.request.Command.{Command}
use Rattle.command_words.specs.declared.request.Command.TheVariants as command
use Rattle.command_words.specs.declared.request.Request.{Request}

-- ---- One simple command of `clap`

-- its arguments: the word of the command, which has to be there, and options `--name`, each with one value
abbrev pub command_rule : Rule
command_rule = record (new_rule (codes "command")) { required = true; action = Some Set }

abbrev pub option_rule : Text → Rule
option_rule name = record (new_rule name) { long = Some name; action = Some Set }

abbrev pub option_names : List Text
option_names = codes "grid" ∷ codes "crac" ∷ codes "settings" ∷ codes "glsk" ∷ codes "reductions" ∷ codes "rows"
    ∷ codes "certificate" ∷ codes "workers" ∷ codes "case" ∷ codes "nodes" ∷ []

-- no name of the program stands before the words, and there is no option for help or the version
abbrev pub bare_app : App
bare_app = record (new_app (codes "fbcc")) {
  top = record (new_shape (codes "fbcc")) {
    no_binary_name = true;
    disable_help_flag = true;
    disable_version_flag = true;
  };
}

abbrev pub with_options : App → List Text → App
with_options app [] = app
with_options app (name ∷ names) = with_options (with_rule app (option_rule name)) names

unfoldable pub fbcc_app : App
fbcc_app = with_options (with_rule bare_app command_rule) option_names

-- ---- What a command needs

abbrev pub command_of : Text → Option Command
command_of word =
    if bytes_eq word (codes "rows") then Some command.Rows
    else if bytes_eq word (codes "net") then Some command.Net
    else if bytes_eq word (codes "domain") then Some command.Domain
    else if bytes_eq word (codes "certify") then Some command.Certify
    else if bytes_eq word (codes "check") then Some command.Check
    else if bytes_eq word (codes "report") then Some command.Report
    else if bytes_eq word (codes "selftest") then Some command.Selftest
    else None

abbrev pub run_documents : List Text
run_documents = codes "grid" ∷ codes "crac" ∷ codes "glsk" ∷ codes "settings" ∷ []

-- the options that it needs
abbrev pub needed_by : Command → List Text
needed_by command.Rows = codes "rows" ∷ []
needed_by command.Net = codes "grid" ∷ []
needed_by command.Domain = run_documents
needed_by command.Certify = run_documents
needed_by command.Report = run_documents
needed_by command.Check = codes "certificate" ∷ run_documents
needed_by command.Selftest = codes "case" ∷ codes "nodes" ∷ []

-- those that it may have beside them
abbrev pub optional_for : Command → List Text
optional_for command.Rows = []
optional_for command.Net = []
optional_for command.Selftest = codes "workers" ∷ []
optional_for _ = codes "reductions" ∷ codes "workers" ∷ []

-- ---- What is found

-- `clap` finds a value under the name
abbrev pub is_given : List Row → Text → Bool
is_given rows name = is_some (first_of name rows)

abbrev pub is_among : List Text → Text → Bool
is_among names name = list_any (λ n. bytes_eq name n) names

-- the option is not given, or is one of these
abbrev pub is_own : List Row → List Text → List Text → Text → Bool
is_own rows needed optional name =
    not (is_given rows name) || (is_among needed name || is_among optional name)

-- each option is
abbrev pub has_only : List Row → List Text → List Text → Bool
has_only rows needed optional = list_all (is_own rows needed optional) option_names

-- the text is the number in digits alone, and the number is in the range; zeros may lead
pub record IsNumber (least most : ℕ) (text : Text) (n : ℕ) : Type 0 where
  pub digits : IsNumeral 10 text
  pub value : digits_value 10 text ≡ n
  pub not_below : least ≤ n
  pub not_above : n ≤ most

abbrev pub IsNumberIfGiven : ℕ → ℕ → Option Text → Option ℕ → Type 0
IsNumberIfGiven least most None None = Unit {0}
IsNumberIfGiven least most (Some text) (Some n) = IsNumber least most text n
IsNumberIfGiven least most _ _ = ⊥

-- one worker where no number is given
abbrev pub IsWorkers : Option Text → ℕ → Type 0
IsWorkers None n = n ≡ 1
IsWorkers (Some text) n = IsNumber 1 64 text n

-- the command whose word is found
abbrev pub command_in : List Row → Option Command
command_in found = option_and_then command_of (first_of (codes "command") found)

-- what is found is this request
pub record IsRequest (found : List Row) (request : Request) : Type 0 where
  pub command : command_in found ≡ Some request.command
  pub complete : list_all (is_given found) (needed_by request.command) ≡ true
  pub own : has_only found (needed_by request.command) (optional_for request.command) ≡ true
  pub grid : option_copied request.grid ≡ first_of (codes "grid") found
  pub crac : option_copied request.crac ≡ first_of (codes "crac") found
  pub settings : option_copied request.settings ≡ first_of (codes "settings") found
  pub glsk : option_copied request.glsk ≡ first_of (codes "glsk") found
  pub reductions : option_copied request.reductions ≡ first_of (codes "reductions") found
  pub rows : option_copied request.rows ≡ first_of (codes "rows") found
  pub certificate : option_copied request.certificate ≡ first_of (codes "certificate") found
  pub workers : IsWorkers (first_of (codes "workers") found) request.workers
  pub case : IsNumberIfGiven 0 18446744073709551615 (first_of (codes "case") found) request.case
  pub nodes : IsNumberIfGiven 48 4096 (first_of (codes "nodes") found) request.nodes

-- the words ask for this: `clap` takes them, and what it finds is this request
pub record Asks (words : List Text) (request : Request) : Type 0 where
  pub taken : fault_of fbcc_app words ≡ []
  pub found : IsRequest (matches_of fbcc_app words) request

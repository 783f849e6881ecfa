-- What `clap` says of a command that is equal to the one command.
use Rattle.std.proofs.Common.{◌≡◌, ◌∙◌, List, [], true, ap, subst, inl, inr}
use Rattle.clap.specs.Words.{App, HasKind, HasMatchesOf, IsAmong, Kinds, Text, fault_of, found_of, is_simple}
use Rattle.clap.specs.Words.{is_simple_and_free, kind_of, matches_of, rows_of}
use Rattle.clap.specs.declared.error.Error.{Error}
use Rattle.clap.specs.declared.error.kind.ErrorKind.TheVariants as kind
use Rattle.clap.specs.declared.parser.matches.ArgMatches.{ArgMatches}
use Rattle.command_words.specs.Words.{fbcc_app}
use Rattle.command_words.proofs.Literals.{free_app, simple_app}

pub no_fault : (app : App) (words : List Text) → app ≡ fbcc_app
    → (is_simple_and_free app ≡ true → fault_of app words ≡ []) → fault_of fbcc_app words ≡ []
no_fault app words e h =
    subst (λ (a : App). fault_of a words ≡ []) e (h (ap is_simple_and_free e ∙ free_app))

pub all_found : (app : App) (words : List Text) (m : ArgMatches) → app ≡ fbcc_app → HasMatchesOf app words m
    → rows_of (found_of m) ≡ matches_of fbcc_app words
all_found app words m e h = (h (ap is_simple e ∙ simple_app)).0 ∙ ap (λ (a : App). matches_of a words) e

no_kind : (kinds : Kinds) (error : Error) → HasKind kinds error → kinds ≡ [] → kind_of error ≡ kind.OutOfMemory
no_kind kinds error (inl memory) none = memory
no_kind kinds error (inr among) none = absurd (subst (IsAmong (kind_of error)) none among)

pub some_fault : (app : App) (words : List Text) (error : Error) → app ≡ fbcc_app
    → (is_simple_and_free app ≡ true → HasKind (fault_of app words) error)
    → (kind_of error ≡ kind.OutOfMemory → ⊥) → fault_of fbcc_app words ≡ [] → ⊥
some_fault app words error e h other none =
    let kinds = subst (λ (a : App). HasKind (fault_of a words) error) e (h (ap is_simple_and_free e ∙ free_app)) in
    other (no_kind (fault_of fbcc_app words) error kinds none)

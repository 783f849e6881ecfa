-- The command of `clap` is one whose matches and faults its specification gives.
use Rattle.std.proofs.Common.{◌≡◌, true, refl}
use Rattle.clap.specs.Words.{is_simple, is_simple_and_free}
use Rattle.clap.proofs.OnLiterals.{clap_on_literals}
use Rattle.command_words.specs.Words.{fbcc_app}

pub simple_app : is_simple fbcc_app ≡ true
unfolding clap_on_literals fbcc_app
simple_app = refl

pub free_app : is_simple_and_free fbcc_app ≡ true
unfolding clap_on_literals fbcc_app
free_app = refl

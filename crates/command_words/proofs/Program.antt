-- The options are added one by one.
use Rattle.std.proofs.Common.{◌≡◌, ℕ, ◌+◌, ◌<◌, List, length, drop, get_or, Bor, sym, ap, ap₂, ◌∙◌}
use Rattle.std.proofs.lemmas.List.{at_drop_more}
use Rattle.clap.specs.Walk.{texts}
use Rattle.clap.specs.Words.{App, Text, with_rule}
use Rattle.command_words.specs.Words.{bare_app, command_rule, fbcc_app, option_names, option_rule, with_options}

pub first_options : (program : App) (names : List (Bor Text)) → program ≡ with_rule bare_app command_rule
    → texts names ≡ option_names → with_options program (texts names) ≡ fbcc_app
unfolding fbcc_app
first_options program names p n = ap₂ with_options p n

pub next_option : (program next : App) (names : List (Bor Text)) (i : ℕ) (d : Bor Text) → i < length names
    → with_options program (texts (drop i names)) ≡ fbcc_app
    → next ≡ with_rule program (option_rule (get_or names i d).now)
    → with_options next (texts (drop (i + 1) names)) ≡ fbcc_app
next_option program next names i d lt left step =
    ap (λ (a : App). with_options a (texts (drop (i + 1) names))) step
    ∙ sym (at_drop_more (λ l. with_options program (texts l)) names i d lt)
    ∙ left

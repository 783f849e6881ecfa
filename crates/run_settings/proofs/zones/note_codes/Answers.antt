use Rattle.std.proofs.Common.{ℕ, List, get_or, take, sym, ap, ◌∙◌}
use Rattle.std.proofs.lemmas.List.{take_more}
use Rattle.name_tables.specs.Tables.{with_name, with_names}
use Rattle.run_settings.proofs.CodeLaws.{with_names-push}
use Rattle.run_settings.proofs.zones.note_codes.Goals as goal

pub loop-code-preserved : goal.loop-code-preserved
loop-code-preserved c =
    let all = c.args.codes.now in
    let k = c.loop-code.code-index in
    let code : List ℕ = c.code-item.result in
    let table = c.args.table.now in
    c.in_ok-add.ensures.names
    ∙ ap (λ (name : List ℕ). with_name c.loop-code.table name) (c.in_ok-from_str.ensures.ok ∙ c.as_text.ensures.bytes ∙ c.code-item.is)
    ∙ ap (λ (names : List (List ℕ)). with_name names (get_or all k code)) c.loop-code.invariant
    ∙ sym (with_names-push table (take k all) (get_or all k code))
    ∙ ap (λ (names : List (List ℕ)). with_names table names) (sym (take_more all k code c.loop-code-test.true))

use Rattle.std.proofs.Common.{List, ℕ, not, map, sym, ap, ◌∙◌}
use Rattle.std.specs.Prelude.{string_bytes}
use Rattle.name_tables.specs.Names.{is_among}
use Rattle.name_tables.specs.Tables.{with_name}
use Rattle.name_tables.proofs.TableLaws.{is_among-map, names-insert_key}
use Rattle.name_tables.proofs.NameTable.add.Goals as goal

pub returns-clause-added : goal.returns-clause-added
returns-clause-added c =
    let name = string_bytes c.args.name in
    c.in_ok-insert.ensures.added ∙ ap not (sym (is_among-map c.self.inside.names.keys name) ∙ ap (λ (names : List (List ℕ)). is_among names name) c.self.view_is)

pub returns-clause-names : goal.returns-clause-names
returns-clause-names c =
    let name = string_bytes c.args.name in
    ap (map string_bytes) c.in_ok-insert.ensures.keys ∙ names-insert_key c.self.inside.names.keys c.args.name ∙ ap (λ (names : List (List ℕ)). with_name names name) c.self.view_is

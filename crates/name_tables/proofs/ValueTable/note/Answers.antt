use Rattle.std.proofs.Common.{◌≡◌, List, ℕ, false, sym, ap, ◌∙◌}
use Rattle.std.specs.Prelude.{string_bytes, is_some}
use Rattle.name_tables.specs.Names.{value_at}
use Rattle.name_tables.specs.Tables.{with_entry}
use Rattle.name_tables.proofs.TableLaws.{named, noted_entry, with_entry-known}
use Rattle.name_tables.proofs.ValueTable.note.Goals as goal

pub returns-then-is_some : goal.returns-then-is_some
returns-then-is_some g c =
    let name = ap (λ (n : List ℕ). is_some (value_at c.args.self.now n)) (sym c.as_str.ensures.value) in
    with_entry-known c.args.self.now (string_bytes c.args.name) c.args.value (name ∙ ap is_some (sym c.get.ensures) ∙ sym c.is_some.ensures ∙ c.if-is_some.true)

pub returns : goal.returns
returns g c =
    let name = ap (λ (n : List ℕ). is_some (value_at c.args.self.now n)) (sym c.as_str.ensures.value) in
    let new : is_some (value_at c.args.self.now (string_bytes c.args.name)) ≡ false = name ∙ ap is_some (sym c.get.ensures) ∙ sym c.is_some.ensures ∙ c.if-is_some.false in
    let inside = ap (λ entries. is_some (value_at entries (string_bytes c.args.name))) c.self.view_is in
    ap named c.in_ok-insert.ensures.entries ∙ noted_entry c.self.inside.values.entries c.args.name c.args.value (inside ∙ new)
    ∙ ap (λ entries. with_entry entries (string_bytes c.args.name) c.args.value) c.self.view_is

use Rattle.std.proofs.Common.{sym, ap, ◌∙◌}
use Rattle.name_tables.specs.Names.{value_at}
use Rattle.name_tables.proofs.TableLaws.{value_at-named}
use Rattle.name_tables.proofs.ValueTable.get.Goals as goal

pub returns : goal.returns
returns g c =
    c.copied.ensures ∙ c.get.ensures.value ∙ sym (value_at-named c.self.inside.values.entries c.args.name.now) ∙ ap (λ entries. value_at entries c.args.name.now) c.self.view_is

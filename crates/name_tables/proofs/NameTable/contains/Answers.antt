use Rattle.std.proofs.Common.{List, ℕ, sym, ap, ◌∙◌}
use Rattle.name_tables.specs.Names.{is_among}
use Rattle.name_tables.proofs.TableLaws.{is_among-map}
use Rattle.name_tables.proofs.NameTable.contains.Goals as goal

pub returns : goal.returns
returns c = c.contains.ensures ∙ sym (is_among-map c.self.inside.names.keys c.args.name.now) ∙ ap (λ (names : List (List ℕ)). is_among names c.args.name.now) c.self.view_is

use Rattle.std.proofs.Common.{ℕ, List, Ok, sym, ap, ◌∙◌}
use Rattle.name_tables.specs.Tables.{with_names}
use Rattle.json_reading.specs.Here.{at_of}
use Rattle.run_settings.specs.declared.model.Zone.{Zone}
use Rattle.run_settings.proofs.CodeLaws.{zone_noted}
use Rattle.run_settings.proofs.zones.ZoneReaderItemReader.read.Goals as goal

pub returns-clause-index : goal.returns-clause-index
returns-clause-index c =
    let zone : Zone = record { id = c.in_ok-id-2.id; codes = c.from_vec.result; core = c.unwrap_or-core.result; bounds = c.in_ok-bounds.bounds } in
    let listed = c.in_ok-codes.ensures ∙ ap Ok (sym c.from_vec.ensures.same) in
    let noted = c.in_ok-note_codes.ensures ∙ ap (λ (names : List (List ℕ)). with_names c.args.index.now names) (c.deref.ensures.value ∙ sym c.from_vec.ensures.same) in
    zone_noted c.args.index.now c.note_codes.new.table c.args.before.now zone c.in_ok-id.id.now (at_of c.args.at.now) listed noted c.requires

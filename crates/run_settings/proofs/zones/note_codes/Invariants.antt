use Rattle.std.proofs.Common.{◌≡◌, take}
use Rattle.name_tables.specs.Tables.{with_names}
use Rattle.run_settings.proofs.zones.note_codes.Given as goal

abbrev pub invariant-loop-code : goal.invariant-loop-code
invariant-loop-code l = l.table ≡ with_names l.initial.table (take l.code-index l.codes)

use Rattle.std.proofs.Common.{◌≡◌, ◌++◌, map, string_bytes}
use Rattle.std.specs.List.{range_with_len}
use Rattle.case_maker.specs.Pieces.{parted}
use Rattle.case_maker.specs.ZoneTexts.{setting_text}
use Rattle.case_maker.proofs.zones.put_settings.Given as goal

abbrev pub invariant-loop-zone : goal.invariant-loop-zone
invariant-loop-zone l = string_bytes l.text ≡ string_bytes l.initial.text ++ parted (map setting_text (range_with_len 0 l.zone))

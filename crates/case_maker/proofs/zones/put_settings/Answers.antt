use Rattle.std.proofs.Common.{◌≡◌, ◌++◌, map, ap, ◌∙◌, arith, string_bytes}
use Rattle.std.specs.List.{range_with_len}
use Rattle.case_maker.specs.Pieces.{parted}
use Rattle.case_maker.specs.ZoneTexts.{setting_text}
use Rattle.case_maker.proofs.Listed.{item_more}
use Rattle.case_maker.proofs.zones.put_settings.Goals as goal

pub loop-zone-preserved : goal.loop-zone-preserved
loop-zone-preserved c =
    item_more setting_text c.loop-zone.zone (string_bytes c.args.text.now) (string_bytes c.loop-zone.text) (string_bytes c.put_separator.new.text) _
    c.loop-zone.invariant c.in_ok-put_separator.ensures c.in_ok-put_setting.ensures

pub returns : goal.returns
returns c =
    let all : c.loop-zone.zone ≡ 16 = omega arith in
    c.loop-zone.invariant ∙ ap (λ n. string_bytes c.args.text.now ++ parted (map setting_text (range_with_len 0 n))) all

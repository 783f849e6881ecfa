use Rattle.std.proofs.Common.{◌∙◌}
use Rattle.glsk_keys.proofs.HomeLaws.{one_noted}
use Rattle.glsk_keys.proofs.homes.note_codes.Goals as goal

pub loop-code-preserved : goal.loop-code-preserved
loop-code-preserved c =
    one_noted c.args.table.now c.loop-code.table c.note.new.self c.args.codes.now c.loop-code.code-index _ c.code-item.result c.args.zone c.loop-code-test.true c.code-item.is (c.in_ok-name.ensures.ok ∙ c.as_text.ensures.bytes) c.in_ok-note.ensures c.loop-code.invariant

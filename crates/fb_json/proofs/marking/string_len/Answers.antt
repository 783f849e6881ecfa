use Rattle.fb_json.proofs.Strings.{past_escaped, past_byte}
use Rattle.fb_json.proofs.marking.string_len.Goals as goal
use Rattle.fb_json.proofs.marking.string_len.Goals.{then-is_escaped, else-is_escaped+else-byte-eq34}

pub loop-at-preserved : goal.loop-at-preserved
loop-at-preserved c =
    elim c.if-is_escaped.branch [
      | then-is_escaped w ↦ past_escaped c.args.bytes.now c.loop-at.at c.loop-at.is_escaped c.if-is_escaped.is_escaped c.loop-at-test.true w.if-is_escaped.true w.is_escaped-is c.loop-at.invariant
      | else-is_escaped+else-byte-eq34 w ↦ past_byte c.args.bytes.now c.loop-at.at c.loop-at.is_escaped c.if-is_escaped.is_escaped c.loop-at-test.true w.if-is_escaped.false w.if-byte-eq34.false w.is_escaped-is c.loop-at.invariant
    ]

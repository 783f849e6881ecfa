use Rattle.std.proofs.Common.{◌≡◌, ◌++◌, take, drop, cond}
use Rattle.fb_json.specs.Machine.{in_text, escaped}
use Rattle.fb_json.proofs.marking.string_len.Given as goal

abbrev pub invariant-loop-at : goal.invariant-loop-at
invariant-loop-at l = in_text l.bytes ≡ take l.at l.bytes ++ cond l.is_escaped (escaped (drop l.at l.bytes)) (in_text (drop l.at l.bytes))

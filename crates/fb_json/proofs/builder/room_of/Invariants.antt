use Rattle.std.proofs.Common.{length}
use Rattle.fb_json.proofs.builder.room_of.Given as goal

abbrev pub decreases-loop-token : goal.decreases-loop-token
decreases-loop-token l = length l.reader

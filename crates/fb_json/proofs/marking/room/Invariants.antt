use Rattle.std.proofs.Common.{length}
use Rattle.fb_json.proofs.marking.room.Given as goal

abbrev pub decreases-loop-rest : goal.decreases-loop-rest
decreases-loop-rest l = length l.rest

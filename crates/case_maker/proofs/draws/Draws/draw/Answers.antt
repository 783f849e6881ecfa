use Rattle.std.proofs.Common.{◌*◌, ◌^◌}
use Rattle.std.proofs.Math.Nat.{mod-add-mod}
use Rattle.case_maker.specs.Drawing.{next_state}
use Rattle.case_maker.proofs.draws.Draws.draw.Goals as goal

pub returns-clause-moved : goal.returns-clause-moved
unfolding next_state
returns-clause-moved c = mod-add-mod (c.args.self.now.state * 6364136223846793005) (2 ^ 64) 1442695040888963407

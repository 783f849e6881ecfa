use Rattle.std.proofs.Common.{take}
use Rattle.fb_certificate.specs.CracRows.{out_by_state}
use Rattle.run_inputs.specs.Building.{AreUnsplit}
use Rattle.run_inputs.proofs.states.states.Given as goal

abbrev pub invariant-loop-number : goal.invariant-loop-number
invariant-loop-number l = AreUnsplit l.grid l.slack l.columns (take l.number (out_by_state l.crac l.outages)) l.states

use Rattle.std.proofs.Common.{take}
use Rattle.state_proofs.specs.Enclosed.{AddsEnclosed}
use Rattle.state_proofs.proofs.columns.add_blocks.Given as goal

abbrev pub invariant-loop-block : goal.invariant-loop-block
invariant-loop-block l = AddsEnclosed l.state (take l.block-index l.blocks) l.fn.enclosed l.enclosed

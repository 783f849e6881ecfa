use Rattle.std.proofs.Common.{◌≡◌, take}
use Rattle.glsk_keys.specs.Document.{shares_of}
use Rattle.glsk_keys.proofs.blocks.shares.Given as goal

abbrev pub invariant-loop-block : goal.invariant-loop-block
invariant-loop-block l = l.shares ≡ shares_of (take l.block-index l.blocks)

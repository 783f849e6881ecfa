use Rattle.std.proofs.Common.{sym, subst, arith}
use mir.Syntax.{w64}
use mir.Val.{SFits}
use Rattle.std.proofs.lemmas.Int.{ints, to_z-of_z}
use Rattle.glsk_keys.proofs.ScalingLaws.{fits64}
use Rattle.std.proofs.lemmas.List.Elements.{All-push}
use Rattle.fb_types.specs.declared.keys.Block.{Block}
use Rattle.glsk_keys.specs.Sizes.{IsShare}
use Rattle.glsk_keys.proofs.blocks.BlockReaderItemReader.read.Goals as goal

pub returns-clause-index : goal.returns-clause-index
returns-clause-index c =
    let f : SFits w64 c.in_ok-share.share = fits64 _ c.in_ok-share.ensures.small.low (omega (arith, ints, c.in_ok-share.ensures.small.high)) in
    All-push (λ (b : Block). IsShare b.share) c.args.before.now c.in_ok-block.block c.requires
    (subst IsShare (sym (simp to_z-of_z at c.in_ok-block.ensures.share)) c.in_ok-share.ensures.small)

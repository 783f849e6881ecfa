use Rattle.std.proofs.Common.{pos, arith}
use Rattle.std.proofs.lemmas.Int.{ints}
use Rattle.whole_laws.specs.SumLaws.{sum_over-more}
use Rattle.fb_types.specs.declared.rows.Mult.{Mult}
use Rattle.multiplier_search.proofs.proposals.is_light.Goals as goal

pub loop-m-preserved : goal.loop-m-preserved
loop-m-preserved c =
    let mults = c.args.mults.now in
    let i = c.loop-m.m-index in
    let d : Mult = record { row = 0; value = pos 0 } in
    let here = c.requires i d c.loop-m-test.true in
    let more = sum_over-more (λ (m : Mult). m.value) mults i d c.loop-m-test.true in
    let room = c.if-m-total.false in
    (omega (arith, ints), omega (arith, ints), omega (arith, ints))

use Rattle.std.proofs.Common.{◌+◌, pos, arith}
use Rattle.std.proofs.lemmas.Int.{ints}
use Rattle.std.proofs.lemmas.Bool.{false≢true}
use Rattle.whole_laws.specs.SumLaws.{sum_over-more, sum_over-take}
use Rattle.fb_types.specs.declared.rows.Mult.{Mult}
use Rattle.row_weighing.proofs.total_fits.Goals as goal

pub returns-then-m-total : goal.returns-then-m-total
returns-then-m-total c =
    let mults = c.args.mults.now in
    let i = c.loop-m.m-index in
    let d : Mult = record { row = 0; value = pos 0 } in
    let here = c.requires i d c.loop-m-test.true in
    let more = sum_over-more (λ (m : Mult). m.value) mults i d c.loop-m-test.true in
    let above = sum_over-take (λ (m : Mult). m.value) mults (i + 1) c.requires in
    let so_far = c.loop-m.invariant in
    let big = c.if-m-total.true in
    (λ t. absurd (false≢true t), λ h. absurd (omega (arith, ints)))

pub loop-m-preserved : goal.loop-m-preserved
loop-m-preserved c =
    let mults = c.args.mults.now in
    let i = c.loop-m.m-index in
    let d : Mult = record { row = 0; value = pos 0 } in
    let here = c.requires i d c.loop-m-test.true in
    let more = sum_over-more (λ (m : Mult). m.value) mults i d c.loop-m-test.true in
    let room = c.if-m-total.false in
    (omega (arith, ints), omega (arith, ints), omega (arith, ints))

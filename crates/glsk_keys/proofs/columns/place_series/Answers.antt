use Rattle.std.proofs.Common.{arith}
use Rattle.glsk_keys.proofs.PlacingLaws.{none_placed, one_placed, past_placed}
use Rattle.glsk_keys.proofs.columns.place_series.Goals as goal

pub loop-column-init : goal.loop-column-init
loop-column-init c = none_placed c.args.series.items c.args.defaults.items

pub loop-column-preserved-then-place-len : goal.loop-column-preserved-then-place-len
loop-column-preserved-then-place-len c =
    past_placed c.loop-column.series.items c.pop.new.self.items c.loop-column.columns.items c.args.series.items c.args.defaults.items c.in-Some.column c.in-Some.ensures.items (omega (arith, c.loop-column.columns.ok.0)) c.requires c.loop-column.invariant

pub loop-column-preserved : goal.loop-column-preserved
loop-column-preserved c =
    one_placed c.loop-column.series.items c.pop.new.self.items c.loop-column.columns.items c.args.series.items c.args.defaults.items c.in-Some.column c.in-Some.ensures.items (omega (arith, c.loop-column.columns.ok.0)) c.requires c.loop-column.invariant

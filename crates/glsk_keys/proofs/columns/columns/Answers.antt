use Rattle.std.proofs.Common.{sym, subst}
use Rattle.glsk_keys.specs.Facts.{facts_of}
use Rattle.glsk_keys.specs.Placing.{ArePlaced}
use Rattle.glsk_keys.proofs.PlacingLaws.{defaults_placed}
use Rattle.glsk_keys.proofs.columns.columns.Goals as goal

pub place_series-requires : goal.place_series-requires
place_series-requires c = subst ArePlaced (sym c.in_ok-defaults.ensures) (defaults_placed (facts_of c.args.known.now) c.args.known.now.zones.now)

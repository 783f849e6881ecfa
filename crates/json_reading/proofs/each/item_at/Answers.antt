use Rattle.std.proofs.Common.{sym}
use Rattle.fb_json.specs.Spots.{spot_tree}
use Rattle.json_reading.proofs.Entries.{item_is, not_absent, not_wrong}
use Rattle.json_reading.proofs.each.item_at.Goals as goal

pub unreachable-requires : goal.unreachable-requires
unreachable-requires c = not_absent (spot_tree c.args.spot.now) c.args.number c.requires (sym c.in-Absent.ensures)

pub unreachable-requires-in-Wrong : goal.unreachable-requires-in-Wrong
unreachable-requires-in-Wrong c = not_wrong (spot_tree c.args.spot.now) c.args.number c.requires (sym c.in-Wrong.ensures)

pub returns : goal.returns
returns c = item_is (spot_tree c.args.spot.now) c.args.number (spot_tree c.in-Value.item) (sym c.in-Value.ensures)

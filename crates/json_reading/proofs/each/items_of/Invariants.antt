use Rattle.std.proofs.Common.{◌≡◌, ◌≤◌, [], drop, length}
use Rattle.fb_json.specs.Spots.{spot_tree}
use Rattle.json_reading.specs.Reading.{each, spots_from, entries_of}
use Rattle.json_reading.specs.Here.{at_of}
use Rattle.json_reading.proofs.each.items_of.Given as goal

abbrev pub invariant-loop-number : goal.invariant-loop-number
invariant-loop-number g l =
    (each (g.R.ItemReader.reads l.reader) l.items.items (spots_from l.number (at_of l.at) (drop l.number (entries_of (spot_tree l.at.spot))))
    ≡ each (g.R.ItemReader.reads l.reader) [] (spots_from 0 (at_of l.at) (entries_of (spot_tree l.at.spot))))
    × g.R.ItemReader.keeps l.index l.items.items
    × (length l.items.items ≤ l.number)

-- The spot that a reader of the code stands at. Nobody need believe these words: they are of contracts inside readers.
use Rattle.std.specs.Prelude.{ℕ, List, []}
use Rattle.fb_json.specs.Spots.{spot_tree}
use Rattle.json_reading.specs.Place.{in_member, in_item}
use Rattle.json_reading.specs.Reading.{At}
use Rattle.json_reading.specs.declared.here.Here.{Here}
use Rattle.json_reading.specs.declared.place.Place.{Place, Root, Member', Item'}

-- the text of a place, by the places that it is in
abbrev pub place_text : Place → List ℕ
place_text Root = []
place_text (Member' p outer name) = in_member (place_text outer) name.now
place_text (Item' p outer number) = in_item (place_text outer) number

abbrev pub at_of : {K : Type 0} → Here K → At K
at_of h = record { place = place_text h.place; tree = spot_tree h.spot; missing = h.missing; wrong = h.wrong }

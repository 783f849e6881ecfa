use Rattle.std.proofs.Common.{sym, refl, ◌∙◌}
use Rattle.fb_json.specs.Spots.{spot_tree}
use Rattle.json_reading.specs.Reading.{array}
use Rattle.json_reading.proofs.Refused.{refused}
use Rattle.json_reading.proofs.Entries.{counted, no_length}
use Rattle.json_reading.proofs.each.array.Goals as goal

pub items_of-requires-clause-count : goal.items_of-requires-clause-count
items_of-requires-clause-count g c = (counted (spot_tree c.args.at.now.spot) c.in-Value.count (sym c.in-Value.ensures)).0

pub returns-in-Value-clause-items : goal.returns-in-Value-clause-items
unfolding array
returns-in-Value-clause-items g c =
    let e = counted (spot_tree c.args.at.now.spot) c.in-Value.count (sym c.in-Value.ensures) in
    rw e.1 c.items_of.ensures.items

pub returns-in-Value-clause-few : goal.returns-in-Value-clause-few
returns-in-Value-clause-few g c =
    let e = (counted (spot_tree c.args.at.now.spot) c.in-Value.count (sym c.in-Value.ensures)).0 in
    rw (sym e) c.items_of.ensures.few

pub returns-in_default-clause-items : goal.returns-in_default-clause-items
unfolding array
returns-in_default-clause-items g c =
    let e = no_length (spot_tree c.args.at.now.spot) (λ n h. c.in_default.not-Value n (c.length.ensures ∙ h)) in
    refused c.fault.result _ _ _ c.fault.ensures (rw e refl)

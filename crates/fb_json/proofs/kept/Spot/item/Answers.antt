use Rattle.std.proofs.Common.{length}
use Rattle.fb_json.specs.declared.node.Part.TheVariants.{Array}
use Rattle.fb_json.specs.Node.{part_of}
use Rattle.fb_json.proofs.Looking.{as_part, length_cut, lies_in_cut, array_item, array_end}
use Rattle.fb_json.proofs.kept.Spot.item.Goals as goal

pub invariant_of-result : goal.invariant_of-result
invariant_of-result c =
    let doc = c.args.self.now.doc.now in
    let span = c.in-Array.span in
    let whole = as_part doc.texts.items (length doc.nodes.items) (part_of c.args.self.now.node) (Array span) c.in-Array.ensures c.args.self.now.lies in
    let lt = rw (c.nodes_at.ensures, length_cut span doc.nodes.items whole.in_nodes) at (c.in-Some.ensures.lookup.3.0) in
    let at = rw c.nodes_at.ensures at (c.in-Some.ensures.lookup.1) in
    record { lies = lies_in_cut doc.texts.items doc.nodes.items doc.sound span whole.in_nodes c.args.at c.in-Some.node.now lt at }

pub returns-in-None : goal.returns-in-None
returns-in-None c =
    let doc = c.args.self.now.doc.now in
    let span = c.in-Array.span in
    let whole = as_part doc.texts.items (length doc.nodes.items) (part_of c.args.self.now.node) (Array span) c.in-Array.ensures c.args.self.now.lies in
    let past = rw (c.nodes_at.ensures, length_cut span doc.nodes.items whole.in_nodes) at (c.in-None.ensures.lookup.3) in
    array_end doc.texts.items doc.nodes.items doc.sound span whole.in_nodes c.args.self.now.node c.args.at c.in-Array.ensures past

pub returns-in-Some : goal.returns-in-Some
returns-in-Some c =
    let doc = c.args.self.now.doc.now in
    let span = c.in-Array.span in
    let whole = as_part doc.texts.items (length doc.nodes.items) (part_of c.args.self.now.node) (Array span) c.in-Array.ensures c.args.self.now.lies in
    let lt = rw (c.nodes_at.ensures, length_cut span doc.nodes.items whole.in_nodes) at (c.in-Some.ensures.lookup.3.0) in
    let at = rw c.nodes_at.ensures at (c.in-Some.ensures.lookup.1) in
    array_item doc.texts.items doc.nodes.items doc.sound span whole.in_nodes c.args.self.now.node c.in-Some.node.now c.args.at c.in-Array.ensures lt at

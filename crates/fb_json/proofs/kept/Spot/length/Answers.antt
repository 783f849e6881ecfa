use Rattle.std.proofs.Common.{length}
use Rattle.fb_json.specs.declared.node.Part.TheVariants.{Array}
use Rattle.fb_json.specs.Node.{part_of}
use Rattle.fb_json.proofs.Looking.{as_part, array_length}
use Rattle.fb_json.proofs.kept.Spot.length.Goals as goal

pub returns-in-Array : goal.returns-in-Array
returns-in-Array c =
    let doc = c.args.self.now.doc.now in
    let span = c.in-Array.span in
    let lies = as_part doc.texts.items (length doc.nodes.items) (part_of c.args.self.now.node) (Array span) c.in-Array.ensures c.args.self.now.lies in
    array_length doc.texts.items doc.nodes.items doc.sound span lies.in_nodes c.args.self.now.node c.in-Array.ensures

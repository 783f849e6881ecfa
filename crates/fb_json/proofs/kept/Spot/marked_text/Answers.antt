use Rattle.std.proofs.Common.{length}
use Rattle.fb_json.specs.declared.node.Part.TheVariants.{Text}
use Rattle.fb_json.specs.Node.{part_of}
use Rattle.fb_json.proofs.Looking.{as_part}
use Rattle.fb_json.proofs.kept.Spot.marked_text.Goals as goal

pub text_at-requires : goal.text_at-requires
text_at-requires c =
    let doc = c.args.self.now.doc.now in
    as_part doc.texts.items (length doc.nodes.items) (part_of c.args.self.now.node) (Text c.in-Text.span) c.in-Text.ensures c.args.self.now.lies

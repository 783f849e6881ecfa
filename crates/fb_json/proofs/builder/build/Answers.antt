use Rattle.std.proofs.Common.{length}
use Rattle.fb_json.specs.Node.{part_of}
use Rattle.fb_json.proofs.Looking.{as_part}
use Rattle.fb_json.proofs.builder.build.Goals as goal

pub invariant_of-result : goal.invariant_of-result
invariant_of-result c =
    let read = c.in_ok-root.ensures in
    let tables = c.read.new.builder in
    record {
      sound = read.grows.sound;
      root_lies = as_part tables.texts.items (length tables.nodes.items) c.in_ok-root.root (part_of c.in_ok-node_of.field-0) c.in_ok-node_of.ensures.node read.lies;
    }

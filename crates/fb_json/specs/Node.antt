-- What a node of eight bytes says. Nobody need believe this: the contracts of `Node::new` and `Node::part` are each other's
-- way back.
use Rattle.std.specs.Prelude.{ℕ, ◌==◌, ◌<◌, ◌/◌, ◌%◌, ◌^◌, true, false, if◌then◌else◌, ⊤}
use Rattle.fb_json.specs.declared.node.Span.{Span}
use Rattle.fb_json.specs.declared.node.Node.{Node}
use Rattle.fb_json.specs.declared.node.Part.{Part}
use Rattle.fb_json.specs.declared.node.Part.TheVariants.{Null, Truth, Number, Text, Array, Object}

abbrev pub part_with : ℕ → Span → Part
part_with kind span =
    if kind == 0 then Null else (if kind == 1 then Truth false else (if kind == 2 then Truth true else (if kind == 3 then Number span else (if kind == 4 then Text span else (if kind == 5 then Array span else Object span)))))

abbrev pub part_of : Node → Part
part_of n = part_with (n.head % 8) (record { start = n.head / 8; len = n.len })

abbrev pub FitsSpan : Span → Type 0
FitsSpan s = (s.start < 2 ^ 29) × (s.len < 2 ^ 32)

-- a node has room for the part
abbrev pub Fits : Part → Type 0
Fits Null = ⊤
Fits (Truth b) = ⊤
Fits (Number s) = FitsSpan s
Fits (Text s) = FitsSpan s
Fits (Array s) = FitsSpan s
Fits (Object s) = FitsSpan s

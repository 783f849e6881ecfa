use Rattle.std.proofs.Common.{ℕ, List, ap, ◌∙◌}
use Rattle.name_tables.specs.Tables.{with_entry}
use Rattle.fb_types.specs.declared.grid.Node.{Node}
use Rattle.run_settings.specs.Nodes.{node_codes}
use Rattle.run_settings.proofs.PlaceLaws.{noted_place}
use Rattle.run_settings.proofs.nodes.places_of.Goals as goal

pub loop-place-preserved : goal.loop-place-preserved
loop-place-preserved c =
    let nodes = c.args.nodes.now in
    let place = c.loop-place.place in
    let noted = c.in_ok-note.ensures ∙ ap (λ (name : List ℕ). with_entry c.loop-place.places name place) (c.in_ok-code.ensures.ok ∙ c.as_text.ensures.bytes) in
    noted_place (λ (n : Node). n.code) nodes place c.index-nodes-place.result c.loop-place.places c.note.new.self (node_codes nodes) c.loop-place-test.true c.index-nodes-place.is noted c.loop-place.invariant

use Rattle.std.proofs.Common.{◌≡◌, Some, sym, ap, ◌∙◌, rules}
use Rattle.std.specs.Prelude.{FitsSigned}
use Rattle.std.specs.Int.{w64}
use Rattle.std.proofs.lemmas.Int.{to_z-of_z}
use Rattle.ucte_reader.specs.Codes.{level_of}
use Rattle.ucte_reader.specs.Nodes.{node_kind, kind_in}
use Rattle.ucte_reader.proofs.NodeLaws.{node_field_fault-none, node_of-is}
use Rattle.ucte_reader.proofs.nodes.read_node.Goals as goal

pub returns : goal.returns
returns c =
    let line = c.args.line.now in
    let kind : kind_in line ≡ Some c.in-Some.kind = ap node_kind (sym c.field.ensures) ∙ sym c.kind_of.ensures ∙ c.in-Some.is in
    let powers = c.in_ok-load.ensures.1 in
    let code = c.from_string.ensures.same ∙ c.requires.code in
    let level = c.level_of-level.ensures.digit ∙ ap level_of c.field-2.ensures in
    let load_fits : FitsSigned w64 c.in_ok-load.load = search rules in
    let generation_fits : FitsSigned w64 c.in_ok-load.generation = search rules in
    simp to_z-of_z (
      node_field_fault-none line c.in-Some.kind kind c.in_ok-load.ensures.0,
      record { same = node_of-is c.args.zone line _ code c.in_ok-zone.ensures level kind powers; load_small = powers.load_small; generation_small = powers.generation_small },
    )

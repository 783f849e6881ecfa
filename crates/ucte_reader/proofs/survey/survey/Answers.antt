use Rattle.std.proofs.Common.{◌≡◌, ℕ, List, ◌∷◌, ap, sym, subst, ◌∙◌, arith}
use Rattle.ucte_reader.specs.Blocks.{Placed, placed, block_after}
use Rattle.ucte_reader.specs.Facts.{node_in}
use Rattle.ucte_reader.specs.Passes.{left, AreNoted}
use Rattle.ucte_reader.specs.declared.block.Block.{Block}
use Rattle.ucte_reader.proofs.SurveyLaws.{left_step, AreNoted-step, IsKnown-from_noted, length-option_to_list, empty_is}
use Rattle.ucte_reader.proofs.survey.survey.Goals as goal

pub lines-preserved : goal.lines-preserved
lines-preserved c =
    let line = c.without_return.result.now in
    let after = c.split_line.result.1.now in
    let block = c.lines.block in
    let all = placed c.args.text.now in
    let known = c.lines.known in
    let here : Placed = record { block = block; text = line } in
    let first : left block c.lines.rest.now ≡ here ∷ left c.in_ok-block.block after =
    left_step block c.lines.rest.now c.split_line.result.0.now after c.split_line.ensures.lines
    ∙ ap (λ (t : List ℕ). let p : Placed = record { block = block; text = t } in p ∷ left (block_after block t) after) (sym c.without_return.ensures)
    ∙ ap (λ (b : Block). here ∷ left b after) (sym c.in_ok-block.ensures.block) in
    let noted = subst (λ (ls : List Placed). AreNoted known ls all) first c.lines.invariant.noted in
    record {
      count = omega (arith, c.in_ok-block.ensures.count, length-option_to_list (node_in block line), c.split_line.ensures.shorter);
      noted = AreNoted-step known c.note_line.new.known block line (left c.in_ok-block.block after) all noted c.in_ok-block.ensures.places c.in_ok-block.ensures.count c.in_ok-block.ensures.transformers c.in_ok-block.ensures.shifts;
    }

pub returns : goal.returns
returns c =
    let all = placed c.args.text.now in
    let none = empty_is c.lines.rest.now (sym c.is_empty.ensures ∙ c.lines-test.false) in
    IsKnown-from_noted c.lines.known all (subst (λ (t : List ℕ). AreNoted c.lines.known (left c.lines.block t) all) none c.lines.invariant.noted)

use Rattle.std.proofs.Common.{◌≡◌, ℕ, List, ◌∷◌, Result, Err, ap, sym, subst, ◌∙◌, arith}
use Rattle.ucte_reader.specs.Blocks.{Placed, placed, block_after}
use Rattle.ucte_reader.specs.Passes.{left, Stands, Finds}
use Rattle.ucte_reader.specs.declared.block.Block.{Block}
use Rattle.ucte_reader.specs.declared.passes.Draft.{Draft}
use Rattle.ucte_reader.specs.declared.kind.GridError.{GridError}
use Rattle.ucte_reader.proofs.SurveyLaws.{left_step, empty_is}
use Rattle.ucte_reader.proofs.PassLaws.{Stands-begin, Stands-step, Finds-fault, HasTaken-all}
use Rattle.ucte_reader.proofs.passes.judge.Goals as goal

pub lines-init : goal.lines-init
unfolding placed
lines-init c = record {
  small = omega arith;
  stands = Stands-begin c.args.known.now (placed c.args.text.now) _ (record { nodes = c.new.ensures.kept; branches = c.new-2.ensures.kept }) c.new.ensures.none c.new-2.ensures.none c.new-3.ensures;
}

pub returns-in-Err : goal.returns-in-Err
returns-in-Err c =
    let line = c.without_return.result.now in
    let after = c.split_line.result.1.now in
    let block = c.lines.block in
    let known = c.args.known.now in
    let all = placed c.args.text.now in
    let here : Placed = record { block = block; text = line } in
    let first : left block c.lines.rest.now ≡ here ∷ left (block_after block line) after =
    left_step block c.lines.rest.now c.split_line.result.0.now after c.split_line.ensures.lines
    ∙ ap (λ (t : List ℕ). let p : Placed = record { block = block; text = t } in p ∷ left (block_after block t) after) (sym c.without_return.ensures) in
    let stands = subst (λ (ls : List Placed). Stands known all ls c.lines.number c.lines.draft) first c.lines.invariant.stands in
    let found = Finds-fault known all (left (block_after block line) after) here c.lines.number c.lines.draft c.in-Err.e stands c.in-Err.ensures.fault in
    subst (λ (e : GridError). let r : Result Draft GridError = Err e in Finds known all r) (sym c.at_line.ensures) found

pub lines-preserved : goal.lines-preserved
lines-preserved c =
    let line = c.without_return.result.now in
    let after = c.split_line.result.1.now in
    let block = c.lines.block in
    let known = c.args.known.now in
    let all = placed c.args.text.now in
    let here : Placed = record { block = block; text = line } in
    let first : left block c.lines.rest.now ≡ here ∷ left c.in-Ok.next after =
    left_step block c.lines.rest.now c.split_line.result.0.now after c.split_line.ensures.lines
    ∙ ap (λ (t : List ℕ). let p : Placed = record { block = block; text = t } in p ∷ left (block_after block t) after) (sym c.without_return.ensures)
    ∙ ap (λ (b : Block). here ∷ left b after) (sym c.in-Ok.ensures.block) in
    let stands = subst (λ (ls : List Placed). Stands known all ls c.lines.number c.lines.draft) first c.lines.invariant.stands in
    record {
      small = omega (arith, c.split_line.ensures.shorter);
      stands = Stands-step known all (left c.in-Ok.next after) here c.lines.number c.lines.draft c.judge_line.new.draft stands c.in-Ok.ensures.kept c.in-Ok.ensures.fault c.in-Ok.ensures.nodes c.in-Ok.ensures.branches c.in-Ok.ensures.regulated;
    }

pub returns : goal.returns
returns c =
    let known = c.args.known.now in
    let all = placed c.args.text.now in
    let none = empty_is c.lines.rest.now (sym c.is_empty.ensures ∙ c.lines-test.false) in
    HasTaken-all known all c.lines.number c.lines.draft (subst (λ (t : List ℕ). Stands known all (left c.lines.block t) c.lines.number c.lines.draft) none c.lines.invariant.stands)

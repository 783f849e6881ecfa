use Rattle.std.proofs.Common.{◌≡◌, ◌∷◌, ◌++◌, [], ◌∙◌, length, length-append, rules, Bor}
use Rattle.std.specs.Iterator.Adapters.{zip_first, zip_second}
use Rattle.std.specs.Slice.Iter.{iter_rest}
use Rattle.std.proofs.lemmas.Slice.Zip.{zip_turn, zip_end}
use Rattle.grid_state.specs.GridState.{GridState}
use Rattle.state_proofs.specs.declared.StateProof.{StateProof}
use Rattle.certificate_check.proofs.Claims.{claims_more, zip_taken}
use Rattle.certificate_check.proofs.states.claims_of.Goals as goal

pub loop-state-preserved : goal.loop-state-preserved
loop-state-preserved c =
    let states = c.args.states.now in
    let proofs = c.args.proofs.now in
    let so_far = c.loop-state.yielded in
    let here : Bor GridState × Bor StateProof = (c.in-Some.state, c.in-Some.proof) in
    let first : iter_rest (zip_first c.into_iter-state-iterator.result) ≡ states = search rules in
    let second : iter_rest (zip_second c.into_iter-state-iterator.result) ≡ proofs = search rules in
    let turn = zip_turn states proofs so_far c.into_iter-state-iterator.result c.loop-state.state-iterator
    c.next.new.self c.next.result first second c.loop-state.yielded_by here c.in-Some.is c.next.ensures.steps in
    claims_more states proofs c.loop-state.claims c.add.new.self
    (record { state = c.in-Some.state; proof = c.in-Some.proof }) (length so_far) (length (so_far ++ here ∷ []))
    turn.0 turn.1 (turn.2 c.in-Some.state.now) (turn.3 c.in-Some.proof.now) c.loop-state.invariant
    c.in_ok-add.ensures.pushed (length-append so_far (here ∷ []))

pub returns : goal.returns
returns c =
    let states = c.args.states.now in
    let proofs = c.args.proofs.now in
    let so_far = c.loop-state.yielded in
    let first : iter_rest (zip_first c.into_iter-state-iterator.result) ≡ states = search rules in
    let second : iter_rest (zip_second c.into_iter-state-iterator.result) ≡ proofs = search rules in
    c.loop-state.invariant
    ∙ zip_taken states proofs (length so_far)
    (zip_end states proofs so_far c.into_iter-state-iterator.result c.loop-state.state-iterator c.next.new.self
    c.next.result first second c.loop-state.yielded_by c.in-None.is c.next.ensures.steps)

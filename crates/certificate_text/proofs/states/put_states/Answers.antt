use Rattle.std.proofs.Common.{◌≡◌, ℕ, ◌+◌, ◌<◌, ◌≤◌, List, ◌++◌, length, get_or, map, take, sym, ap, ◌∙◌, arith, Bor}
use Rattle.std.specs.List.{enumerate_from, flat_map, zip}
use Rattle.std.proofs.lemmas.List.{length-map, get_or-map}
use Rattle.std.proofs.lemmas.List.FromFn.{length-enumerate_from, get_or-enumerate_from}
use Rattle.certificate_text.specs.CertificateTexts.{lines_of_state, lines_text}
use Rattle.certificate_text.proofs.Appending.{lines_joined, flat_more, pairs_more, pairs_done}
use Rattle.certificate_text.proofs.states.put_states.Goals as goal

pub returns-in_default : goal.returns-in_default
returns-in_default c =
    let ids : List (List ℕ) = map (λ (id : Bor (List ℕ)). id.now) c.args.ids.now in
    let past : length c.args.ids.now ≤ c.loop-k.k = c.in_default.ensures.lookup.3 in
    let long = length-enumerate_from 0 ids in
    let many = length-map c.args.ids.now (λ (id : Bor (List ℕ)). id.now) in
    c.loop-k.invariant
    ∙ ap (λ ps. c.args.table.now.text ++ lines_text (flat_map (lines_of_state c.args.places.now) ps)) (pairs_done (enumerate_from 0 ids) c.args.proofs.now c.loop-k.k (omega (arith, past, long, many)))

pub loop-k-preserved : goal.loop-k-preserved
loop-k-preserved c =
    let ids : List (List ℕ) = map (λ (id : Bor (List ℕ)). id.now) c.args.ids.now in
    let proofs = c.args.proofs.now in
    let k = c.loop-k.k in
    let id = c.in-Some.id.now in
    let proof = c.index-proofs-k.result in
    let lines = lines_of_state c.args.places.now in
    let within : k < length c.args.ids.now = c.in-Some.ensures.lookup.3.0 in
    let read : id ≡ get_or c.args.ids.now k id = c.in-Some.ensures.lookup.1 in
    let numbered = enumerate_from 0 ids in
    let many = length-map c.args.ids.now (λ (x : Bor (List ℕ)). x.now) in
    let long = length-enumerate_from 0 ids in
    let here : k < length ids = omega (arith, within, many) in
    let named : id.now ≡ get_or ids k id.now = ap (λ (x : Bor (List ℕ)). x.now) read ∙ sym (get_or-map (λ (x : Bor (List ℕ)). x.now) c.args.ids.now k id id.now within) in
    let number : 0 + k ≡ k = omega arith in
    let first : (k, id.now) ≡ get_or numbered k (k, id.now) = sym (get_or-enumerate_from 0 ids k (k, id.now) here ∙ (λ i. (number i, sym named i))) in
    let pairs = zip numbered proofs in
    lines_joined c.args.table.now.text c.loop-k.table.text c.put_state.new.table.text (flat_map lines (take k pairs)) (lines ((k, id.now), proof)) c.loop-k.invariant c.in_ok-put_state.ensures
    ∙ ap (λ ls. c.args.table.now.text ++ lines_text ls)
    (sym (flat_more lines pairs k ((k, id.now), proof) (pairs_more numbered proofs k (k, id.now) proof (omega (arith, here, long)) c.loop-k-test.true first c.index-proofs-k.is)))

pub returns : goal.returns
returns c =
    let ids : List (List ℕ) = map (λ (id : Bor (List ℕ)). id.now) c.args.ids.now in
    c.loop-k.invariant
    ∙ ap (λ ps. c.args.table.now.text ++ lines_text (flat_map (lines_of_state c.args.places.now) ps)) (pairs_done (enumerate_from 0 ids) c.args.proofs.now c.loop-k.k (omega (arith, c.loop-k-test.false)))

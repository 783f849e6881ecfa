use Rattle.std.proofs.Common.{◌≡◌, List, [], length, get_or, All, Option, Some, refl, sym, ap, subst, ◌∙◌, arith}
use Rattle.std.specs.Prelude.{slice_get, IfSome}
use Rattle.std.specs.List.{AllZip, Contains}
use Rattle.std.proofs.lemmas.List.{get_or_default}
use Rattle.std.proofs.lemmas.Option.{slice_get_read}
use Rattle.std.proofs.lemmas.Result.{IfOk-weaker}
use Rattle.grid_laplacian.specs.Ranges.{IsOfGrid}
use Rattle.grid_state.specs.GridState.{GridState}
use Rattle.state_proofs.specs.StateProofs.{IsStateProof}
use Rattle.fb_certificate.specs.RunRows.{run_rows}
use Rattle.fb_certificate.specs.declared.types.RunRow.{RunRow}
use Rattle.fb_certificate.proofs.WholeLaws.{state_of_grid}
use Rattle.fb_certificate.specs.RowsMade.{IsMadeBy, IsProofAt}
use Rattle.domain_maker.specs.Made.{AreMadeAt}
use Rattle.domain_maker.proofs.RowsByState.{group_listed, group_proved}
use Rattle.domain_maker.proofs.state_rows.RowMakerWork.run.Goals as goal

pub prove_after-requires-clause-of_grid : goal.prove_after-requires-clause-of_grid
prove_after-requires-clause-of_grid c =
    let inputs = c.args.self.now.inputs.now in
    let k = c.args.number.now in
    let s = c.index-as_slice-place.result in
    subst (λ (t : GridState). IsOfGrid inputs.grid t) (sym (c.index-as_slice-place.is ∙ ap (λ (ss : List GridState). get_or ss k s) c.as_slice.ensures.items))
    (state_of_grid inputs c.requires.0.whole k s c.requires.1)

pub state_rows-requires-clause-listed : goal.state_rows-requires-clause-listed
state_rows-requires-clause-listed c =
    let inputs = c.args.self.now.inputs.now in
    let groups = c.args.self.now.groups.now in
    let k = c.args.number.now in
    let by_state = c.requires.0.by_state in
    let rows_are : c.as_slice-rows.result.now ≡ get_or groups k [] =
    c.as_slice-rows.ensures.items ∙ get_or_default groups k _ [] (omega (arith, by_state.as_many, c.requires.1)) in
    subst (All (Contains (run_rows inputs))) (sym rows_are) (group_listed inputs groups by_state k c.requires.1)

pub state_rows-requires-clause-proof : goal.state_rows-requires-clause-proof
state_rows-requires-clause-proof c =
    let inputs = c.args.self.now.inputs.now in
    let groups = c.args.self.now.groups.now in
    let k = c.args.number.now in
    let by_state = c.requires.0.by_state in
    let s = c.index-as_slice-place.result in
    let p = c.in_ok-proof.proof in
    let rows_are : c.as_slice-rows.result.now ≡ get_or groups k [] =
    c.as_slice-rows.ensures.items ∙ get_or_default groups k _ [] (omega (arith, by_state.as_many, c.requires.1)) in
    let stands : slice_get inputs.states k ≡ Some s =
    slice_get_read inputs.states (length inputs.states) k s refl c.requires.1 (c.index-as_slice-place.is ∙ ap (λ (ss : List GridState). get_or ss k s) c.as_slice.ensures.items) in
    let is_proof : IsProofAt inputs k p =
    subst (λ (o : Option GridState). IfSome o (λ t. IsStateProof t inputs.grid inputs.keys.columns p)) (sym stands) c.in_ok-proof.ensures.proof in
    subst (All (λ row. IsProofAt inputs row.state p)) (sym rows_are) (group_proved inputs groups by_state k c.requires.1 p is_proof)

pub returns : goal.returns
returns c =
    let inputs = c.args.self.now.inputs.now in
    let groups = c.args.self.now.groups.now in
    let k = c.args.number.now in
    let by_state = c.requires.0.by_state in
    let s = c.index-as_slice-place.result in
    let p = c.in_ok-proof.proof in
    let rows_are : c.as_slice-rows.result.now ≡ get_or groups k [] =
    c.as_slice-rows.ensures.items ∙ get_or_default groups k _ [] (omega (arith, by_state.as_many, c.requires.1)) in
    let stands : slice_get inputs.states k ≡ Some s =
    slice_get_read inputs.states (length inputs.states) k s refl c.requires.1 (c.index-as_slice-place.is ∙ ap (λ (ss : List GridState). get_or ss k s) c.as_slice.ensures.items) in
    let is_proof : IsProofAt inputs k p =
    subst (λ (o : Option GridState). IfSome o (λ t. IsStateProof t inputs.grid inputs.keys.columns p)) (sym stands) c.in_ok-proof.ensures.proof in
    IfOk-weaker c.state_rows.result (AllZip (IsMadeBy inputs p) c.as_slice-rows.result.now) (AreMadeAt inputs k (get_or groups k []))
    (λ made each. record {
      proof = p;
      is_proof = is_proof;
      each = subst (λ (rows : List RunRow). AllZip (IsMadeBy inputs p) rows made) rows_are each;
    })
    c.state_rows.ensures

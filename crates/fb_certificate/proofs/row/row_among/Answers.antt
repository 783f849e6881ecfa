use Rattle.std.proofs.Common.{◌≡◌, ◌<◌, List, length, get_or, Some, refl, sym, ap, subst, ◌∙◌}
use Rattle.std.specs.Prelude.{slice_get}
use Rattle.std.proofs.lemmas.Option.{slice_get_read}
use Rattle.std.proofs.lemmas.Result.{IfOk-weaker}
use Rattle.state_proofs.specs.declared.StateProof.{StateProof}
use Rattle.fb_certificate.proofs.FlowLaws.{proof_among, last_by, flows_in}
use Rattle.fb_certificate.proofs.NumberLaws.{proof_below, state_stands, state_within}
use Rattle.fb_certificate.proofs.RunLaws.{listed}
use Rattle.fb_certificate.proofs.row.row_among.Goals as goal

pub bounds-as_slice-row : goal.bounds-as_slice-row
bounds-as_slice-row c =
    let inputs = c.args.inputs.now in
    let row = c.args.row.now in
    subst (λ (ps : List StateProof). row.state < length ps) (sym c.as_slice.ensures.items)
    (proof_below inputs c.args.states.now row.state c.requires.proofs (state_within inputs c.requires.whole row (listed inputs row c.requires.listed)))

pub row_after-requires-clause-proof : goal.row_after-requires-clause-proof
row_after-requires-clause-proof c =
    let inputs = c.args.inputs.now in
    let row = c.args.row.now in
    let p = c.index-as_slice-row.result in
    let p_is = c.index-as_slice-row.is ∙ ap (λ (ps : List StateProof). get_or ps row.state p) c.as_slice.ensures.items in
    proof_among inputs c.args.states.now row.state p c.requires.proofs (state_within inputs c.requires.whole row (listed inputs row c.requires.listed)) p_is

pub row_after-requires-clause-last : goal.row_after-requires-clause-last
row_after-requires-clause-last c =
    let inputs = c.args.inputs.now in
    let row = c.args.row.now in
    let p = c.index-as_slice-row.result in
    let below = proof_below inputs c.args.states.now row.state c.requires.proofs (state_within inputs c.requires.whole row (listed inputs row c.requires.listed)) in
    let p_is = c.index-as_slice-row.is ∙ ap (λ (ps : List StateProof). get_or ps row.state p) c.as_slice.ensures.items in
    let stands : slice_get c.args.states.now row.state ≡ Some p = slice_get_read c.args.states.now (length c.args.states.now) row.state p refl below p_is in
    last_by inputs c.args.states.now row.state p stands c.args.last c.requires.last

pub returns-clause-numbers : goal.returns-clause-numbers
returns-clause-numbers c =
    let inputs = c.args.inputs.now in
    let row = c.args.row.now in
    let p = c.index-as_slice-row.result in
    let below = proof_below inputs c.args.states.now row.state c.requires.proofs (state_within inputs c.requires.whole row (listed inputs row c.requires.listed)) in
    let p_is = c.index-as_slice-row.is ∙ ap (λ (ps : List StateProof). get_or ps row.state p) c.as_slice.ensures.items in
    IfOk-weaker c.row_after.result _ _
    (λ found made crac_row same. made.numbers crac_row same c.args.states.now (state_stands inputs c.args.states.now p crac_row row same below p_is))
    c.row_after.ensures.made

pub returns-clause-holds : goal.returns-clause-holds
returns-clause-holds c = IfOk-weaker c.row_after.result _ _ (λ found made. made.holds) c.row_after.ensures.made

pub returns-clause-right : goal.returns-clause-right
returns-clause-right c = IfOk-weaker c.row_after.result _ _ (λ found made. made.right) c.row_after.ensures.made

pub returns-clause-flows : goal.returns-clause-flows
returns-clause-flows c =
    let inputs = c.args.inputs.now in
    let row = c.args.row.now in
    let p = c.index-as_slice-row.result in
    let below = proof_below inputs c.args.states.now row.state c.requires.proofs (state_within inputs c.requires.whole row (listed inputs row c.requires.listed)) in
    let p_is = c.index-as_slice-row.is ∙ ap (λ (ps : List StateProof). get_or ps row.state p) c.as_slice.ensures.items in
    let stands : slice_get c.args.states.now row.state ≡ Some p = slice_get_read c.args.states.now (length c.args.states.now) row.state p refl below p_is in
    IfOk-weaker c.row_after.result _ _ (λ found flows. flows_in inputs c.args.states.now row p found.1 stands flows) c.row_after.ensures.flows

use Rattle.std.proofs.Common.{◌≡◌, ℕ, ◌≤◌, List, [], ◌∷◌, ◌++◌, length, map, sym, ap, ◌∙◌, arith, Bor}
use Rattle.std.specs.Prelude.{codes}
use Rattle.std.specs.List.{enumerate_from, flat_map}
use Rattle.std.proofs.lemmas.List.{length-map}
use Rattle.fb_certificate.specs.CracRows.{crac_rows}
use Rattle.certificate_text.specs.CertificateTexts.{block_places, state_ids}
use Rattle.certificate_text.proofs.Appending.{numbered_done}
use Rattle.certificate_labels.specs.Kinds.{label_of, labels_of_rows}
use Rattle.certificate_labels.specs.Labels.{labels_of_state}
use Rattle.certificate_labels.specs.declared.record.Due.TheVariants as due
use Rattle.certificate_labels.proofs.Listing.{pushed, state_more}
use Rattle.certificate_labels.proofs.dues.due_records.Goals as goal

pub loop-number-init : goal.loop-number-init
loop-number-init c =
    pushed label_of c.new-dues.result.items c.push.new.self.items due.Version c.in_ok-push.ensures.items ∙ ap (λ ds. map label_of ds ++ label_of due.Version ∷ []) c.new-dues.ensures.items

pub loop-number-preserved : goal.loop-number-preserved
loop-number-preserved c =
    let inputs = c.args.inputs.now in
    let items = c.deref-id-items.result.now in
    state_more (label_of due.Version ∷ []) (map label_of c.loop-number.dues.items) (map label_of c.put_state.new.dues.items)
    c.as_slice-in-loop-number.result.now (block_places inputs.keys.columns) items (state_ids inputs) c.loop-number.number (record { ref_ptr = (0, 0); now = [] })
    c.loop-number.invariant c.in_ok-put_state.ensures
    (c.as_slice-in-loop-number.ensures.value ∙ c.in_ok-places.ensures ∙ ap block_places c.as_slice.ensures.items)
    (ap (map (λ (id : Bor (List ℕ)). id.now)) c.deref-id-items.ensures.value ∙ c.in_ok-ids.ensures)
    c.loop-number-test.true

pub returns : goal.returns
returns c =
    let inputs = c.args.inputs.now in
    let items = c.deref-id-items.result.now in
    let ids : map (λ (id : Bor (List ℕ)). id.now) items ≡ state_ids inputs = ap (map (λ (id : Bor (List ℕ)). id.now)) c.deref-id-items.ensures.value ∙ c.in_ok-ids.ensures in
    let long = sym (length-map items (λ (id : Bor (List ℕ)). id.now)) ∙ ap length ids in
    let past : length (state_ids inputs) ≤ c.loop-number.number = omega (arith, long, c.loop-number-test.false) in
    c.in_ok-put_rows.ensures
    ∙ ap (λ rs. map label_of c.loop-number.dues.items ++ labels_of_rows 1 (crac_rows rs)) c.as_slice-2.ensures.items
    ∙ ap (λ ls. ls ++ labels_of_rows 1 (crac_rows inputs.crac.elements)) (c.loop-number.invariant
    ∙ ap (λ ss. label_of due.Version ∷ flat_map (labels_of_state (block_places inputs.keys.columns)) ss) (numbered_done 0 (state_ids inputs) c.loop-number.number past))

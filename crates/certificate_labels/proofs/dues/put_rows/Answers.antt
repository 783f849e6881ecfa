use Rattle.std.proofs.Common.{ℕ, ◌+◌, ◌-◌, ◌++◌, length, map, take, sym, ap, ◌∙◌, arith}
use Rattle.std.specs.List.{enumerate_from, flat_map}
use Rattle.fb_types.specs.declared.crac.Element.{Element}
use Rattle.fb_certificate.specs.CracRows.{rows_of_element}
use Rattle.certificate_text.proofs.Appending.{flat_more, numbered_more, numbered_done}
use Rattle.certificate_labels.specs.Kinds.{label_of, labels_of_rows}
use Rattle.certificate_labels.proofs.Listing.{element_more, number_is}
use Rattle.certificate_labels.proofs.dues.put_rows.Goals as goal

pub loop-element-preserved : goal.loop-element-preserved
loop-element-preserved c =
    let elements = c.args.elements.now in
    let k = c.loop-element.element-index in
    let e : ℕ × Element = (k, c.element-item.result) in
    let numbered = enumerate_from 0 elements in
    let dues = c.args.dues.now.items in
    let old = c.loop-element.dues.items in
    let mid = c.put_row.new.dues.items in
    let new = c.put_row-in-loop-element.new.dues.items in
    let before = c.len-before.result in
    let counted = c.len-before.ensures ∙ c.args.dues.now.ok.0 in
    element_more (map label_of dues) (map label_of old) (map label_of mid) (map label_of new) (flat_map rows_of_element (take k numbered)) e
    (length old - before + 1) (length mid - before + 1)
    c.loop-element.invariant c.in_ok-put_row.ensures c.in_ok-put_row-2.ensures
    (number_is label_of old dues before counted) (number_is label_of mid dues before counted)
    ∙ ap (λ rs. map label_of dues ++ labels_of_rows 1 rs)
    (sym (flat_more rows_of_element numbered k e (numbered_more 0 elements k k c.element-item.result c.loop-element-test.true (omega arith) c.element-item.is)))

pub returns : goal.returns
returns c =
    c.loop-element.invariant
    ∙ ap (λ es. map label_of c.args.dues.now.items ++ labels_of_rows 1 (flat_map rows_of_element es)) (numbered_done 0 c.args.elements.now c.loop-element.element-index c.loop-element-test.false)

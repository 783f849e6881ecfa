use Rattle.std.proofs.Common.{◌≡◌, ℤ, List, [], ◌∷◌, ◌++◌, map, ap, ◌∙◌}
use Rattle.std.specs.Fmt.{signed_decimal}
use Rattle.fb_certificate.specs.Lists.{inner_list, outer_list}
use Rattle.domain_report.specs.DomainTexts.{sides, coefficients, citations, citation, fate_word}
use Rattle.domain_report.specs.Standings.{sides_of, standing_word, standing_citation}
use Rattle.domain_report.proofs.Parts.{two_parts, three_parts}
use Rattle.domain_report.proofs.rows.put_proof.Goals as goal

pub returns : goal.returns
returns c = λ certificate count are.
    let number = c.args.number in
    let row = c.args.row.now in
    let inner = c.standing_of-inner.result in
    let outer = c.standing_of-outer.result in
    let inner_listed = c.is_inner.ensures in
    let outer_listed = c.is_outer.ensures in
    let inner_cites = are.inner.same in
    let outer_cites = are.outer.same in
    let inner_word : standing_word inner ≡ fate_word (inner_list.holds row.class) certificate.inner number =
    c.standing_of-inner.ensures.word ∙ (λ i. fate_word (inner_listed i) (inner_cites i) number) in
    let outer_word : standing_word outer ≡ fate_word (outer_list.holds row.class) certificate.outer number =
    c.standing_of-outer.ensures.word ∙ (λ i. fate_word (outer_listed i) (outer_cites i) number) in
    let inner_by : standing_citation inner ≡ citation (inner_list.holds row.class) certificate.inner number =
    c.standing_of-inner.ensures.citation ∙ (λ i. citation (inner_listed i) (inner_cites i) number) in
    let outer_by : standing_citation outer ≡ citation (outer_list.holds row.class) certificate.outer number =
    c.standing_of-outer.ensures.citation ∙ (λ i. citation (outer_listed i) (outer_cites i) number) in
    let before = c.args.fields.now in
    let sided = c.put_sides.new.fields in
    let weighed = c.put_wholes.new.fields in
    let cited : c.put_citation-2.new.fields ≡ weighed ++ citations certificate number row =
    two_parts (standing_citation inner ∷ []) (standing_citation outer ∷ []) weighed c.put_citation.new.fields c.put_citation-2.new.fields c.in_ok-put_citation.ensures c.in_ok-put_citation-2.ensures
    ∙ (λ i. weighed ++ (inner_by i ∷ outer_by i ∷ [])) in
    three_parts (sides certificate number row) (coefficients row) (citations certificate number row) before sided weighed c.put_citation-2.new.fields
    (c.in_ok-put_sides.ensures ∙ (λ i. before ++ sides_of (inner_word i) (outer_word i) row))
    (c.in_ok-put_wholes.ensures ∙ ap (λ (a : List ℤ). sided ++ map signed_decimal a) c.as_slice.ensures.items)
    cited

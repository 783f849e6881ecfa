use Rattle.std.proofs.Common.{w64, length, ap, rules, ◌∙◌, arith}
use Rattle.std.proofs.lemmas.Int.{to_z-of_z}
use Rattle.std.proofs.lemmas.List.{length-map, with_items_is}
use Rattle.domain_rows.specs.Brackets.{coefficient_of}
use Rattle.cnec_rows.proofs.Parts.{proof_same, bracketed_same}
use Rattle.cnec_rows.proofs.row.proof_from.Goals as goal

pub returns-clause-value : goal.returns-clause-value
returns-clause-value c =
    let long = ap length c.bracket-sides.ensures.coefficients ∙ length-map c.args.core.now coefficient_of in
    let items = ap length c.as_slice.ensures.items in
    let len = c.in_ok-a.ensures.len in
    let put = c.from_vec.ensures.same ∙ with_items_is c.in_ok-a.a c.bracket-sides.new.a (omega (arith, long, items, len)) in
    proof_same c.classify.result _ c.from_vec.result _ _ _ _ _ c.classify.ensures.rule (put ∙ c.bracket-sides.ensures.coefficients)
    (to_z-of_z w64 c.bracket-sides.result.r_in (search rules) ∙ c.bracket-sides.ensures.inner) (to_z-of_z w64 c.bracket-sides.result.r_out (search rules) ∙ c.bracket-sides.ensures.outer)

pub returns-clause-brackets : goal.returns-clause-brackets
returns-clause-brackets c =
    let long = ap length c.bracket-sides.ensures.coefficients ∙ length-map c.args.core.now coefficient_of in
    let items = ap length c.as_slice.ensures.items in
    let len = c.in_ok-a.ensures.len in
    let put = c.from_vec.ensures.same ∙ with_items_is c.in_ok-a.a c.bracket-sides.new.a (omega (arith, long, items, len)) in
    bracketed_same c.args.core.now c.args.ram c.args.zones.now.bounds c.bracket-sides.new.a c.from_vec.result c.bracket-sides.result.r_in c.bracket-sides.result.r_out _ _
    put (to_z-of_z w64 c.bracket-sides.result.r_in (search rules)) (to_z-of_z w64 c.bracket-sides.result.r_out (search rules)) c.bracket-sides.ensures.brackets

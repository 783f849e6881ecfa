use Rattle.std.proofs.Common.{◌≡◌, ℕ, List, length, ◌<◌, ◌*◌, ◌^◌, ◌+◌, pos, ℤ, ◌+ℤ◌, take, get_or, ap, subst, sym, ◌∙◌, lit<, to_z, rules}
use mir.Syntax.{w128}
use mir.Val.{SFits}
use Rattle.std.proofs.lemmas.Int.{to_z-of_z}
use Rattle.whole_laws.specs.Sums.{IsWithin}
use Rattle.whole_laws.specs.SumLaws.{sum_over-more}
use Rattle.glsk_keys.specs.Measures.{total_of, itself}
use Rattle.glsk_keys.proofs.MeasureLaws.{total_within}
use Rattle.glsk_keys.proofs.ScalingLaws.{fits}
use Rattle.glsk_keys.proofs.measures.total.Goals as goal

next : (xs : List ℤ) (i : ℕ) (t : ℤ) → i < length xs → t ≡ total_of (take i xs) → t +ℤ get_or xs i (pos 0) ≡ total_of (take (i + 1) xs)
next xs i t l e = ap (λ z. z +ℤ get_or xs i (pos 0)) e ∙ sym (sum_over-more itself xs i (pos 0) l)

pub overflow_add-total : goal.overflow_add-total
overflow_add-total c =
    let f : SFits w128 (get_or c.args.values.now c.loop-value.value-index (pos 0)) = search rules in
    let n = next c.args.values.now c.loop-value.value-index _ c.loop-value-test.true c.loop-value.invariant in
    let t = total_within (2 ^ 110) c.args.values.now (c.loop-value.value-index + 1) c.requires.few c.requires.each in
    simp to_z-of_z (fits (4096 * 2 ^ 110) _ (subst (IsWithin (4096 * 2 ^ 110)) (sym n) t) (lit< tt))

pub loop-value-preserved : goal.loop-value-preserved
loop-value-preserved c =
    let f : SFits w128 (get_or c.args.values.now c.loop-value.value-index (pos 0)) = search rules in
    let n = next c.args.values.now c.loop-value.value-index _ c.loop-value-test.true c.loop-value.invariant in
    let t = total_within (2 ^ 110) c.args.values.now (c.loop-value.value-index + 1) c.requires.few c.requires.each in
    let g : SFits w128 (to_z w128 c.loop-value.total-bits +ℤ get_or c.args.values.now c.loop-value.value-index (pos 0)) = fits (4096 * 2 ^ 110) _ (subst (IsWithin (4096 * 2 ^ 110)) (sym n) t) (lit< tt) in
    simp to_z-of_z n

use Rattle.std.proofs.Common.{◌≡◌, ◌^◌, pos, [], ◌∷◌, ◌++◌, get_or, sym, subst, lit<, to_z, of_z, to_z-of_z, arith}
use mir.Syntax.{w64}
use Rattle.std.proofs.lemmas.List.Elements.{All-push, All-same}
use Rattle.whole_laws.specs.Sums.{IsWithin}
use Rattle.whole_numbers.specs.SpelledLaws.{fits_64}
use Rattle.rows_document.proofs.Spellings.{same_length, same_at, spelled_more}
use Rattle.rows_document.proofs.record.coefficients.Goals as goal

pub returns-in-None : goal.returns-in-None
returns-in-None c = record {
  spelled = λ xs h e.
      let k = c.loop-field.field-index in
      let long = same_length c.args.fields.now xs e in
      (rw c.in-None.is at c.number_within.ensures.spelled) (get_or xs k (pos 0)) (h.small k (pos 0) (omega (arith, c.loop-field-test.true))) (same_at c.args.fields.now xs k _ e c.loop-field-test.true);
}

pub loop-field-preserved : goal.loop-field-preserved
loop-field-preserved c =
    let read = rw c.in-Some.is at c.number_within.ensures.spelled in
    let same : to_z w64 (of_z w64 c.in-Some.value) ≡ c.in-Some.value = to_z-of_z (fits_64 (10 ^ 12) c.in-Some.value read.0 (lit< tt)) in
    let kept = subst (IsWithin (10 ^ 12)) (sym same) read.0 in (
      spelled_more c.loop-field.a c.add.new.self c.args.fields.now c.loop-field.field-index (record { ref_ptr = (0, 0); now = [] }) c.in-Some.value (to_z w64 (of_z w64 c.in-Some.value)) same c.loop-field.invariant.0 c.loop-field-test.true read.1 c.in_ok-add-in-Some.ensures.pushed,
      All-same (IsWithin (10 ^ 12)) c.add.new.self (c.loop-field.a ++ to_z w64 (of_z w64 c.in-Some.value) ∷ []) c.in_ok-add-in-Some.ensures.pushed (All-push (IsWithin (10 ^ 12)) c.loop-field.a (to_z w64 (of_z w64 c.in-Some.value)) c.loop-field.invariant.1 kept),
    )

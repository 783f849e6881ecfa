use Rattle.std.proofs.Common.{refl, arith, inl, inr, false}
use Rattle.std.proofs.lemmas.Bool.{both_ways}
use Rattle.certificate_check.proofs.cites.cite_fault.Goals as goal

pub returns-then-not-is_cited : goal.returns-then-not-is_cited
returns-then-not-is_cited c = λ cites m.
    let e = c.if-not-is_cited.ensures cites m in
    let past = c.if-from-least.false in
    let from = c.from.ensures in
    inr (inl (record {
      is = refl;
      order = omega (arith, past, from);
      fails = λ h. absurd
          (both_ways false refl (e.1 h));
    }))

pub returns-then-not-is_proved : goal.returns-then-not-is_proved
returns-then-not-is_proved c = λ cites m.
    let e = c.if-not-is_cited.ensures cites m in
    let past = c.if-from-least.false in
    let from = c.from.ensures in
    inr (inr (record {
      is = refl;
      order = omega (arith, past, from);
      cited = e.0 refl;
      fails = λ h. absurd
          (both_ways false refl (c.if-not-is_proved.ensures.1 h));
    }))

pub returns : goal.returns
returns c = λ cites m.
    let e = c.if-not-is_cited.ensures cites m in
    let past = c.if-from-least.false in
    let from = c.from.ensures in
    record { order = omega (arith, past, from); cited = e.0 refl; follows = c.if-not-is_proved.ensures.0 refl }

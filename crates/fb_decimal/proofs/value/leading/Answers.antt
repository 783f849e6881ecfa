use Rattle.std.proofs.Common.{arith, sym, ◌∙◌, ◌+◌, take}
use Rattle.fb_decimal.specs.Pieces.{digits}
use Rattle.fb_decimal.proofs.Digits.{Step, lead_more_yes, lead_more_full, lead_more_no, lead_le}
use Rattle.fb_decimal.proofs.value.leading.Goals as goal
use Rattle.fb_decimal.proofs.value.leading.Goals.{then-is_ascii_digit+then-left-gt0+else-total-gt-LIMIT, else-is_ascii_digit, else-is_ascii_digit-via-then-is_ascii_digit+else-left-gt0, else-is_ascii_digit-via-else-is_ascii_digit}

pub returns-then-total-gt-LIMIT : goal.returns-then-total-gt-LIMIT
returns-then-total-gt-LIMIT c =
    let i = c.loop-byte.byte-index in
    let text = c.args.bytes.now in
    let inv = c.loop-byte.invariant in
    let s = lead_more_yes c.args.kept c.loop-byte.total c.loop-byte.left text i (omega arith) (sym c.is_ascii_digit.ensures.value ∙ c.if-is_ascii_digit.true) (omega arith) (record { is_lead = inv.total; is_left = inv.left }) in
    omega (arith, s.is_lead, lead_le c.args.kept text (i + 1), c.if-total-gt-LIMIT.true, c.from.ensures)

pub loop-byte-preserved : goal.loop-byte-preserved
loop-byte-preserved c =
    let i = c.loop-byte.byte-index in
    let text = c.args.bytes.now in
    let kept = c.args.kept in
    let inv = c.loop-byte.invariant in
    let before : Step kept c.loop-byte.total c.loop-byte.left (digits (take i text)) = record { is_lead = inv.total; is_left = inv.left } in
    elim c.if-is_ascii_digit.branch [
      | then-is_ascii_digit+then-left-gt0+else-total-gt-LIMIT w ↦
          let s = lead_more_yes kept c.loop-byte.total c.loop-byte.left text i (omega arith) (sym c.is_ascii_digit.ensures.value ∙ w.if-is_ascii_digit.true) (omega arith) before in
          record { total = omega (arith, s.is_lead, w.total-is, w.from.ensures); small = omega (arith, w.total-is); left = omega (arith, s.is_left, w.left-is) }
      | else-is_ascii_digit w ↦ elim w.else-is_ascii_digit.branch [
        | else-is_ascii_digit-via-then-is_ascii_digit+else-left-gt0 w' ↦
            let s = lead_more_full kept c.loop-byte.total c.loop-byte.left text i (omega arith) (sym c.is_ascii_digit.ensures.value ∙ w'.if-is_ascii_digit.true) (omega arith) before in
            record { total = omega (arith, s.is_lead, w.total-is); small = omega (arith, w.total-is); left = omega (arith, s.is_left, w.left-is) }
        | else-is_ascii_digit-via-else-is_ascii_digit w' ↦
            let s = lead_more_no kept c.loop-byte.total c.loop-byte.left text i (omega arith) (sym c.is_ascii_digit.ensures.value ∙ w'.if-is_ascii_digit.false) before in
            record { total = omega (arith, s.is_lead, w.total-is); small = omega (arith, w.total-is); left = omega (arith, s.is_left, w.left-is) }
      ]
    ]

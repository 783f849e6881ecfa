use Rattle.std.proofs.Common.{◌≡◌, sym, ap, ◌∙◌, subst, true, to_z-of_z}
use Rattle.std.specs.Str.{IsUtf8}
use Rattle.whole_numbers.specs.Plain.{is_plain}
use Rattle.whole_numbers.proofs.Decimals.{parse_wide, utf8, plain, spelled}
use Rattle.whole_numbers.proofs.whole_number.Goals as goal

pub returns-then-not-is_plain : goal.returns-then-not-is_plain
returns-then-not-is_plain c = record {
  spelled = λ z fits e. let p : is_plain c.args.field.now ≡ true = ap is_plain e ∙ plain z fits in let q = c.if-not-is_plain.true in let r = c.is_plain.ensures in cc;
}

pub returns-in_default : goal.returns-in_default
returns-in_default c = record { spelled = λ z fits e. absurd (c.in_default.ensures.cases.0 (subst IsUtf8 (sym e) (utf8 z fits))) }

pub returns-in_default-parse : goal.returns-in_default-parse
returns-in_default-parse c = record { spelled = λ z fits e. let p = parse_wide z _ _ fits (c.in-Ok.ensures.cases.0 ∙ e) c.parse.ensures.value.0 in let q = c.in_default-parse.is in cc }

pub returns : goal.returns
returns c =
    let text : c.in-Ok.text.now ≡ c.args.field.now = c.in-Ok.ensures.cases.0 in
    let p : is_plain c.in-Ok.text.now ≡ true = ap is_plain text ∙ (let a = c.if-not-is_plain.false in let b = c.is_plain.ensures in cc) in
    let s = spelled c.in-Ok-parse.value c.in-Ok.text.now _ p c.parse.ensures.value.0 c.in-Ok-parse.is in
    record { spelled = rw (to_z-of_z s.0) (s.0, sym text ∙ s.1) }

use Rattle.std.proofs.Common.{sym, ap, ◌∙◌, lit<, arith}
use Rattle.std.specs.Prelude.{option_map}
use Rattle.csv.specs.Records.{fields_of}
use Rattle.certificate_reader.proofs.Leaves.{no_field, three}
use Rattle.certificate_reader.proofs.record.three_fields.Goals as goal

pub returns-in_default-clause-none : goal.returns-in_default-clause-none
returns-in_default-clause-none c = λ a b d. no_field (fields_of c.args.fields.now) 0 a b d (sym c.get.ensures.value ∙ ap (option_map (λ s. s.now)) c.in_default.is) (lit< tt)

pub returns-in_default-get-clause-none : goal.returns-in_default-get-clause-none
returns-in_default-get-clause-none c = λ a b d. no_field (fields_of c.args.fields.now) 1 a b d (sym c.get-2.ensures.value ∙ ap (option_map (λ s. s.now)) c.in_default-get.is) (lit< tt)

pub returns-in_default-get-2-clause-none : goal.returns-in_default-get-2-clause-none
returns-in_default-get-2-clause-none c = λ a b d. no_field (fields_of c.args.fields.now) 2 a b d (sym c.get-3.ensures.value ∙ ap (option_map (λ s. s.now)) c.in_default-get-2.is) (lit< tt)

pub returns-clause-some : goal.returns-clause-some
returns-clause-some c = three (fields_of c.args.fields.now) c.in-Some.kind.now c.in-Some-get.key.now c.in-Some-get-2.value.now (omega (arith, c.len.ensures))
    (sym c.get.ensures.value ∙ ap (option_map (λ s. s.now)) c.in-Some.is)
    (sym c.get-2.ensures.value ∙ ap (option_map (λ s. s.now)) c.in-Some-get.is)
    (sym c.get-3.ensures.value ∙ ap (option_map (λ s. s.now)) c.in-Some-get-2.is)

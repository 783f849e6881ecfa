use Rattle.std.proofs.Common.{sym, ap, ◌∙◌}
use Rattle.std.specs.Prelude.{option_map}
use Rattle.std.proofs.lemmas.Bool.Decides.{Decides-eqb}
use Rattle.std.proofs.lemmas.Slice.Eq.{slice_eq-Decides}
use Rattle.csv.specs.Records.{fields_of}
use Rattle.certificate_labels.proofs.Fields.{no_field, tested_field}
use Rattle.certificate_labels.proofs.compare.has_field.Goals as goal

pub returns-in-None : goal.returns-in-None
returns-in-None c = no_field (fields_of c.args.fields.now) c.args.place c.args.text.now (sym c.get.ensures.value ∙ ap (option_map (λ s. s.now)) c.in-None.is)

pub returns-in-Some : goal.returns-in-Some
returns-in-Some c =
    tested_field c.eq.result (fields_of c.args.fields.now) c.args.place c.in-Some.field.now c.as_bytes.result.now c.args.text.now
    (sym c.get.ensures.value ∙ ap (option_map (λ s. s.now)) c.in-Some.is)
    (slice_eq-Decides Decides-eqb _ _ _ c.eq.ensures)
    c.as_bytes.ensures.value

use Rattle.std.proofs.Common.{◌≡◌, ℕ, Bool, false, List, sym, ap, ◌∙◌, subst}
use Rattle.std.specs.Prelude.{not, Option, Some, option_map, slice_get, IsTrue, ◌↔◌}
use Rattle.csv.specs.Records.{fields_of}
use Rattle.certificate_labels.specs.Kinds.{id_of, key_of, kind_of, with_id}
use Rattle.certificate_labels.specs.Labels.{IsMislabelled}
use Rattle.certificate_labels.proofs.Fields.{other_kind, other_key, same_key, id_tested}
use Rattle.certificate_labels.proofs.compare.is_mislabelled.Goals as goal

-- a test of a field, with the text spelled in another way
respelled : (r : Bool) (fs : List (List ℕ)) (k : ℕ) (x y : List ℕ) → IsTrue r ↔ (slice_get fs k ≡ Some x) → x ≡ y → IsTrue r ↔ (slice_get fs k ≡ Some y)
respelled r fs k x y t e = subst (λ (z : List ℕ). IsTrue r ↔ (slice_get fs k ≡ Some z)) e t

pub returns-then-not-has_field : goal.returns-then-not-has_field
returns-then-not-has_field c =
    let due = c.args.due.now in
    let fields = fields_of c.args.fields.now in
    other_kind c.has_field.result (kind_of due) (key_of due) (id_of due) fields
    (respelled c.has_field.result fields 0 c.kind.result.now (kind_of due) c.has_field.ensures c.kind.ensures)
    c.if-not-has_field.true

pub returns-then-not-has_field-2 : goal.returns-then-not-has_field-2
returns-then-not-has_field-2 c =
    let due = c.args.due.now in
    let fields = fields_of c.args.fields.now in
    other_key c.has_field.result c.has_field-2.result (kind_of due) (key_of due) (id_of due) fields
    (respelled c.has_field.result fields 0 c.kind.result.now (kind_of due) c.has_field.ensures c.kind.ensures)
    c.if-not-has_field.false
    (respelled c.has_field-2.result fields 1 c.as_str.result.now (key_of due) c.has_field-2.ensures (c.as_str.ensures.value ∙ c.in_ok-key.ensures))
    c.if-not-has_field-2.true

pub returns-in-None : goal.returns-in-None
returns-in-None c =
    let due = c.args.due.now in
    let fields = fields_of c.args.fields.now in
    subst (λ (o : Option (List ℕ)). IsTrue false ↔ IsMislabelled (with_id (kind_of due) (key_of due) o) fields)
    (sym (ap (option_map (λ id. id.now)) c.in-None.is) ∙ c.id.ensures)
    (same_key c.has_field.result c.has_field-2.result (kind_of due) (key_of due) fields
    (respelled c.has_field.result fields 0 c.kind.result.now (kind_of due) c.has_field.ensures c.kind.ensures)
    c.if-not-has_field.false
    (respelled c.has_field-2.result fields 1 c.as_str.result.now (key_of due) c.has_field-2.ensures (c.as_str.ensures.value ∙ c.in_ok-key.ensures))
    c.if-not-has_field-2.false)

pub returns : goal.returns
returns c =
    let due = c.args.due.now in
    let fields = fields_of c.args.fields.now in
    subst (λ (o : Option (List ℕ)). IsTrue (not c.has_field-in-Some.result) ↔ IsMislabelled (with_id (kind_of due) (key_of due) o) fields)
    (sym (ap (option_map (λ id. id.now)) c.in-Some.is) ∙ c.id.ensures)
    (id_tested c.has_field.result c.has_field-2.result c.has_field-in-Some.result (kind_of due) (key_of due) c.in-Some.id.now fields
    (respelled c.has_field.result fields 0 c.kind.result.now (kind_of due) c.has_field.ensures c.kind.ensures)
    c.if-not-has_field.false
    (respelled c.has_field-2.result fields 1 c.as_str.result.now (key_of due) c.has_field-2.ensures (c.as_str.ensures.value ∙ c.in_ok-key.ensures))
    c.if-not-has_field-2.false
    c.has_field-in-Some.ensures)

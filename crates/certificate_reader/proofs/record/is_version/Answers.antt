use Rattle.std.proofs.Common.{◌≡◌, ◌∙◌}
use Rattle.std.specs.Prelude.{codes}
use Rattle.std.proofs.lemmas.Bool.Decides.{Decides-eqb}
use Rattle.std.proofs.lemmas.Slice.Eq.{slice_eq-Decides}
use Rattle.certificate_reader.proofs.Leaves.{no_bytes}
use Rattle.certificate_reader.proofs.record.is_version.Goals as goal

pub returns-then-eq : goal.returns-then-eq
returns-then-eq c =
    let one : c.args.value.now ≡ codes "1" = (slice_eq-Decides Decides-eqb _ _ _ c.eq.ensures).0 c.if-eq.true ∙ c.as_slice.ensures in
    let k = no_bytes c.args.key.now _ c.is_empty.ensures in
    (λ t. (k.0 t, one), λ p. k.1 p.0)

use Rattle.std.proofs.Common.{◌≡◌, List, All, true, sym, subst}
use Rattle.fb_types.specs.declared.rows.Mult.{Mult}
use Rattle.fb_certificate.specs.Lists.{is_kept}
use Rattle.row_removal.specs.Kinds.{kind_of}
use Rattle.certificate_check.proofs.cites.is_cited.Goals as goal

pub returns : goal.returns
returns c = λ cites m.
    let k = c.are_kept.ensures cites m in (
      λ t. record {
        listed = sym c.if-not-is_listed.ensures;
        cites_kept = subst (λ (ms : List Mult). All
            (λ m. is_kept (kind_of c.args.list.now.kind) c.args.list.now.rows.now cites m.row ≡ true) ms)
            c.as_slice.ensures.items (k.0 t);
      },
      λ h. k.1 (subst (λ (ms : List Mult). All
          (λ m. is_kept (kind_of c.args.list.now.kind) c.args.list.now.rows.now cites m.row ≡ true) ms)
          (sym c.as_slice.ensures.items) h.cites_kept),
    )

use Rattle.std.proofs.Common.{◌≡◌, refl, sym, take_all, true, take, get_or, pos}
use Rattle.std.proofs.lemmas.List.{take_more}
use Rattle.std.proofs.lemmas.List.Elements.{All-push, All-same}
use Rattle.fb_types.specs.declared.rows.Mult.{Mult}
use Rattle.fb_certificate.specs.Lists.{is_kept}
use Rattle.row_removal.specs.Kinds.{kind_of}
use Rattle.certificate_check.proofs.lists.CitedList.are_kept.Goals as goal

pub loop-m-preserved : goal.loop-m-preserved
loop-m-preserved c = λ cites m.
    let P = λ (x : Mult). is_kept (kind_of c.args.self.now.kind) c.args.self.now.rows.now cites x.row ≡ true in
    let none : Mult = record { row = 0; value = pos 0 } in
    All-same P _ _ (take_more c.args.mults.now c.loop-m.m-index none c.loop-m-test.true)
    (All-push P (take c.loop-m.m-index c.args.mults.now) (get_or c.args.mults.now c.loop-m.m-index none)
    (c.loop-m.invariant cites m) (sym (c.if-not-is_kept.ensures cites m)))

pub returns : goal.returns
returns c = λ cites m. (
  λ t. All-same (λ (x : Mult). is_kept (kind_of c.args.self.now.kind) c.args.self.now.rows.now cites x.row ≡ true) _ _
      (sym (take_all c.loop-m.m-index c.args.mults.now c.loop-m-test.false)) (c.loop-m.invariant cites m),
  λ h. refl,
)

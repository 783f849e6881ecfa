use Rattle.std.proofs.Common.{◌≡◌, take, All, true, List}
use Rattle.fb_certificate.specs.Lists.{is_kept}
use Rattle.fb_certificate.specs.declared.types.Cite.{Cite}
use Rattle.row_removal.specs.Kinds.{kind_of}
use Rattle.certificate_check.specs.CiteRulings.{HasCites}
use Rattle.certificate_check.proofs.lists.CitedList.are_kept.Given as goal

abbrev pub invariant-loop-m : goal.invariant-loop-m
invariant-loop-m l =
    (cites : List Cite) → HasCites cites l.self
    → All (λ m. is_kept (kind_of l.self.kind) l.self.rows.now cites m.row ≡ true) (take l.m-index l.mults)

use Rattle.std.proofs.Common.{take}
use Rattle.certificate_check.specs.CiteRulings.{AreMarks}
use Rattle.certificate_check.proofs.lists.removed_by.Given as goal

abbrev pub invariant-loop-cite : goal.invariant-loop-cite
invariant-loop-cite l = AreMarks (take l.cite-index l.cites) l.count l.marks.items

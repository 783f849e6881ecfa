use Rattle.std.proofs.Common.{◌≡◌, map, take}
use Rattle.fb_certificate.specs.declared.types.Cite.{Cite}
use Rattle.domain_report.proofs.cite_index.cited_rows.Given as goal

abbrev pub invariant-loop-cite : goal.invariant-loop-cite
invariant-loop-cite l = l.rows.items ≡ map (λ (cite : Cite). cite.row) (take l.cite-index l.cites)

use Rattle.std.proofs.Common.{◌∷◌, sym, ap, ◌∙◌, to_z-of_z}
use Rattle.number_lists.specs.Words.{parts_of}
use Rattle.certificate_reader.proofs.CitationLaws.{citation_parts, citation_is, head_same, tail_same}
use Rattle.certificate_reader.proofs.citations.read_citation.Goals as goal

pub returns-in_default : goal.returns-in_default
returns-in_default c = record {
  spelled = λ x g e. c.in_default.ensures.spelled x.mu g.mu (head_same _ _ _ _ (sym c.cut.ensures.split ∙ ap (parts_of 32) e ∙ citation_parts x g));
}

pub returns-in_default-2 : goal.returns-in_default-2
returns-in_default-2 c = record {
  spelled = λ x g e.
      (rw c.in_default-2.is at c.in_ok-mults.ensures.spelled) x.mults g.mults (tail_same _ _ _ _ (sym c.cut.ensures.split ∙ ap (parts_of 32) e ∙ citation_parts x g));
}

pub returns : goal.returns
returns c =
    let mu = c.in-Some.ensures.spelled in
    let mults = rw c.in-Some-2.is at c.in_ok-mults.ensures.spelled in
    record {
      spelled = rw (to_z-of_z mu.0) (
        record { mu = mu.0; mults = mults.0 },
        citation_is c.args.value.now (record { mu = c.in-Some.mu; mults = c.in-Some-2.mults }) (c.cut.ensures.split ∙ (λ i. mu.1 i ∷ mults.1 i)),
      );
    }

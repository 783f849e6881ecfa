use Rattle.std.proofs.Common.{◌++◌, ap, ◌∙◌}
use Rattle.std.specs.Prelude.{codes}
use Rattle.case_maker.specs.Pieces.{series_texts}
use Rattle.case_maker.proofs.Documents.{glsk_joined}
use Rattle.case_maker.proofs.zones.glsk_text.Goals as goal

pub returns : goal.returns
returns c =
    c.in_ok-push_str.ensures.bytes
    ∙ ap (λ t. t ++ codes "]}") (c.in_ok-put_all_series.ensures ∙ ap (λ t. t ++ series_texts) c.in_ok-text.ensures.ok)
    ∙ glsk_joined series_texts

use Rattle.std.proofs.Common.{◌++◌, ap, ◌∙◌}
use Rattle.std.specs.Prelude.{codes}
use Rattle.case_maker.specs.Pieces.{setting_texts}
use Rattle.case_maker.proofs.Documents.{settings_joined}
use Rattle.case_maker.proofs.zones.settings_text.Goals as goal

pub returns : goal.returns
returns c =
    c.in_ok-push_str.ensures.bytes
    ∙ ap (λ t. t ++ codes "]}") (c.in_ok-put_settings.ensures ∙ ap (λ t. t ++ setting_texts) c.in_ok-text.ensures.ok)
    ∙ settings_joined setting_texts

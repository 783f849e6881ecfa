use Rattle.std.proofs.Common.{◌≡◌, ◌++◌, ap, ◌∙◌, string_bytes}
use Rattle.std.specs.Prelude.{codes}
use Rattle.case_maker.specs.Naming.{zone_code}
use Rattle.case_maker.specs.ZoneTexts.{block_text}
use Rattle.case_maker.proofs.Documents.{series_begun, series_joined}
use Rattle.case_maker.proofs.zones.put_series.Goals as goal

pub returns : goal.returns
returns c =
    let old = string_bytes c.args.text.now in
    let code : string_bytes c.in_ok-code.code ≡ zone_code c.args.zone = c.in_ok-code.ensures in
    let generation = block_text (codes "GSK") 60 in
    let load = block_text (codes "LSK") 40 in
    c.in_ok-push_str-2.ensures.bytes
    ∙ ap (λ t. t ++ codes "]}") c.in_ok-put_block-2.ensures
    ∙ ap (λ t. t ++ load ++ codes "]}") c.in_ok-push_str.ensures.bytes
    ∙ ap (λ t. t ++ codes "," ++ load ++ codes "]}") c.in_ok-put_block.ensures
    ∙ ap (λ t. t ++ generation ++ codes "," ++ load ++ codes "]}") c.in_ok-write.ensures.bytes
    ∙ ap (λ t. old ++ series_begun t ++ generation ++ codes "," ++ load ++ codes "]}") code
    ∙ series_joined c.args.zone old

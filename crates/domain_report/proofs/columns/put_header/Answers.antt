use Rattle.std.proofs.lemmas.Result.{on_ok_weaker}
use Rattle.domain_report.specs.DomainTexts.{label_columns, side_columns, zone_columns, citation_columns}
use Rattle.domain_report.proofs.Parts.{four_parts}
use Rattle.domain_report.proofs.columns.put_header.Goals as goal

pub returns : goal.returns
returns c =
    on_ok_weaker c.put_texts.result
    (four_parts label_columns side_columns (zone_columns c.args.zones.now) citation_columns
    c.args.fields.now c.put_label_columns.new.fields c.put_side_columns.new.fields c.put_zone_columns.new.fields c.put_texts.new.fields
    c.in_ok-put_label_columns.ensures c.in_ok-put_side_columns.ensures c.in_ok-put_zone_columns.ensures) c.put_texts.ensures

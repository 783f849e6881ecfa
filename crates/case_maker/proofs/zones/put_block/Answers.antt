use Rattle.std.proofs.Common.{string_bytes}
use Rattle.case_maker.specs.ZoneTexts.{block_text}
use Rattle.case_maker.proofs.Documents.{block_printed}
use Rattle.case_maker.proofs.Printed.{appended}
use Rattle.case_maker.proofs.zones.put_block.Goals as goal

pub returns : goal.returns
returns c =
    appended c.write.result (string_bytes c.args.text.now) (string_bytes c.write.new.self) _ (block_text c.args.business.now c.args.share) c.write.ensures.bytes
    (block_printed c.args.business.now c.args.share)

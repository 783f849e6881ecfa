use Rattle.std.proofs.Common.{string_bytes}
use Rattle.case_maker.specs.Pieces.{limits_text}
use Rattle.case_maker.proofs.Documents.{limits_printed}
use Rattle.case_maker.proofs.Printed.{appended}
use Rattle.case_maker.proofs.crac.put_limits.Goals as goal

pub returns : goal.returns
returns c =
    appended c.write.result (string_bytes c.args.text.now) (string_bytes c.write.new.self) _ (limits_text c.args.margin c.args.limit) c.write.ensures.bytes
    (limits_printed c.args.margin c.args.limit)

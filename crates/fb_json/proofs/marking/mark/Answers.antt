use Rattle.fb_json.specs.Machine.{outside}
use Rattle.fb_json.specs.Marking.{without_byte_order_mark}
use Rattle.fb_json.proofs.Markings.{one_marking, is_marking, is_marking_of}
use Rattle.fb_json.proofs.marking.mark.Goals as goal

pub returns-clause-marks : goal.returns-clause-marks
returns-clause-marks c = is_marking_of c.args.bytes.now c.without_byte_order_mark.result.now c.mark_all.result c.without_byte_order_mark.ensures c.mark_all.ensures

pub returns-clause-some : goal.returns-clause-some
returns-clause-some c = (outside (without_byte_order_mark c.args.bytes.now), is_marking c.args.bytes.now)

pub returns-clause-only : goal.returns-clause-only
returns-clause-only c = λ one two p q. one_marking c.args.bytes.now one two p q

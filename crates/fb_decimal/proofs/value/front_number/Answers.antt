use Rattle.fb_decimal.specs.Pieces.{digits}
use Rattle.fb_decimal.proofs.Digits.{past_front}
use Rattle.fb_decimal.proofs.value.front_number.Goals as goal

pub returns-in-None : goal.returns-in-None
returns-in-None c = past_front _ (digits c.args.bytes.now) c.args.kept c.in-None.ensures

use Rattle.std.proofs.Common.{rules}
use Rattle.fb_decimal.proofs.Printed.{padded_six}
use Rattle.fb_decimal.proofs.print.joined.Goals as goal

pub returns : goal.returns
returns c = search (rules, simp (c.laid_out.ensures, padded_six) at c.format.ensures.ok)

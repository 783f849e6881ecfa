use Rattle.std.proofs.Common.{rules}
use Rattle.branch_spans.proofs.Pairs.{scaled_is}
use Rattle.branch_spans.proofs.scaled.Goals as goal

pub returns : goal.returns
returns c = scaled_is c.args.b _ c.args.span c.in-Some.span c.requires.positive (search rules) c.sound.ensures c.in-Some.ensures.exact.0 c.in-Some.ensures.exact.1

use Rattle.redundancy.proofs.Changing.{back}
use Rattle.redundancy.proofs.several.search_without.Goals as goal

pub returns-clause-same : goal.returns-clause-same
returns-clause-same c = back c.args.kept.now c.args.k c.requires.is_kept

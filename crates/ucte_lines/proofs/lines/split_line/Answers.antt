use Rattle.std.proofs.Common.{arith, sym, ◌∙◌}
use Rattle.std.proofs.lemmas.List.{get_or_read}
use Rattle.ucte_lines.proofs.Cuts.{split_at, split_none}
use Rattle.ucte_lines.proofs.lines.split_line.Goals as goal

pub returns-then-c-eq10-clause-lines : goal.returns-then-c-eq10-clause-lines
returns-then-c-eq10-clause-lines c = split_at c.args.text.now c.loop-at.at (omega arith) c.loop-at.invariant (sym (get_or_read c.args.text.now c.loop-at.at _ (omega arith) c.index-text-at.is 0) ∙ c.if-c-eq10.true)

pub returns-clause-lines : goal.returns-clause-lines
returns-clause-lines c = split_none c.args.text.now c.loop-at.at c.requires (omega arith) c.loop-at.invariant

use Rattle.std.proofs.Common.{arith, sym, ap, ◌∙◌}
use Rattle.std.proofs.lemmas.List.{get_or_read}
use Rattle.ucte_lines.specs.Lines.{is_blank}
use Rattle.ucte_lines.proofs.Cuts.{before_at, before_none}
use Rattle.ucte_lines.proofs.lines.before_blank.Goals as goal

pub returns-then-is_blank : goal.returns-then-is_blank
returns-then-is_blank c = before_at c.args.text.now c.loop-at.at (omega arith) c.loop-at.invariant (ap is_blank (sym (get_or_read c.args.text.now c.loop-at.at _ (omega arith) c.index-text-at.is 0)) ∙ sym c.is_blank.ensures ∙ c.if-is_blank.true)

pub returns : goal.returns
returns c = before_none c.args.text.now c.loop-at.at (omega arith) (omega arith) c.loop-at.invariant

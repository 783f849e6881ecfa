use Rattle.std.proofs.Common.{arith, sym, ap, ◌∙◌}
use Rattle.std.proofs.lemmas.List.{get_or_read}
use Rattle.ucte_lines.specs.Lines.{is_blank}
use Rattle.ucte_lines.proofs.Cuts.{leading_at, leading_none}
use Rattle.ucte_lines.proofs.fields.without_leading.Goals as goal

pub returns-then-not-is_blank : goal.returns-then-not-is_blank
returns-then-not-is_blank c = leading_at c.args.text.now c.loop-at.at (omega arith) c.loop-at.invariant (ap is_blank (sym (get_or_read c.args.text.now c.loop-at.at _ (omega arith) c.index-text-at.is 0)) ∙ sym c.is_blank.ensures ∙ c.if-not-is_blank.true)

pub returns : goal.returns
returns c = leading_none c.args.text.now c.loop-at.at (omega arith) (omega arith) c.loop-at.invariant

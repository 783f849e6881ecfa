use Rattle.std.proofs.Common.{[], refl, ap, sym, subst, ◌∙◌}
use Rattle.fb_decimal.specs.Reading.{ReadsAs, decimal_of}
use Rattle.fb_decimal.proofs.Law.{reads_as, reads_spelling, reads_empty, reads_bad}
use Rattle.fb_decimal.proofs.read_decimal.Goals as goal

pub returns-clause-reads : goal.returns-clause-reads
returns-clause-reads c = subst (λ r. ReadsAs c.args.text.now r) (ap decimal_of (sym c.as_bytes.ensures.value) ∙ sym c.read.ensures) (reads_as c.args.text.now)

pub returns-clause-spelled : goal.returns-clause-spelled
returns-clause-spelled c = λ s. c.read.ensures ∙ ap decimal_of c.as_bytes.ensures.value ∙ reads_spelling c.args.text.now s

pub returns-clause-empty : goal.returns-clause-empty
returns-clause-empty c = λ e. c.read.ensures ∙ ap decimal_of c.as_bytes.ensures.value ∙ reads_empty c.args.text.now e

pub returns-clause-bad : goal.returns-clause-bad
returns-clause-bad c = λ at ne f. c.read.ensures ∙ ap decimal_of c.as_bytes.ensures.value ∙ reads_bad c.args.text.now at ne f

pub returns-clause-grammar : goal.returns-clause-grammar
returns-clause-grammar c = record { reads = reads_as; spelled = reads_spelling; empty = reads_empty [] refl; bad = reads_bad }

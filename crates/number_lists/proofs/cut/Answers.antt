use Rattle.std.proofs.Common.{◌==◌, take_all, rules}
use Rattle.std.proofs.lemmas.List.{take_rest}
use Rattle.std.proofs.lemmas.List.Splits.{slice_split_none}
use Rattle.number_lists.specs.WordLaws.{parts_read, more_free}
use Rattle.number_lists.proofs.cut.Goals as goal

pub returns-then-text-at-clause-split : goal.returns-then-text-at-clause-split
returns-then-text-at-clause-split c = rw take_rest (parts_read c.args.mark c.args.text.now c.loop-at.at 0 (search rules) (search rules) c.loop-at.invariant)

pub loop-at-preserved : goal.loop-at-preserved
loop-at-preserved c = more_free c.args.mark c.args.text.now c.loop-at.at 0 (search rules) (search rules) c.loop-at.invariant

pub returns-clause-split : goal.returns-clause-split
returns-clause-split c = slice_split_none (λ b. b == c.args.mark) _ (rw (take_all _ _ c.loop-at-test.false) at c.loop-at.invariant)

use Rattle.std.proofs.Common.{List, subst}
use Rattle.std.proofs.lemmas.List.{take_all}
use Rattle.fb_types.specs.declared.keys.Column.{Column}
use Rattle.state_proofs.specs.Enclosed.{AreEnclosed}
use Rattle.state_proofs.specs.StateProofs.{all_blocks}
use Rattle.state_proofs.proofs.Joined.{key_added}
use Rattle.state_proofs.proofs.columns.enclosed_keys.Goals as goal

pub loop-column-preserved : goal.loop-column-preserved
loop-column-preserved c =
    key_added c.args.state.now c.args.columns.now c.loop-column.column-index c.column-item.result c.loop-column.enclosed c.add_blocks.new.enclosed c.loop-column-test.true c.column-item.is
    c.loop-column.invariant (rw c.as_slice.ensures.items at c.in_ok-add_blocks.ensures)

pub returns : goal.returns
returns c =
    subst (λ (cs : List Column). AreEnclosed c.args.state.now (all_blocks cs) c.loop-column.enclosed) (take_all c.loop-column.column-index c.args.columns.now c.loop-column-test.false) c.loop-column.invariant

use Rattle.std.proofs.Common.{List, ℤ, length, ap, ◌∙◌}
use Rattle.state_proofs.proofs.Rooms.{length_reference}
use Rattle.certificate_check.proofs.blocks.reference_fault.Goals as goal

pub column_fault-requires-clause-p_length : goal.column_fault-requires-clause-p_length
column_fault-requires-clause-p_length c =
    ap (λ (p : List ℤ). length p) c.as_slice.ensures.items
    ∙ length_reference c.args.state.now c.args.grid.now c.in_ok-p.p c.in_ok-p.ensures.value

use Rattle.fbcc_core.proofs.selftest_command.tree_said.Goals as goal

pub returns-clause-fault : goal.returns-clause-fault
returns-clause-fault c = rw c.as_text.ensures.bytes at (rw c.as_bytes.ensures.value at c.tree_in.ensures.fault)

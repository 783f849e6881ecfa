use Rattle.fb_certificate.proofs.WholeLaws.{are_keys, keys_at_nodes}
use Rattle.domain_maker.proofs.states.StateProverWork.run.Goals as goal

pub prove_after-requires-clause-keys : goal.prove_after-requires-clause-keys
prove_after-requires-clause-keys c = are_keys c.args.self.now.inputs.now c.requires.0

pub prove_after-requires-clause-nodes : goal.prove_after-requires-clause-nodes
prove_after-requires-clause-nodes c = keys_at_nodes c.args.self.now.inputs.now c.requires.0

use Rattle.std.proofs.Common.{inl, refl}
use Rattle.fbcc_core.proofs.understanding.tree_in.Goals as goal

pub returns-in-Err-NotJson-clause-fault : goal.returns-in-Err-NotJson-clause-fault
returns-in-Err-NotJson-clause-fault c = inl (refl, c.in-Err-NotJson.ensures.not_json c.in-Err-NotJson.field-0-is)

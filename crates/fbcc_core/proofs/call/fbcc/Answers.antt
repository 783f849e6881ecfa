use Rattle.fbcc_core.proofs.Answered.{kept_caused, misused_kept, usage_kept, refuses, judges, completes, verifies, prints_capacity, checks_capacity, prints_summary}
use Rattle.fbcc_core.proofs.call.fbcc.Goals as goal

pub returns-clause-usage : goal.returns-clause-usage
returns-clause-usage g c = λ e. c.answer_to-answer.ensures.usage (usage_kept _ _ c.tell-fault.ensures.kept e)

pub returns-clause-misused : goal.returns-clause-misused
returns-clause-misused g c = λ unasked. misused_kept _ _ c.tell-fault.ensures.kept (c.answer_to-answer.ensures.misused unasked)

pub returns-clause-caused : goal.returns-clause-caused
returns-clause-caused g c = kept_caused _ _ _ _ _ c.tell-fault.ensures.kept c.answer_to-answer.ensures.caused

pub returns-clause-refuses : goal.returns-clause-refuses
returns-clause-refuses g c = refuses _ _ _ _ (kept_caused _ _ _ _ _ c.tell-fault.ensures.kept c.answer_to-answer.ensures.caused)

pub returns-clause-judges : goal.returns-clause-judges
returns-clause-judges g c = judges _ _ _ _ (kept_caused _ _ _ _ _ c.tell-fault.ensures.kept c.answer_to-answer.ensures.caused)

pub returns-clause-completes : goal.returns-clause-completes
returns-clause-completes g c = completes _ _ _ _ (kept_caused _ _ _ _ _ c.tell-fault.ensures.kept c.answer_to-answer.ensures.caused)

pub returns-clause-capacity : goal.returns-clause-capacity
returns-clause-capacity g c = prints_capacity _ _ _ _ (kept_caused _ _ _ _ _ c.tell-fault.ensures.kept c.answer_to-answer.ensures.caused)

pub returns-clause-verifies : goal.returns-clause-verifies
returns-clause-verifies g c = verifies _ _ _ _ (kept_caused _ _ _ _ _ c.tell-fault.ensures.kept c.answer_to-answer.ensures.caused)

pub returns-clause-checked : goal.returns-clause-checked
returns-clause-checked g c = checks_capacity _ _ _ _ (kept_caused _ _ _ _ _ c.tell-fault.ensures.kept c.answer_to-answer.ensures.caused)

pub returns-clause-tested : goal.returns-clause-tested
returns-clause-tested g c = prints_summary _ _ _ _ (kept_caused _ _ _ _ _ c.tell-fault.ensures.kept c.answer_to-answer.ensures.caused)

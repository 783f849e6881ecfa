use Rattle.std.proofs.Common.{◌∙◌, refl, sym}
use Rattle.std.proofs.lemmas.Option.{same_Some}
use Rattle.fbcc_core.proofs.Asking.{comes, generated_case, named_in, not_built, workers_in_range}
use Rattle.fbcc_core.proofs.NoUsage.{work_told}
use Rattle.fbcc_core.proofs.PutCauses.{put_caused, refusal_caused}
use Rattle.fbcc_core.proofs.call.answer_to.Goals as goal

pub do_work-requires-clause-named : goal.do_work-requires-clause-named
do_work-requires-clause-named g c = λ κs within. named_in _ c.in-Ok.request c.in-Some.command c.in-Ok.ensures.ok (sym c.in-Some.ensures)

pub do_work-requires-clause-workers : goal.do_work-requires-clause-workers
do_work-requires-clause-workers g c = λ κs within. workers_in_range _ c.in-Ok.request c.in-Ok.ensures.ok

pub returns-in_default-clause-usage : goal.returns-in_default-clause-usage
returns-in_default-clause-usage g c = λ e. not_built _ c.in-Ok.request c.in-Ok.ensures.ok (sym c.command_in.ensures ∙ c.in_default.is)

pub returns-in-Err-clause-usage : goal.returns-in-Err-clause-usage
returns-in-Err-clause-usage g c = λ e. absurd (work_told _ _ c.in-Some.command c.in-Err.fault (same_Some _ _ e) c.in-Err.ensures.steps)

pub returns-in-Err-clause-generated : goal.returns-in-Err-clause-generated
returns-in-Err-clause-generated g c = λ h. c.in-Err.ensures.generated (generated_case _ c.in-Ok.request c.in-Some.command c.in-Ok.ensures.ok (sym c.in-Some.ensures) h)

pub returns-in-Ok-do_work-clause-caused : goal.returns-in-Ok-do_work-clause-caused
returns-in-Ok-do_work-clause-caused g c =
    put_caused _ _ _ c.put_work.result c.in-Ok-do_work.work
    (comes _ c.in-Ok.request _ c.in-Some.command _ c.in-Ok.ensures.ok (sym c.in-Some.ensures) c.in-Ok-do_work.ensures.steps) c.put_work.ensures

pub returns-in-Err-clause-caused : goal.returns-in-Err-clause-caused
returns-in-Err-clause-caused g c =
    refusal_caused _ _ _ c.in-Err.fault
    (comes _ c.in-Ok.request _ c.in-Some.command _ c.in-Ok.ensures.ok (sym c.in-Some.ensures) c.in-Err.ensures.steps)
    (record { taken = refl; faults = refl })

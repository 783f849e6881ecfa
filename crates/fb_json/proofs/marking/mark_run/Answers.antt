use Rattle.fb_json.proofs.Markings.{run_put}
use Rattle.fb_json.proofs.marking.mark_run.Goals as goal

pub returns-clause-marks : goal.returns-clause-marks
returns-clause-marks c =
    run_put c.args.out.now.items c.put_run.new.out.items c.split_at.result.0.now c.split_at.result.1.now c.args.bytes.now c.run_len.result c.split_at.ensures.front c.split_at.ensures.back c.run_len.ensures.run c.in_ok-put_run.ensures

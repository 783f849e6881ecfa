use Rattle.fb_json.proofs.Numbers.{is_number_exact}
use Rattle.fb_json.proofs.number.is_number.Goals as goal

pub returns-clause-exact : goal.returns-clause-exact
returns-clause-exact c = is_number_exact c.args.run.now c.is_gone_through.result c.is_gone_through.ensures

use Rattle.ucte_reader.proofs.RegulationLaws.{Makes-shift}
use Rattle.ucte_reader.proofs.regulations.read_shift.Goals as goal

pub returns : goal.returns
returns c = Makes-shift c.args.line.now c.in_ok-setting.setting c.phase.result c.in_ok-setting.ensures.1 c.in_ok-setting.ensures.0 c.phase.ensures

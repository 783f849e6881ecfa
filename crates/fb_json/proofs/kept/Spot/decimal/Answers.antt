use Rattle.fb_json.specs.Spots.{spot_tree}
use Rattle.fb_json.proofs.Numbers.{number_is_read}
use Rattle.fb_json.proofs.kept.Spot.decimal.Goals as goal

pub returns-clause-number : goal.returns-clause-number
returns-clause-number c = λ run n is. number_is_read (spot_tree c.args.self.now) c.number_of.result run c.number_of.ensures n is

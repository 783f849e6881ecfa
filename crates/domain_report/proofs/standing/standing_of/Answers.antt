use Rattle.domain_report.proofs.Cites.{kept_word, removed_word}
use Rattle.domain_report.proofs.standing.standing_of.Goals as goal

pub returns-in-None-clause-word : goal.returns-in-None-clause-word
returns-in-None-clause-word c = kept_word c.args.is_listed c.args.cites.now.cites.now c.args.number c.if-not-is_listed.false c.in-None.ensures

pub returns-in-Some-clause-word : goal.returns-in-Some-clause-word
returns-in-Some-clause-word c = removed_word c.args.is_listed c.args.cites.now.cites.now c.args.number c.in-Some.cite.now c.if-not-is_listed.false c.in-Some.ensures

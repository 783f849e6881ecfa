use Rattle.std.proofs.Common.{ap, ◌∙◌, arith}
use Rattle.std.specs.Option.{option_copied}
use Rattle.domain_report.proofs.Cites.{entry, cite_none, cite_at, copied_at, table_long}
use Rattle.domain_report.proofs.cite_index.CiteIndex.cite_of.Goals as goal

pub index-requires : goal.index-requires
index-requires c =
    let long = table_long c.requires.count c.args.self.now.cites.now c.args.self.now.places.items c.requires.places in
    omega (arith, c.requires.above, long)

pub returns-in_err-place : goal.returns-in_err-place
returns-in_err-place c =
    ap option_copied c.from_residual.ensures
    ∙ cite_none c.args.self.now.cites.now c.args.number
    (entry c.requires.count c.args.self.now.cites.now c.args.self.now.places.items c.args.number c.index.result.now c.requires.places c.requires.above c.index.ensures ∙ c.in_err-place.was)

pub returns : goal.returns
returns c =
    copied_at c.args.self.now.cites.now c.in_ok-place.place c.get.result c.get.ensures.lookup.1 c.get.ensures.lookup.3
    ∙ cite_at c.args.self.now.cites.now c.args.number c.in_ok-place.place
    (entry c.requires.count c.args.self.now.cites.now c.args.self.now.places.items c.args.number c.index.result.now c.requires.places c.requires.above c.index.ensures ∙ c.in_ok-place.was)

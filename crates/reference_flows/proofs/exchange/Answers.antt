use Rattle.std.proofs.Common.{◌*◌, nat_abs, sym, subst, rules}
use Rattle.fb_span.specs.Ends.{EndsWithin}
use Rattle.reference_flows.proofs.Sizes.{exchange_within, exchange_fits}
use Rattle.reference_flows.proofs.exchange.Goals as goal

pub unreachable-requires : goal.unreachable-requires
unreachable-requires c = c.in-None.ensures.exact (exchange_fits c.args.position _ c.args.factor (search rules) c.requires.position_in c.requires.factor_in)

pub returns-clause-value : goal.returns-clause-value
returns-clause-value c = search rules

pub returns-clause-within : goal.returns-clause-within
returns-clause-within c = subst (EndsWithin (nat_abs c.args.position * 1_000_000_000_000)) (sym (returns-clause-value c)) (exchange_within c.args.position c.args.factor c.requires.factor_in)

use Rattle.std.proofs.Common.{List, pos, get_or, refl, subst, take_all}
use Rattle.std.specs.List.{All}
use Rattle.fb_span.specs.Ends.{EndsWithin}
use Rattle.fb_types.specs.declared.rows.Bounds.{Bounds}
use Rattle.domain_rows.specs.Brackets.{ends_of_box}
use Rattle.domain_rows.proofs.Sizes.{sized_more, greater_small}
use Rattle.domain_rows.proofs.bound_size.Goals as goal

abbrev none : Bounds
none = record { low = pos 0; high = pos 0 }

pub loop-zone-preserved : goal.loop-zone-preserved
loop-zone-preserved c =
    let bounds = c.args.bounds.now in
    let here = get_or bounds c.loop-zone.zone none in
    record {
      within = sized_more ends_of_box bounds c.loop-zone.zone none here c.loop-zone.greatest c.size-size.result c.max-greatest.result c.loop-zone-test.true refl c.loop-zone.invariant.within
          (subst (EndsWithin c.size-size.result) c.positions.ensures.value c.size-size.ensures.within) c.max-greatest.ensures;
      few = greater_small c.loop-zone.greatest c.size-size.result c.max-greatest.result 100_000_000_000 c.max-greatest.ensures c.loop-zone.invariant.few (c.size-size.ensures.least 100_000_000_000 c.positions.ensures.within);
    }

pub returns : goal.returns
returns c = record {
  within = subst (λ (bs : List Bounds). All (λ b. EndsWithin c.loop-zone.greatest (ends_of_box b)) bs) (take_all c.loop-zone.zone c.args.bounds.now c.loop-zone-test.false) c.loop-zone.invariant.within;
  few = c.loop-zone.invariant.few;
}

use Rattle.std.proofs.Common.{◌≡◌, ℕ, ◌*◌, ◌^◌, ℤ, pos, ◌+ℤ◌, ◌*ℤ◌, sym, ap, ◌∙◌, lit<, length, arith, to_z-of_z, get_or}
use Rattle.std.specs.Prelude.{Option, Some, slice_get}
use Rattle.std.proofs.lemmas.Option.{slice_get-get_or}
use Rattle.whole_laws.specs.SumLaws.{sum_below-more}
use Rattle.fb_types.specs.Domain.{combined_side, greatest_rest, greatest, remainder}
use Rattle.fb_types.specs.declared.rows.Bounds.{Bounds}
use Rattle.row_weighing.proofs.Wide.{zone_added, verdict, fits}
use Rattle.row_weighing.proofs.covers.Goals as goal

pub loop-zone-preserved : goal.loop-zone-preserved
loop-zone-preserved c =
    let z = c.loop-zone.zone in
    let bounds = c.args.bounds.now in
    let rest = c.rest_at-rest.ensures in
    let q = remainder c.args.target.now c.args.rows.now c.args.by.now in
    let zone_is : slice_get bounds z ≡ Some (get_or bounds z (record { low = pos 0; high = pos 0 })) = slice_get-get_or bounds z (record { low = pos 0; high = pos 0 }) c.loop-zone-test.true in
    let here : c.greatest_at-most.result ≡ greatest (slice_get bounds z) (q z) =
    c.greatest_at-most.ensures.exact
    ∙ ap (λ (t : ℤ). greatest (Some (get_or bounds z (record { low = pos 0; high = pos 0 }))) t) (to_z-of_z (fits (3 * 10 ^ 24) c.rest_at-rest.result rest.small (lit< tt)) ∙ rest.exact)
    ∙ ap (λ (o : Option Bounds). greatest o (q z)) (sym zone_is) in
    zone_added z _ _ _ _ _ (omega (arith, c.loop-zone-test.true, c.requires.bounds_in_range.few)) c.loop-zone.invariant.0 c.loop-zone.invariant.1 here c.greatest_at-most.ensures.small _ (sum_below-more z (λ k. greatest (slice_get bounds k) (q k)))

pub returns : goal.returns
returns c =
    let all : c.loop-zone.zone ≡ length c.args.bounds.now = omega arith in
    let most = c.loop-zone.invariant.0 ∙ ap (λ (n : ℕ). (combined_side c.args.rows.now c.args.by.now.mults *ℤ pos (10 ^ 12)) +ℤ greatest_rest c.args.target.now c.args.rows.now c.args.by.now c.args.bounds.now n) all in
    verdict _ _ c.args.target.now.r _ most c.requires.target_over.side c.from.ensures

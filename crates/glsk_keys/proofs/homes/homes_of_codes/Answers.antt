use Rattle.std.proofs.Common.{ℕ, List, subst, arith}
use Rattle.glsk_keys.specs.Homes.{AreNoted}
use Rattle.glsk_keys.proofs.HomeLaws.{next_home, all_homes}
use Rattle.glsk_keys.proofs.homes.homes_of_codes.Goals as goal

pub loop-place-preserved : goal.loop-place-preserved
loop-place-preserved c =
    next_home c.loop-place.table c.note_codes.new.table c.args.zones.now c.loop-place.place c.index-zones-place.result c.loop-place-test.true c.index-zones-place.is
    (subst (λ (codes : List (List ℕ)). AreNoted c.loop-place.table c.note_codes.new.table codes c.loop-place.place) c.as_slice.ensures.items c.in_ok-note_codes.ensures) c.loop-place.invariant

pub returns : goal.returns
returns c = all_homes c.loop-place.table c.args.zones.now c.loop-place.place (omega arith) c.loop-place.invariant

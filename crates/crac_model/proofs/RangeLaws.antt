-- The ranges of margins and limits that were read.
use Rattle.std.proofs.Common.{◌≡◌, ℕ, ◌^◌, List, [], ◌∷◌, ◌++◌, Option, Some, None, Ok, ℤ, pos, subst, arith}
use Rattle.std.specs.Prelude.{◌≤ℤ◌, neg_ℤ, ◌&&◌, ◌||◌, not, codes, is_none, is_some, int_lt, if◌then◌else◌, IfSome, true}
use Rattle.std.specs.Int.{int_min}
use Rattle.std.specs.List.{All}
use Rattle.std.specs.Option.{option_map, option_to_list}
use Rattle.std.proofs.lemmas.Int.{ints, clamps}
use Rattle.std.proofs.lemmas.List.Elements.{All-push, All-nil, All-head, All-tail}
use Rattle.fb_json.specs.Tree.{text_of, decimal_of}
use Rattle.json_reading.specs.Place.{in_member}
use Rattle.json_reading.specs.Reading.{At, fault_here, fault_in, refuse_if, found_or, has, required, optional, required_array}
use Rattle.json_reading.proofs.Kept.{bind_ok, refuse_if_ok, required_array_keeps}
use Rattle.crac_model.specs.Words.{unit_of, is_within}
use Rattle.crac_model.specs.Naming.{NamedGrid}
use Rattle.crac_model.specs.Power.{most_watts}
use Rattle.crac_model.specs.Ratings.{amounts, ratings_at}
use Rattle.crac_model.specs.Thresholds.{side_in, bound_in, watts_of, watts_up_to_cap, threshold_limit, threshold_of, smaller, smallest, directs, opposites, tightest, limits_of}
use Rattle.crac_model.specs.Crac.{margin_watts, margin_in, margin_of, rated_limits}
use Rattle.crac_model.specs.Laws.{IsLimit}
use Rattle.crac_model.specs.declared.fault.CracKind.{CracKind}
use Rattle.crac_model.specs.declared.fault.CracKind.TheVariants.{WrongType, OutOfRange, LimitNotPositive, NoLimit, BothMargins}
use Rattle.crac_model.specs.declared.limits.LimitUnit.{LimitUnit}
use Rattle.crac_model.specs.declared.limits.Limits.{Limits}
use Rattle.crac_model.specs.declared.ratings.Ratings.{Ratings}
use Rattle.crac_model.specs.declared.ratings.Side.{Side}
use Rattle.json_reading.proofs.Tests.{both, not_not, at_most, not_below}
use Rattle.crac_model.proofs.TestLaws.{one_is_there, same_value}

-- ---- margins

abbrev IsMargin : ℤ → Type 0
IsMargin watts = (pos 0 ≤ℤ watts) × (watts ≤ℤ pos (10 ^ 11))

margin_in_ok : (name : List ℕ) (at : At CracKind) (watts : ℤ) → margin_in name at ≡ Ok watts → IsMargin watts
unfolding margin_in
margin_in_ok name at watts e =
    let value = bind_ok (optional decimal_of name at) _ watts e in
    let z : ℤ = margin_watts value.0 in
    let fits = bind_ok (refuse_if (not (is_within (pos 0) (pos most_watts) z)) (fault_in name OutOfRange at)) _ watts value.2 in
    let ends = both _ _ (not_not (is_within (pos 0) (pos most_watts) z) (refuse_if_ok (not (is_within (pos 0) (pos most_watts) z)) (in_member at.place name) OutOfRange fits.0 fits.1)) in
    let same : z ≡ watts = same_value z watts fits.2 in
    subst IsMargin same (at_most (pos 0) z ends.0, at_most z (pos most_watts) ends.1)

pub margin_ok : (at : At CracKind) (watts : ℤ) → margin_of at ≡ Ok watts → (pos 0 ≤ℤ watts) × (watts ≤ℤ pos (10 ^ 11))
unfolding margin_of
margin_ok at watts e =
    let long = bind_ok (has (codes "reliabilityMargin") at) _ watts e in
    let short = bind_ok (has (codes "frm") at) _ watts long.2 in
    let one = bind_ok (refuse_if (short.0 && long.0) (fault_here BothMargins at)) _ watts short.2 in
    margin_in_ok (if short.0 then codes "frm" else codes "reliabilityMargin") at watts one.2

-- ---- limits

up_to_cap_ok : (watts : ℤ) → pos 1 ≤ℤ watts → IsLimit (watts_up_to_cap watts)
up_to_cap_ok watts h = (omega (arith, ints, clamps, h), omega (arith, ints, clamps))

limit_ok : (ratings : Ratings) (unit : LimitUnit) (side : Side) (value : Option ℤ) (at : At CracKind) (limit : Option ℤ) → threshold_limit ratings unit side value at ≡ Ok limit → IfSome limit IsLimit
unfolding threshold_limit
limit_ok ratings unit side None at limit e =
    let same : None ≡ limit = cc in
    subst (λ (o : Option ℤ). IfSome o IsLimit) same tt
limit_ok ratings unit side (Some value) at limit e =
    let watts = bind_ok (watts_of ratings unit side value at) _ limit e in
    let positive = bind_ok (refuse_if (int_lt watts.0 (pos 1)) (fault_here LimitNotPositive at)) _ limit watts.2 in
    let same : Some (watts_up_to_cap watts.0) ≡ limit = cc in
    let least = not_below watts.0 (pos 1) (refuse_if_ok (int_lt watts.0 (pos 1)) at.place LimitNotPositive positive.0 positive.1) in
    subst (λ (o : Option ℤ). IfSome o IsLimit) same (up_to_cap_ok watts.0 least)

record AreLimits (limits : Limits) : Type 0 where
  direct : IfSome limits.direct IsLimit
  opposite : IfSome limits.opposite IsLimit

threshold_step : (ratings : Ratings) (before : List Limits) (at : At CracKind) (item : Option Limits) → threshold_of ratings before at ≡ Ok item → All AreLimits before → All AreLimits (before ++ option_to_list item)
unfolding threshold_of
threshold_step ratings before at item e so_far =
    let word = bind_ok (required text_of (codes "unit") at) _ item e in
    let unit = bind_ok (found_or (unit_of word.0) (fault_in (codes "unit") WrongType at)) _ item word.2 in
    let side = bind_ok (side_in at) _ item unit.2 in
    let low = bind_ok (bound_in (codes "min") at) _ item side.2 in
    let high = bind_ok (bound_in (codes "max") at) _ item low.2 in
    let direct = bind_ok (threshold_limit ratings unit.0 side.0 high.0 at) _ item high.2 in
    let opposite = bind_ok (threshold_limit ratings unit.0 side.0 (option_map neg_ℤ low.0) at) _ item direct.2 in
    let read : Limits = record { direct = direct.0; opposite = opposite.0 } in
    let same : Some read ≡ item = same_value (Some read) item opposite.2 in
    let is : AreLimits read = record {
      direct = limit_ok ratings unit.0 side.0 high.0 at direct.0 direct.1;
      opposite = limit_ok ratings unit.0 side.0 (option_map neg_ℤ low.0) at opposite.0 opposite.1;
    } in
    subst (λ (o : Option Limits). All AreLimits (before ++ option_to_list o)) {x = Some read} same (All-push AreLimits before read so_far is)

least_ok : (a b : ℤ) → IsLimit a → IsLimit b → IsLimit (int_min a b)
least_ok a b l r = (omega (arith, ints, clamps, l.0, r.0), omega (arith, ints, clamps, l.1, r.1))

smaller_ok : (a b : Option ℤ) → IfSome a IsLimit → IfSome b IsLimit → IfSome (smaller a b) IsLimit
smaller_ok None b l r = r
smaller_ok (Some a) None l r = l
smaller_ok (Some a) (Some b) l r = least_ok a b l r

directs_ok : (ts : List Limits) → All AreLimits ts → IfSome (smallest (directs ts)) IsLimit
directs_ok [] all = tt
directs_ok (t ∷ ts) all = smaller_ok t.direct (smallest (directs ts)) (All-head AreLimits t ts all).direct (directs_ok ts (All-tail AreLimits t ts all))

opposites_ok : (ts : List Limits) → All AreLimits ts → IfSome (smallest (opposites ts)) IsLimit
opposites_ok [] all = tt
opposites_ok (t ∷ ts) all = smaller_ok t.opposite (smallest (opposites ts)) (All-head AreLimits t ts all).opposite (opposites_ok ts (All-tail AreLimits t ts all))

pub record HasLimits (limits : Limits) : Type 0 where
  pub direct : IfSome limits.direct IsLimit
  pub opposite : IfSome limits.opposite IsLimit
  pub limited : (is_some limits.direct || is_some limits.opposite) ≡ true

limits_ok : (ratings : Ratings) (at : At CracKind) (limits : Limits) → limits_of ratings at ≡ Ok limits → HasLimits limits
unfolding limits_of tightest
limits_ok ratings at limits e =
    let thresholds = bind_ok (required_array (threshold_of ratings) (codes "thresholds") at) _ limits e in
    let none = is_none (smallest (directs thresholds.0)) && is_none (smallest (opposites thresholds.0)) in
    let some = bind_ok (refuse_if none (fault_here NoLimit at)) _ limits thresholds.2 in
    let same : tightest thresholds.0 ≡ limits = cc in
    let all = required_array_keeps (All AreLimits) (threshold_of ratings) (threshold_step ratings) (codes "thresholds") at thresholds.0 (All-nil AreLimits) thresholds.1 in
    subst HasLimits same (record {
      direct = directs_ok thresholds.0 all;
      opposite = opposites_ok thresholds.0 all;
      limited = one_is_there (smallest (directs thresholds.0)) (smallest (opposites thresholds.0)) (refuse_if_ok none at.place NoLimit some.0 some.1);
    })

pub rated_ok : (grid : NamedGrid) (place : ℕ) (at : At CracKind) (limits : Limits) → rated_limits grid place at ≡ Ok limits → HasLimits limits
unfolding rated_limits
rated_ok grid place at limits e =
    let currents = bind_ok (amounts (pos 0) (pos (10 ^ 12)) (codes "iMax") at) _ limits e in
    let voltages = bind_ok (amounts (pos 1000) (pos (10 ^ 9)) (codes "nominalV") at) _ limits currents.2 in
    limits_ok (ratings_at grid place currents.0 voltages.0) at limits voltages.2

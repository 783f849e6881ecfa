-- What holds of settings that were read.
use Rattle.std.proofs.Common.{◌≡◌, ℕ, suc, ◌+◌, ◌^◌, ◌/◌, ◌<◌, ◌≤◌, Bool, true, false, cond, List, [], ◌∷◌, ◌++◌, length, Option, Some, None, Ok, ℤ, pos, refl, sym, ap, ◌∙◌, subst, arith}
use Rattle.std.specs.Prelude.{◌≤ℤ◌, ◌||◌, ◌==◌, not, codes, unwrap_or, nat_abs, nat_lt, int_lt, IfSome}
use Rattle.std.specs.Option.{option_to_list}
use Rattle.std.specs.Str.{bytes_eq}
use Rattle.std.proofs.lemmas.Int.{ints}
use Rattle.std.proofs.lemmas.List.{map_push}
use Rattle.std.proofs.lemmas.List.Elements.{All-push, All-nil}
use Rattle.whole_laws.specs.Sums.{IsWithin}
use Rattle.name_tables.specs.Names.{is_among, value_at, numbered_from}
use Rattle.name_tables.specs.Padding.{padded_name}
use Rattle.serde_json.specs.Data.{Data}
use Rattle.fb_decimal.specs.declared.Decimal.{Decimal}
use Rattle.fb_json.specs.Tree.{text_of, decimal_of, truth_of, length_of}
use Rattle.json_reading.specs.Place.{in_member}
use Rattle.json_reading.specs.Reading.{At, fault_here, fault_in, refuse_if, found_or, required, optional, required_array}
use Rattle.json_reading.proofs.Kept.{bind_ok, refuse_if_ok, found_or_ok, required_array_keeps, required_array_few}
use Rattle.fb_types.specs.declared.grid.Node.{Node}
use Rattle.run_settings.specs.Laws.{AreDistinct, HasBounds, ids_of, AreZones, AreSettings}
use Rattle.run_settings.specs.Nodes.{node_named}
use Rattle.run_settings.specs.Nodes as nodes
use Rattle.run_settings.specs.Times.{moment_of}
use Rattle.run_settings.specs.Zones.{is_bound, bound_in, bounds_of, has_id, zone_codes, listed_codes, zone_of, has_core, is_reversed, least_sum, greatest_sum, zones_of}
use Rattle.run_settings.specs.Settings.{Said, is_whole, is_permille, permille_or, permille_in, slack_named, slack_in, settings_at, settings_of}
use Rattle.run_settings.specs.declared.model.SettingsKind.{SettingsKind}
use Rattle.run_settings.specs.declared.model.SettingsKind.TheVariants.{Missing, WrongType, BoxReversed, OutOfRange, UnknownNode, BadTime, Twice, TooMany}
use Rattle.run_settings.specs.declared.model.Zone.{Zone}
use Rattle.run_settings.proofs.CodeLaws.{distinct-push, none_distinct, zone_distinct}
use Rattle.run_settings.proofs.PointLaws.{core_point}
use Rattle.json_reading.proofs.Tests.{both, neither, not_not, at_most, not_below}

-- ---- bounds

bound_ok : (name : List ℕ) (at : At SettingsKind) (watts : ℤ) → bound_in name at ≡ Ok watts → IsWithin (10 ^ 11) watts
unfolding bound_in
bound_ok name at watts e =
    let number = bind_ok (required decimal_of name at) _ watts e in
    let z : ℤ = number.0.millionths in
    let fits = bind_ok (refuse_if (not (is_bound z)) (fault_in name OutOfRange at)) _ watts number.2 in
    let ends = both _ _ (not_not (is_bound z) (refuse_if_ok (not (is_bound z)) (in_member at.place name) OutOfRange fits.0 fits.1)) in
    let same : z ≡ watts = cc in
    subst (IsWithin (10 ^ 11)) same (record { low = at_most _ z ends.0; high = at_most z _ ends.1 })

bounds_ok : (core : Bool) (zone : Zone) (at : At SettingsKind) → zone.core ≡ core → bounds_of core at ≡ Ok zone.bounds → HasBounds zone
unfolding bounds_of
bounds_ok false zone at is e =
    let low : zone.bounds.low ≡ pos 0 = cc in
    let high : zone.bounds.high ≡ pos 0 = cc in
    record {
      low = record { low = omega (arith, ints); high = omega (arith, ints) };
      high = record { low = omega (arith, ints); high = omega (arith, ints) };
      ordered = omega (arith, ints);
      outside = λ _. (low, high);
    }
bounds_ok true zone at is e =
    let low = bind_ok (bound_in (codes "min") at) _ zone.bounds e in
    let high = bind_ok (bound_in (codes "max") at) _ zone.bounds low.2 in
    let ordered = bind_ok (refuse_if (int_lt high.0 low.0) (fault_here BoxReversed at)) _ zone.bounds high.2 in
    let low_is : low.0 ≡ zone.bounds.low = cc in
    let high_is : high.0 ≡ zone.bounds.high = cc in
    let order = not_below high.0 low.0 (refuse_if_ok (int_lt high.0 low.0) at.place BoxReversed ordered.0 ordered.1) in
    record {
      low = subst (IsWithin (10 ^ 11)) low_is (bound_ok (codes "min") at low.0 low.1);
      high = subst (IsWithin (10 ^ 11)) high_is (bound_ok (codes "max") at high.0 high.1);
      ordered = subst (λ (z : ℤ). z ≤ℤ zone.bounds.high) low_is (subst (λ (z : ℤ). low.0 ≤ℤ z) high_is order);
      outside = λ other. absurd cc;
    }

-- ---- zones

ids_among : (zones : List Zone) (id : List ℕ) → is_among (ids_of zones) id ≡ has_id id zones
unfolding has_id
ids_among [] id = refl
ids_among (z ∷ zs) id = ap (λ (b : Bool). bytes_eq id z.id || b) (ids_among zs id)

one_more : (before : List Zone) (zone : Zone) (at : At SettingsKind) → has_id zone.id before ≡ false → listed_codes (zone_codes before) zone.id at ≡ Ok zone.codes → bounds_of zone.core at ≡ Ok zone.bounds
    → AreZones before → AreZones (before ++ zone ∷ [])
one_more before zone at new listed bounds so_far = record {
  ids = subst AreDistinct (sym (map_push (λ (z : Zone). z.id) before zone)) (distinct-push (ids_of before) zone.id (ids_among before zone.id ∙ new) so_far.ids);
  codes = zone_distinct before zone zone.id at listed so_far.codes;
  bounds = All-push HasBounds before zone so_far.bounds (bounds_ok zone.core zone at refl bounds);
}

zone_step : (before : List Zone) (at : At SettingsKind) (item : Option Zone) → zone_of before at ≡ Ok item → AreZones before → AreZones (before ++ option_to_list item)
unfolding zone_of
zone_step before at item e so_far =
    let id = bind_ok (required text_of (codes "id") at) _ item e in
    let new = bind_ok (refuse_if (has_id id.0 before) (fault_in (codes "id") Twice at)) _ item id.2 in
    let listed = bind_ok (listed_codes (zone_codes before) id.0 at) _ item new.2 in
    let core = bind_ok (optional truth_of (codes "core") at) _ item listed.2 in
    let bounds = bind_ok (bounds_of (unwrap_or core.0 true) at) _ item core.2 in
    let zone : Zone = record { id = id.0; codes = listed.0; core = unwrap_or core.0 true; bounds = bounds.0 } in
    let is : Some zone ≡ item = cc in
    let fresh = refuse_if_ok (has_id id.0 before) (in_member at.place (codes "id")) Twice new.0 new.1 in
    subst (λ (o : Option Zone). AreZones (before ++ option_to_list o)) is (one_more before zone at fresh listed.1 bounds.1 so_far)

none_zones : AreZones []
none_zones = record { ids = none_distinct; codes = none_distinct; bounds = All-nil HasBounds }

record ZonesHold (zones : List Zone) : Type 0 where
  all : AreZones zones
  few : length zones ≤ 64
  core : has_core zones ≡ true
  low : least_sum zones ≤ℤ pos 0
  high : pos 0 ≤ℤ greatest_sum zones

zones_ok : (at : At SettingsKind) (zones : List Zone) → zones_of at ≡ Ok zones → ZonesHold zones
unfolding zones_of is_reversed
zones_ok at zones e =
    let place : List ℕ = in_member at.place (codes "zones") in
    let count = bind_ok (required length_of (codes "zones") at) _ zones e in
    let some = bind_ok (refuse_if (count.0 == 0) (fault_in (codes "zones") Missing at)) _ zones count.2 in
    let few = bind_ok (refuse_if (nat_lt 64 count.0) (fault_in (codes "zones") TooMany at)) _ zones some.2 in
    let all = bind_ok (required_array zone_of (codes "zones") at) _ zones few.2 in
    let core = bind_ok (refuse_if (not (has_core all.0)) (fault_in (codes "zones") Missing at)) _ zones all.2 in
    let box = bind_ok (refuse_if (is_reversed all.0) (fault_in (codes "zones") BoxReversed at)) _ zones core.2 in
    let same : all.0 ≡ zones = cc in
    let length_is = required_array_few zone_of (codes "zones") at count.0 all.0 count.1 all.1 in
    let at_most_64 : count.0 ≤ 64 = let t = refuse_if_ok (nat_lt 64 count.0) place TooMany few.0 few.1 in grind arith in
    let sums = neither _ _ (refuse_if_ok (is_reversed all.0) place BoxReversed box.0 box.1) in
    subst ZonesHold same (record {
      all = required_array_keeps AreZones zone_of zone_step (codes "zones") at all.0 none_zones all.1;
      few = omega arith;
      core = not_not (has_core all.0) (refuse_if_ok (not (has_core all.0)) place Missing core.0 core.1);
      low = not_below _ _ sums.0;
      high = not_below _ _ sums.1;
    })

-- ---- the other members

div_small : (n : ℕ) → n ≤ 1000000000 → n / 1000000 ≤ 1000
div_small n h = omega arith

permille_small : (z : ℤ) → pos 0 ≤ℤ z → z ≤ℤ pos 1000000000 → nat_abs z ≤ 1000000000
permille_small z l h = omega (arith, ints)

permille_or_ok : (default : ℕ) (name : List ℕ) (at : At SettingsKind) (found : Option Decimal) (n : ℕ) → permille_or default name at found ≡ Ok n → default ≤ 1000 → n ≤ 1000
permille_or_ok default name at None n e h = let same : default ≡ n = cc in omega arith
permille_or_ok default name at (Some d) n e h =
    let z : ℤ = d.millionths in
    let whole = bind_ok (refuse_if (not (is_whole z)) (fault_in name WrongType at)) _ n e in
    let fits = bind_ok (refuse_if (not (is_permille z)) (fault_in name OutOfRange at)) _ n whole.2 in
    let ends = both _ _ (not_not (is_permille z) (refuse_if_ok (not (is_permille z)) (in_member at.place name) OutOfRange fits.0 fits.1)) in
    let same : nat_abs z / 10 ^ 6 ≡ n = cc in
    subst (λ (k : ℕ). k ≤ 1000) same (div_small (nat_abs z) (permille_small z (at_most _ z ends.0) (at_most z _ ends.1)))

permille_ok : (default : ℕ) (name : List ℕ) (at : At SettingsKind) (n : ℕ) → permille_in default name at ≡ Ok n → default ≤ 1000 → n ≤ 1000
unfolding permille_in
permille_ok default name at n e h =
    let found = bind_ok (optional decimal_of name at) _ n e in
    permille_or_ok default name at found.0 n found.2 h

numbered_below : (n : ℕ) (names : List (List ℕ)) (q : List ℕ) (k : ℕ) → value_at (numbered_from n names) q ≡ Some k → k < n + length names
numbered_below n [] q k e = absurd cc
numbered_below n (name ∷ names) q k e = by_test (bytes_eq q name) e (numbered_below (n + 1) names q k)
  where
    by_test : (b : Bool) → cond b (Some n) (value_at (numbered_from (n + 1) names) q) ≡ Some k → (value_at (numbered_from (n + 1) names) q ≡ Some k → k < n + 1 + length names) → k < n + length (name ∷ names)
    by_test true e later = let same : n ≡ k = cc in omega arith
    by_test false e later = let h = later e in omega arith

codes_length : (list : List Node) → length (nodes.node_codes list) ≡ length list
codes_length [] = refl
codes_length (n ∷ ns) = ap suc (codes_length ns)

slack_named_ok : (list : List Node) (at : At SettingsKind) (name : Option (List ℕ)) (slack : Option ℕ) → slack_named list at name ≡ Ok slack → IfSome slack (λ place. place < length list)
slack_named_ok list at None slack e =
    let same : None ≡ slack = cc in
    subst (λ (o : Option ℕ). IfSome o (λ place. place < length list)) same tt
slack_named_ok list at (Some name) slack e =
    let place = bind_ok (found_or (node_named list name) (fault_in (codes "slack") UnknownNode at)) _ slack e in
    let same : Some place.0 ≡ slack = cc in
    let found = found_or_ok (node_named list name) (in_member at.place (codes "slack")) UnknownNode place.0 place.1 in
    let below = numbered_below 0 (nodes.node_codes list) (padded_name 8 name) place.0 found in
    let long = codes_length list in
    subst (λ (o : Option ℕ). IfSome o (λ place. place < length list)) same (omega arith)

slack_ok : (list : List Node) (at : At SettingsKind) (slack : Option ℕ) → slack_in list at ≡ Ok slack → IfSome slack (λ place. place < length list)
unfolding slack_in
slack_ok list at slack e =
    let name = bind_ok (optional text_of (codes "slack") at) _ slack e in
    slack_named_ok list at name.0 slack name.2

-- ---- the whole

settings_at_ok : (list : List Node) (at : At SettingsKind) (what : Said) → settings_at list at ≡ Ok what → AreSettings list what
unfolding settings_at
settings_at_ok list at what e =
    let moment = bind_ok (moment_of BadTime (codes "moment") at) _ what e in
    let zones = bind_ok (zones_of at) _ what moment.2 in
    let ramr = bind_ok (permille_in 700 (codes "ramrPermille") at) _ what zones.2 in
    let threshold = bind_ok (permille_in 50 (codes "thresholdPermille") at) _ what ramr.2 in
    let slack = bind_ok (slack_in list at) _ what threshold.2 in
    let hold = zones_ok at zones.0 zones.1 in
    let read : Said = record { moment = moment.0; zones = zones.0; ramr = ramr.0; threshold = threshold.0; slack = slack.0 } in
    let same : read ≡ what = cc in
    subst (AreSettings list) same (record {
      zones = hold.all;
      few = hold.few;
      core = hold.core;
      point = core_point zones.0 hold.all.bounds hold.low hold.high;
      ramr = permille_ok 700 (codes "ramrPermille") at ramr.0 ramr.1 (omega arith);
      threshold = permille_ok 50 (codes "thresholdPermille") at threshold.0 threshold.1 (omega arith);
      slack = slack_ok list at slack.0 slack.1;
    })

pub settings_hold : (list : List Node) (tree : Data) (what : Said) → settings_of list tree ≡ Ok what → AreSettings list what
unfolding settings_of
settings_hold list tree what e = settings_at_ok list _ what e

-- What holds of keys that were read.
use Rattle.std.proofs.Common.{◌≡◌, ℕ, zero, suc, ◌+◌, ◌^◌, ◌<◌, ◌≤◌, ◌==◌, ◌≢◌, Bool, true, false, cond, inl, inr, ℤ, pos, ◌+ℤ◌, List, [], ◌∷◌, ◌++◌, length, get_or, Option, Some, None, Ok, refl, sym, ap, subst, ◌∙◌, arith}
use Rattle.std.specs.Prelude.{◌≤ℤ◌, ◌&&◌, ◌||◌, All, not, codes, int_lt, int_le, nat_lt, nat_abs, sum_by, ⊤}
use Rattle.std.specs.Option.{option_to_list}
use Rattle.std.proofs.lemmas.Int.{ints}
use Rattle.std.proofs.lemmas.List.{get_or-map, length-map}
use Rattle.std.proofs.lemmas.List.Elements.{All-push, All-nil, All-cons, All-head, All-tail}
use Rattle.std.proofs.lemmas.List.FromFn.{get_or-map-range_with_len, length-map-range_with_len}
use Rattle.std.proofs.lemmas.List.Sums.{sum_by-cons}
use Rattle.std.proofs.lemmas.Bool.Decides.{nat_tests}
use Rattle.whole_laws.specs.Sums.{total_below, at as number_at}
use Rattle.whole_laws.specs.TotalLaws.{total_below-le, total_below-combine, total_below-same}
use Rattle.serde_json.specs.Data.{Data}
use Rattle.fb_json.specs.Tree.{text_of, decimal_of, length_of}
use Rattle.json_reading.specs.Place.{in_member}
use Rattle.json_reading.specs.Reading.{At, fault_here, fault_in, refuse_if, found_or, found_or_missing, required, here, spot, optional_array, required_array}
use Rattle.json_reading.proofs.Kept.{bind_ok, refuse_if_ok, required_array_keeps, required_array_few, optional_array_keeps}
use Rattle.fb_types.specs.GridRanges.{exchange_of, AreInjections}
use Rattle.fb_types.specs.declared.grid.Node.{Node}
use Rattle.fb_types.specs.declared.keys.Weight.{Weight}
use Rattle.fb_types.specs.declared.keys.Block.{Block}
use Rattle.fb_types.specs.declared.keys.Column.{Column}
use Rattle.run_settings.specs.Nodes.{node_named}
use Rattle.run_settings.specs.Times.{moment_of}
use Rattle.run_settings.specs.declared.model.Zone.{Zone}
use Rattle.glsk_keys.specs.Zones.{is_zone, homes_of, members_of, is_member, zone_named}
use Rattle.glsk_keys.specs.Measures.{values_of, injection_of, net_of, total_of}
use Rattle.glsk_keys.specs.Scaling.{block_with}
use Rattle.glsk_keys.specs.Document.{Facts, node_here, node_in, listed_node_of, factor_of, weight_of, manual_of, chosen_of, proportional_of, weights_by, form_named, weights_of, business_named, share_of, block_of, shares_of, are_whole, blocks_of, has_series, matching_of, holds, zone_series_of, series_for, series_of}
use Rattle.glsk_keys.specs.Columns.{is_bare, first_bare, no_bare, sizes_of, default_column, defaults_from, column_or, columns_of, position_of, positions_of, keys_at, facts_from, keys_of}
use Rattle.glsk_keys.specs.Laws.{IsBlock, IsColumn, AreKeys}
use Rattle.glsk_keys.specs.declared.measures.Measure.{Measure}
use Rattle.glsk_keys.specs.declared.measures.Measure.TheVariants.{One, Size}
use Rattle.glsk_keys.specs.declared.blocks.Form.{Form}
use Rattle.glsk_keys.specs.declared.blocks.Form.TheVariants.{Manual, Proportional, Country}
use Rattle.glsk_keys.specs.declared.model.KeyKind.{KeyKind}
use Rattle.glsk_keys.specs.declared.model.KeyKind.TheVariants.{Missing, WrongType, BadTime, UnknownNode, WrongZone, SharesNot100, EmptyKey, NegativeFactor, OutOfRange, TooMany, TwoSeries}
use Rattle.glsk_keys.specs.declared.model.Keys.{Keys}
use Rattle.glsk_keys.proofs.SizeLaws.{sizes_high}
use Rattle.json_reading.proofs.Tests.{both, not_not, at_most, above, not_below}
use Rattle.glsk_keys.proofs.PlacingLaws.{length-defaults_from, defaults_placed}
use Rattle.glsk_keys.proofs.WeightLaws.{AreOf, IsGiven, members_are, listed_are, given_are, block_holds, block_share}

-- ---- nodes
node_ok : (facts : Facts) (zone : ℕ) (at : At KeyKind) (node : ℕ) → node_here facts zone at ≡ Ok node → is_member zone facts.homes node ≡ true
unfolding node_here
node_ok facts zone at node e =
    let name = bind_ok (here text_of at) _ node e in
    let found = bind_ok (found_or (node_named facts.nodes name.0) (fault_here UnknownNode at)) _ node name.2 in
    let member = bind_ok (refuse_if (not (is_member zone facts.homes found.0)) (fault_here WrongZone at)) _ node found.2 in
    let same : found.0 ≡ node = cc in
    subst (λ n. is_member zone facts.homes n ≡ true) same (not_not _ (refuse_if_ok (not (is_member zone facts.homes found.0)) at.place WrongZone member.0 member.1))

node_in_ok : (facts : Facts) (zone : ℕ) (name : List ℕ) (at : At KeyKind) (node : ℕ) → node_in facts zone name at ≡ Ok node → is_member zone facts.homes node ≡ true
unfolding node_in
node_in_ok facts zone name at node e =
    let found = bind_ok (spot name at) _ node e in
    let there = bind_ok (found_or_missing name at found.0) _ node found.2 in
    node_ok facts zone there.0 node there.2

listed_step : (facts : Facts) (zone : ℕ) (before : List ℕ) (at : At KeyKind) (item : Option ℕ) → listed_node_of facts zone before at ≡ Ok item
    → All (λ n. is_member zone facts.homes n ≡ true) before → All (λ n. is_member zone facts.homes n ≡ true) (before ++ option_to_list item)
unfolding listed_node_of
listed_step facts zone before at item e so_far =
    let node = bind_ok (node_here facts zone at) _ item e in
    let is : Some node.0 ≡ item = cc in
    subst (λ (o : Option ℕ). All (λ n. is_member zone facts.homes n ≡ true) (before ++ option_to_list o)) is
    (All-push (λ n. is_member zone facts.homes n ≡ true) before node.0 so_far (node_ok facts zone at node.0 node.1))

factor_ok : (at : At KeyKind) (factor : ℤ) → factor_of at ≡ Ok factor → pos 0 ≤ℤ factor
unfolding factor_of
factor_ok at factor e =
    let number = bind_ok (required decimal_of (codes "factor") at) _ factor e in
    let positive = bind_ok (refuse_if (int_lt number.0.millionths (pos 0)) (fault_in (codes "factor") NegativeFactor at)) _ factor number.2 in
    let small = bind_ok (refuse_if (int_lt (pos 1000000000000) number.0.millionths) (fault_in (codes "factor") OutOfRange at)) _ factor positive.2 in
    let same : number.0.millionths ≡ factor = cc in
    subst (λ z. pos 0 ≤ℤ z) same (not_below number.0.millionths (pos 0) (refuse_if_ok (int_lt number.0.millionths (pos 0)) (in_member at.place (codes "factor")) NegativeFactor positive.0 positive.1))

given_step : (facts : Facts) (zone : ℕ) (before : List Weight) (at : At KeyKind) (item : Option Weight) → weight_of facts zone before at ≡ Ok item
    → All (IsGiven facts.homes zone) before → All (IsGiven facts.homes zone) (before ++ option_to_list item)
unfolding weight_of
given_step facts zone before at item e so_far =
    let node = bind_ok (node_in facts zone (codes "node") at) _ item e in
    let factor = bind_ok (factor_of at) _ item node.2 in
    let w : Weight = record { node = node.0; weight = factor.0 } in
    let is : Some w ≡ item = cc in
    subst (λ (o : Option Weight). All (IsGiven facts.homes zone) (before ++ option_to_list o)) is
    (All-push (IsGiven facts.homes zone) before w so_far (record { low = factor_ok at factor.0 factor.1; of_zone = node_in_ok facts zone (codes "node") at node.0 node.1 }))

-- ---- weights of a block
manual_ok : (facts : Facts) (zone : ℕ) (at : At KeyKind) (values : List ℤ) → manual_of facts zone at ≡ Ok values → AreOf facts.homes zone values
unfolding manual_of
manual_ok facts zone at values e =
    let listed = bind_ok (required_array (weight_of facts zone) (codes "nodes") at) _ values e in
    let all = required_array_keeps (All (IsGiven facts.homes zone)) (weight_of facts zone) (given_step facts zone) (codes "nodes") at listed.0 (All-nil (IsGiven facts.homes zone)) listed.1 in
    let is : _ ≡ values = cc in
    subst (AreOf facts.homes zone) is (given_are facts.homes zone (length facts.nodes) listed.0 all)

chosen_ok : (facts : Facts) (zone : ℕ) (measure : Measure) (at : At KeyKind) (listed : Option (List ℕ)) → optional_array (listed_node_of facts zone) (codes "nodes") at ≡ Ok listed
    → AreOf facts.homes zone (values_of measure (chosen_of facts zone listed) facts.nodes)
chosen_ok facts zone measure at None e = members_are facts.homes zone measure facts.nodes
chosen_ok facts zone measure at (Some listed) e =
    let none : List ℕ = [] in
    let all = optional_array_keeps (All (λ n. is_member zone facts.homes n ≡ true)) (listed_node_of facts zone) (listed_step facts zone) (codes "nodes") at listed (All-nil (λ n. is_member zone facts.homes n ≡ true)) e in
    listed_are facts.homes zone measure (length facts.nodes) listed facts.nodes all

proportional_ok : (facts : Facts) (zone : ℕ) (measure : Measure) (at : At KeyKind) (values : List ℤ) → proportional_of facts zone measure at ≡ Ok values → AreOf facts.homes zone values
unfolding proportional_of
proportional_ok facts zone measure at values e =
    let listed = bind_ok (optional_array (listed_node_of facts zone) (codes "nodes") at) _ values e in
    let is : values_of measure (chosen_of facts zone listed.0) facts.nodes ≡ values = cc in
    subst (AreOf facts.homes zone) is (chosen_ok facts zone measure at listed.0 listed.1)

weights_by_ok : (facts : Facts) (zone : ℕ) (measure : Measure) (form : Form) (at : At KeyKind) (values : List ℤ) → weights_by facts zone measure form at ≡ Ok values → AreOf facts.homes zone values
weights_by_ok facts zone measure Manual at values e = manual_ok facts zone at values e
weights_by_ok facts zone measure Proportional at values e = proportional_ok facts zone measure at values e
weights_by_ok facts zone measure Country at values e = let is : values_of One (members_of zone facts.homes) facts.nodes ≡ values = cc in subst (AreOf facts.homes zone) is (members_are facts.homes zone One facts.nodes)

weights_ok : (facts : Facts) (zone : ℕ) (measure : Measure) (at : At KeyKind) (values : List ℤ) → weights_of facts zone measure at ≡ Ok values → AreOf facts.homes zone values
unfolding weights_of
weights_ok facts zone measure at values e =
    let word = bind_ok (required text_of (codes "kind") at) _ values e in
    let form = bind_ok (found_or (form_named word.0) (fault_in (codes "kind") WrongType at)) _ values word.2 in
    weights_by_ok facts zone measure form.0 at values form.2

share_ok : (at : At KeyKind) (share : ℤ) → share_of at ≡ Ok share → pos 0 ≤ℤ share
unfolding share_of
share_ok at share e =
    let number = bind_ok (required decimal_of (codes "share") at) _ share e in
    let positive = bind_ok (refuse_if (int_lt number.0.millionths (pos 0)) (fault_in (codes "share") NegativeFactor at)) _ share number.2 in
    let small = bind_ok (refuse_if (int_lt (pos 100000000) number.0.millionths) (fault_in (codes "share") OutOfRange at)) _ share positive.2 in
    let same : number.0.millionths ≡ share = cc in
    subst (λ z. pos 0 ≤ℤ z) same (not_below number.0.millionths (pos 0) (refuse_if_ok (int_lt number.0.millionths (pos 0)) (in_member at.place (codes "share")) NegativeFactor positive.0 positive.1))

-- ---- blocks
block_step : (facts : Facts) (zone : ℕ) (before : List Block) (at : At KeyKind) (item : Option Block) → block_of facts zone before at ≡ Ok item
    → All (IsBlock facts.homes zone) before → All (IsBlock facts.homes zone) (before ++ option_to_list item)
unfolding block_of
block_step facts zone before at item e so_far =
    let word = bind_ok (required text_of (codes "business") at) _ item e in
    let measure = bind_ok (found_or (business_named word.0) (fault_in (codes "business") WrongType at)) _ item word.2 in
    let share = bind_ok (share_of at) _ item measure.2 in
    let weights = bind_ok (weights_of facts zone measure.0 at) _ item share.2 in
    let some = bind_ok (refuse_if (int_le (total_of weights.0) (pos 0)) (fault_here EmptyKey at)) _ item weights.2 in
    let few = bind_ok (refuse_if (int_lt (pos 1000000000000) (total_of weights.0)) (fault_here OutOfRange at)) _ item some.2 in
    let is : Some (block_with share.0 weights.0) ≡ item = cc in
    let low = above (total_of weights.0) (pos 0) (refuse_if_ok (int_le (total_of weights.0) (pos 0)) at.place EmptyKey some.0 some.1) in
    let high = not_below (pos 1000000000000) (total_of weights.0) (refuse_if_ok (int_lt (pos 1000000000000) (total_of weights.0)) at.place OutOfRange few.0 few.1) in
    subst (λ (o : Option Block). All (IsBlock facts.homes zone) (before ++ option_to_list o)) is
    (All-push (IsBlock facts.homes zone) before (block_with share.0 weights.0) so_far
    (block_holds facts.homes zone share.0 weights.0 (share_ok at share.0 share.1) (weights_ok facts zone measure.0 at weights.0 weights.1) (omega (arith, ints, low)) high))

record BlocksHold (homes : List (Option ℕ)) (zone : ℕ) (blocks : List Block) : Type 0 where
  all : All (IsBlock homes zone) blocks
  few : length blocks ≤ 4
  whole : shares_of blocks ≡ pos (10 ^ 8)

at_most_four : (n : ℕ) → nat_lt 4 n ≡ false → n ≤ 4
at_most_four n e = grind (arith, nat_tests)

blocks_ok : (facts : Facts) (zone : ℕ) (at : At KeyKind) (blocks : List Block) → blocks_of facts zone at ≡ Ok blocks → BlocksHold facts.homes zone blocks
unfolding blocks_of
blocks_ok facts zone at blocks e =
    let count = bind_ok (required length_of (codes "blocks") at) _ blocks e in
    let some = bind_ok (refuse_if (count.0 == 0) (fault_in (codes "blocks") Missing at)) _ blocks count.2 in
    let few = bind_ok (refuse_if (nat_lt 4 count.0) (fault_in (codes "blocks") TooMany at)) _ blocks some.2 in
    let read = bind_ok (required_array (block_of facts zone) (codes "blocks") at) _ blocks few.2 in
    let whole = bind_ok (refuse_if (not (are_whole read.0)) (fault_in (codes "blocks") SharesNot100 at)) _ blocks read.2 in
    let is : read.0 ≡ blocks = cc in
    let ends = both (int_le (shares_of read.0) (pos 100000000)) (int_le (pos 100000000) (shares_of read.0)) (not_not (are_whole read.0) (refuse_if_ok (not (are_whole read.0)) (in_member at.place (codes "blocks")) SharesNot100 whole.0 whole.1)) in
    let high = at_most (shares_of read.0) (pos 100000000) ends.0 in
    let low = at_most (pos 100000000) (shares_of read.0) ends.1 in
    let long : length read.0 ≤ count.0 = required_array_few (block_of facts zone) (codes "blocks") at count.0 read.0 count.1 read.1 in
    let short : count.0 ≤ 4 = at_most_four count.0 (refuse_if_ok (nat_lt 4 count.0) (in_member at.place (codes "blocks")) TooMany few.0 few.1) in
    subst (BlocksHold facts.homes zone) is (record {
      all = required_array_keeps (All (IsBlock facts.homes zone)) (block_of facts zone) (block_step facts zone) (codes "blocks") at read.0 (All-nil (IsBlock facts.homes zone)) read.1;
      few = omega (arith, long, short);
      whole = omega (arith, ints, high, low);
    })

-- ---- series
record SeriesHolds (homes : List (Option ℕ)) (c : Column) : Type 0 where
  column : IsColumn homes c.zone c
  some : c.blocks ≢ []

some_blocks : (blocks : List Block) → shares_of blocks ≡ pos (10 ^ 8) → blocks ≢ []
some_blocks [] e = λ h. absurd (omega (arith, ints))
some_blocks (b ∷ bs) e = λ h. absurd cc

matching_step : (facts : Facts) (zone : ℕ) (before : List Column) (at : At KeyKind) (item : Option Column) → matching_of facts zone before at ≡ Ok item
    → All (SeriesHolds facts.homes) before → All (SeriesHolds facts.homes) (before ++ option_to_list item)
unfolding matching_of
matching_step facts zone before at item e so_far =
    let only = bind_ok (refuse_if (has_series zone before) (fault_here TwoSeries at)) _ item e in
    let blocks = bind_ok (blocks_of facts zone at) _ item only.2 in
    let c : Column = record { zone = zone; blocks = blocks.0 } in
    let is : Some c ≡ item = cc in
    let held = blocks_ok facts zone at blocks.0 blocks.1 in
    let one : SeriesHolds facts.homes c = record { column = record { of_zone = refl; blocks = held.all; few = held.few; whole = inr held.whole }; some = some_blocks blocks.0 held.whole } in
    subst (λ (o : Option Column). All (SeriesHolds facts.homes) (before ++ option_to_list o)) is (All-push (SeriesHolds facts.homes) before c so_far one)

none_more : (homes : List (Option ℕ)) (before : List Column) (item : Option Column) → None ≡ item → All (SeriesHolds homes) before → All (SeriesHolds homes) (before ++ option_to_list item)
none_more homes before item is so_far =
    subst (λ (o : Option Column). All (SeriesHolds homes) (before ++ option_to_list o)) is (subst (All (SeriesHolds homes)) (sym (Rattle.std.proofs.Common.append-nil before)) so_far)

zone_series_step : (facts : Facts) (zone : ℕ) (before : List Column) (at : At KeyKind) (item : Option Column) → zone_series_of facts zone before at ≡ Ok item
    → All (SeriesHolds facts.homes) before → All (SeriesHolds facts.homes) (before ++ option_to_list item)
unfolding zone_series_of
zone_series_step facts zone before at item e so_far =
    let from = bind_ok (moment_of BadTime (codes "from") at) _ item e in
    let to = bind_ok (moment_of BadTime (codes "to") at) _ item from.2 in
    by_test (holds from.0 to.0 facts.moment) to.2
  where
    by_test : (b : Bool) → cond b (matching_of facts zone before at) (Ok None) ≡ Ok item → All (SeriesHolds facts.homes) (before ++ option_to_list item)
    by_test true h = matching_step facts zone before at item h so_far
    by_test false h = none_more facts.homes before item (cc) so_far

series_for_step : (facts : Facts) (before : List Column) (at : At KeyKind) (zone : Option ℕ) (item : Option Column) → series_for facts before at zone ≡ Ok item
    → All (SeriesHolds facts.homes) before → All (SeriesHolds facts.homes) (before ++ option_to_list item)
series_for_step facts before at None item e so_far = none_more facts.homes before item (cc) so_far
series_for_step facts before at (Some zone) item e so_far = zone_series_step facts zone before at item e so_far

series_step : (facts : Facts) (before : List Column) (at : At KeyKind) (item : Option Column) → series_of facts before at ≡ Ok item
    → All (SeriesHolds facts.homes) before → All (SeriesHolds facts.homes) (before ++ option_to_list item)
unfolding series_of
series_step facts before at item e so_far =
    let id = bind_ok (required text_of (codes "zone") at) _ item e in
    series_for_step facts before at (zone_named facts.zones id.0) item id.2 so_far

-- ---- columns
default_holds : (facts : Facts) (zone : ℕ) (core : Bool) → AreInjections facts.nodes → IsColumn facts.homes zone (default_column facts zone core)
default_holds facts zone true h = record { of_zone = refl; blocks = All-nil (IsBlock facts.homes zone); few = omega arith; whole = inl refl }
default_holds facts zone false h = by_test (int_le (total_of (sizes_of facts zone)) (pos 0)) refl
  where
    by_test : (b : Bool) → int_le (total_of (sizes_of facts zone)) (pos 0) ≡ b
        → IsColumn facts.homes zone (record { zone = zone; blocks = cond b [] (block_with (pos 100000000) (sizes_of facts zone) ∷ []) })
    by_test true e = record { of_zone = refl; blocks = All-nil (IsBlock facts.homes zone); few = omega arith; whole = inl refl }
    by_test false e =
        let low = above (total_of (sizes_of facts zone)) (pos 0) e in
        let high = sizes_high (members_of zone facts.homes) facts.nodes in
        let block = block_with (pos 100000000) (sizes_of facts zone) in
        let one = block_holds facts.homes zone (pos 100000000) (sizes_of facts zone) (omega (arith, ints)) (members_are facts.homes zone Size facts.nodes) (omega (arith, ints, low)) (omega (arith, ints, high, h.small)) in
        let s = block_share (pos 100000000) (sizes_of facts zone) in
        record { of_zone = refl; blocks = All-cons (IsBlock facts.homes zone) block [] one (All-nil (IsBlock facts.homes zone)); few = omega arith; whole = inr (ap (λ z. z +ℤ pos 0) s) }

defaults_hold : (facts : Facts) (k : ℕ) (zones : List Zone) (j : ℕ) (d : Column) → j < length zones → AreInjections facts.nodes → IsColumn facts.homes (k + j) (get_or (defaults_from facts k zones) j d)
defaults_hold facts k [] j d l h = absurd (omega arith)
defaults_hold facts k (z ∷ zs) zero d l h = let e : k ≡ k + 0 = omega arith in subst (λ n. IsColumn facts.homes n (default_column facts k z.core)) e (default_holds facts k z.core h)
defaults_hold facts k (z ∷ zs) (suc j) d l h = let e : k + 1 + j ≡ k + suc j = omega arith in subst (λ n. IsColumn facts.homes n (get_or (defaults_from facts (k + 1) zs) j d)) e (defaults_hold facts (k + 1) zs j d (omega arith) h)

column_holds : (homes : List (Option ℕ)) (zone : ℕ) (series : List Column) (default : Column) → IsColumn homes zone default → All (SeriesHolds homes) series → IsColumn homes zone (column_or series default)
column_holds homes zone [] default d h = d
column_holds homes zone (c ∷ cs) default d h = by_test (c.zone == default.zone) refl (column_holds homes zone cs default d (All-tail (SeriesHolds homes) c cs h))
  where
    by_test : (b : Bool) → (c.zone == default.zone) ≡ b → IsColumn homes zone (column_or cs default) → IsColumn homes zone (cond b c (column_or cs default))
    by_test true e later =
        let same : c.zone ≡ default.zone = grind (arith, nat_tests) in
        subst (λ n. IsColumn homes n c) (same ∙ d.of_zone) (All-head (SeriesHolds homes) c cs h).column
    by_test false e later = later

column_some : (homes : List (Option ℕ)) (series : List Column) (default : Column) → has_series default.zone series ≡ true → All (SeriesHolds homes) series → (column_or series default).blocks ≢ []
column_some homes [] default e h = absurd cc
column_some homes (c ∷ cs) default e h = by_test (c.zone == default.zone) e (λ t. column_some homes cs default t (All-tail (SeriesHolds homes) c cs h))
  where
    by_test : (b : Bool) → (b || has_series default.zone cs) ≡ true → (has_series default.zone cs ≡ true → (column_or cs default).blocks ≢ []) → (cond b c (column_or cs default)).blocks ≢ []
    by_test true t later = (All-head (SeriesHolds homes) c cs h).some
    by_test false t later = later t

covered : (series : List Column) (k : ℕ) (zones : List Zone) (j : ℕ) (d : Zone) → first_bare series k zones ≡ None → j < length zones → (get_or zones j d).core ≡ true → has_series (k + j) series ≡ true
covered series k [] j d e l c = absurd (omega arith)
covered series k (z ∷ zs) zero d e l c = by_test (is_bare series k z) refl e
  where
    by_test : (b : Bool) → is_bare series k z ≡ b → cond b (Some k) (first_bare series (k + 1) zs) ≡ None → has_series (k + 0) series ≡ true
    by_test true t h = absurd cc
    by_test false t h =
        let same : k ≡ k + 0 = omega arith in
        let none : (true && not (has_series k series)) ≡ false = ap (λ (x : Bool). x && not (has_series k series)) (sym c) ∙ t in
        subst (λ n. has_series n series ≡ true) same (not_not (has_series k series) none)
covered series k (z ∷ zs) (suc j) d e l c = by_test (is_bare series k z) e (λ h. covered series (k + 1) zs j d h (omega arith) c)
  where
    by_test : (b : Bool) → cond b (Some k) (first_bare series (k + 1) zs) ≡ None → (first_bare series (k + 1) zs ≡ None → has_series (k + 1 + j) series ≡ true) → has_series (k + suc j) series ≡ true
    by_test true h later = absurd cc
    by_test false h later = let same : k + 1 + j ≡ k + suc j = omega arith in subst (λ n. has_series n series ≡ true) same (later h)

no_bare_ok : (o : Option ℕ) (t : ⊤) → no_bare o ≡ Ok t → o ≡ None
no_bare_ok None t e = refl
no_bare_ok (Some k) t e = absurd cc

-- ---- positions
abs_sum : (a b : ℤ) → nat_abs (a +ℤ b) ≤ nat_abs a + nat_abs b
abs_sum a b = grind (arith, ints)

none_at : (m j e : ℕ) → m ≤ j → total_below m (λ k. cond (j == k) e 0) ≡ 0
none_at zero j e l = refl
none_at (suc m) j e l =
    let t : (j == m) ≡ false = grind (arith, nat_tests) in
    let r = none_at m j e (omega arith) in
    let z : cond (j == m) e 0 ≡ 0 = ap (λ (b : Bool). cond b e 0) t in
    omega arith

one_at : (m j e : ℕ) → total_below m (λ k. cond (j == k) e 0) ≤ e
one_at zero j e = omega arith
one_at (suc m) j e = by_test (j == m) refl (one_at m j e)
  where
    by_test : (b : Bool) → (j == m) ≡ b → total_below m (λ k. cond (j == k) e 0) ≤ e → total_below m (λ k. cond (j == k) e 0) + cond b e 0 ≤ e
    by_test true t r = let same : j ≡ m = grind (arith, nat_tests) in let n = none_at m j e (omega arith) in omega arith
    by_test false t r = omega arith

zeros : (m : ℕ) → total_below m (λ k. 0) ≡ 0
zeros zero = refl
zeros (suc m) = let r = zeros m in omega arith

-- a node feeds into its own zone alone
node_once : (m : ℕ) (home : Option ℕ) (node : Node) → total_below m (λ k. nat_abs (injection_of (is_zone k home) node)) ≤ exchange_of node
node_once m None node = let r = zeros m in omega arith
node_once m (Some j) node =
    let le = total_below-le m (λ k. nat_abs (injection_of (j == k) node)) (λ k. cond (j == k) (exchange_of node) 0) (λ k l. by_test (j == k)) in
    omega (arith, one_at m j (exchange_of node))
  where
    by_test : (b : Bool) → nat_abs (injection_of b node) ≤ cond b (exchange_of node) 0
    by_test true = omega (arith, ints)
    by_test false = omega arith

positions_small : (m : ℕ) (homes : List (Option ℕ)) (nodes : List Node) → total_below m (λ k. nat_abs (net_of (members_of k homes) nodes)) ≤ sum_by exchange_of nodes
positions_small m [] nodes = let r = zeros m in omega arith
positions_small m (h ∷ hs) [] = let r = zeros m in omega arith
positions_small m (h ∷ hs) (n ∷ ns) =
    let one = λ (k : ℕ). nat_abs (injection_of (is_zone k h) n) in
    let rest = λ (k : ℕ). nat_abs (net_of (members_of k hs) ns) in
    let le = total_below-le m (λ k. nat_abs (net_of (members_of k (h ∷ hs)) (n ∷ ns))) (λ k. one k + rest k) (λ k l. abs_sum (injection_of (is_zone k h) n) (net_of (members_of k hs) ns)) in
    let split = total_below-combine m 1 1 one rest (λ k. one k + rest k) (λ k l. omega arith) in
    let e = sum_by-cons exchange_of n ns in
    let here = node_once m h n in
    let later = positions_small m hs ns in
    omega arith

-- ---- keys
pub keys_hold : (nodes : List Node) (zones : List Zone) (moment : ℤ) (tree : Data) (keys : Keys) → AreInjections nodes → keys_of nodes zones moment tree ≡ Ok keys → AreKeys nodes zones keys
unfolding keys_of keys_at
keys_hold nodes zones moment tree keys small e =
    let facts = facts_from nodes zones moment in
    let at : At KeyKind = record { place = []; tree = tree; missing = Missing; wrong = WrongType } in
    let series = bind_ok (required_array (series_of facts) (codes "series") at) _ keys e in
    let bare = bind_ok (no_bare (first_bare series.0 0 zones)) _ keys series.2 in
    let is : record { columns = columns_of facts series.0; positions = positions_of facts } ≡ keys = cc in
    let all = required_array_keeps (All (SeriesHolds facts.homes)) (series_of facts) (series_step facts) (codes "series") at series.0 (All-nil (SeriesHolds facts.homes)) series.1 in
    subst (AreKeys nodes zones) is (all_hold nodes zones moment series.0 small all (no_bare_ok _ bare.0 bare.1))
  where
    all_hold : (ns : List Node) (zs : List Zone) (m : ℤ) (series : List Column) → AreInjections ns → All (SeriesHolds (homes_of zs ns)) series → first_bare series 0 zs ≡ None
        → AreKeys ns zs (record { columns = columns_of (facts_from ns zs m) series; positions = positions_of (facts_from ns zs m) })
    all_hold ns zs m series h all bare = record {
      columns = length-map (defaults_from (facts_from ns zs m) 0 zs) (column_or series) ∙ length-defaults_from (facts_from ns zs m) 0 zs;
      positions = length-map-range_with_len (position_of (facts_from ns zs m)) 0 (length zs);
      reference = refl;
      each = λ k d l.
          let defaults = defaults_from (facts_from ns zs m) 0 zs in
          let n = length-defaults_from (facts_from ns zs m) 0 zs in
          let read = get_or-map (column_or series) defaults k d d (omega arith) in
          let zone : 0 + k ≡ k = omega arith in
          let default = subst (λ j. IsColumn (homes_of zs ns) j (get_or defaults k d)) zone (defaults_hold (facts_from ns zs m) 0 zs k d l h) in
          subst (IsColumn (homes_of zs ns) k) (sym read) (column_holds (homes_of zs ns) k series (get_or defaults k d) default all);
      core = λ k d e l c.
          let defaults = defaults_from (facts_from ns zs m) 0 zs in
          let n = length-defaults_from (facts_from ns zs m) 0 zs in
          let read = get_or-map (column_or series) defaults k d d (omega arith) in
          let zone : 0 + k ≡ (get_or defaults k d).zone = sym ((defaults_placed (facts_from ns zs m) zs).each k d (omega arith) ∙ omega arith) in
          let has = subst (λ j. has_series j series ≡ true) zone (covered series 0 zs k e bare l c) in
          subst (λ (x : Column). x.blocks ≢ []) (sym read) (column_some (homes_of zs ns) series (get_or defaults k d) has all);
      small =
          let same = total_below-same (length zs) (λ k. nat_abs (number_at (positions_of (facts_from ns zs m)) k)) (λ k. nat_abs (net_of (members_of k (homes_of zs ns)) ns))
          (λ k l. ap nat_abs (get_or-map-range_with_len (position_of (facts_from ns zs m)) 0 (length zs) k k (pos 0) l (omega arith))) in
          omega (arith, positions_small (length zs) (homes_of zs ns) ns, h.small);
    }

-- What follows for each row, state and zone where the inputs of a domain are whole.
use Rattle.std.proofs.Common.{◌≡◌, ℕ, zero, suc, ◌+◌, ◌<◌, ◌≤◌, ◌^◌, Bool, true, false, cond, ◌||◌, List, [], ◌∷◌, ◌++◌, length, map, take, get_or, All, Option, Some, None, ℤ, pos, ◌≤ℤ◌, refl, sym, ap, subst, ◌∙◌, inl, inr, arith}
use Rattle.std.specs.Prelude.{◌==◌, ◌⊎◌, IfSome, slice_get, unwrap_or, nat_abs}
use Rattle.std.specs.List.{AllZip, filter, find, list_any, position_from, range_with_len}
use Rattle.std.specs.Option.{option_map_or}
use Rattle.std.proofs.lemmas.Bool.{eq-eqb, cases_eq, or_left, or_right}
use Rattle.std.proofs.lemmas.Int.{ints}
use Rattle.std.proofs.lemmas.List.{length-map, take_more}
use Rattle.std.proofs.lemmas.List.Elements.{All-head, All-tail, All-cons, All-nil, All-weaker, All-get_or}
use Rattle.std.proofs.lemmas.List.Folds.{list_any_at}
use Rattle.std.proofs.lemmas.Option.{slice_get_within, get_or_from_slice_get, same_Some}
use Rattle.whole_laws.specs.Sums.{IsWithin, sum_over, total_below, at}
use Rattle.fb_types.specs.declared.crac.Crac.{Crac}
use Rattle.fb_types.specs.declared.crac.Element.{Element}
use Rattle.fb_types.specs.declared.grid.Node.{Node}
use Rattle.fb_types.specs.declared.keys.Block.{Block}
use Rattle.fb_types.specs.declared.keys.Column.{Column}
use Rattle.fb_types.specs.declared.keys.Weight.{Weight}
use Rattle.fb_types.specs.declared.rows.Bounds.{Bounds}
use Rattle.grid_state.specs.GridState.{GridState}
use Rattle.grid_state.specs.Split.{AreKeysOf}
use Rattle.grid_state.specs.States.{IsStateOf}
use Rattle.grid_laplacian.specs.Ranges.{IsOfGrid, IsInRange}
use Rattle.run_settings.specs.Laws.{HasBounds, core_bounds}
use Rattle.run_settings.specs.ReductionLaws.{IsReduction}
use Rattle.run_settings.specs.Reductions.{limit_in}
use Rattle.run_settings.specs.Zones.{has_core}
use Rattle.run_settings.specs.declared.model.Zone.{Zone}
use Rattle.run_settings.specs.declared.reduction.Reduction.{Reduction}
use Rattle.glsk_keys.specs.Laws as key_laws
use Rattle.glsk_keys.specs.Zones.{home_of, homes_of}
use Rattle.zonal_factors.specs.FactorSpans.{IsBlock, IsKey}
use Rattle.reference_flows.specs.WithoutExchanges.{sizes_of}
use Rattle.cnec_rows.specs.RowNumbers.{AreTerms, AreRowZones}
use Rattle.fb_certificate.specs.CracRows.{CracRow, names, outages_of, out_by_state, state_number, is_for}
use Rattle.fb_certificate.specs.RunRows.{IsCracRow}
use Rattle.fb_certificate.specs.Situations.{stated}
use Rattle.fb_certificate.specs.Whole.{IsElement, IsWhole, row_zones}
use Rattle.fb_certificate.specs.declared.types.Inputs.{Inputs}

-- ---- lists side by side

pub zip_length : {X Y : Type 0} (R : X → Y → Type 0) (xs : List X) (ys : List Y) → AllZip R xs ys → length xs ≡ length ys
zip_length R [] [] h = refl
zip_length R [] (y ∷ ys) h = absurd h
zip_length R (x ∷ xs) [] h = absurd h
zip_length R (x ∷ xs) (y ∷ ys) h = ap suc (zip_length R xs ys h.1)

pub zip_get : {X Y : Type 0} (R : X → Y → Type 0) (xs : List X) (ys : List Y) (i : ℕ) (d : X) (e : Y) → AllZip R xs ys → i < length xs → R (get_or xs i d) (get_or ys i e)
zip_get R [] ys i d e h l = absurd (omega arith)
zip_get R (x ∷ xs) [] i d e h l = absurd h
zip_get R (x ∷ xs) (y ∷ ys) zero d e h l = h.0
zip_get R (x ∷ xs) (y ∷ ys) (suc i) d e h l = zip_get R xs ys i d e h.1 (omega arith)

pub zip_push : {X Y : Type 0} (R : X → Y → Type 0) (xs : List X) (ys : List Y) (x : X) (y : Y) → AllZip R xs ys → R x y → AllZip R (xs ++ x ∷ []) (ys ++ y ∷ [])
zip_push R [] [] x y h r = (r, tt)
zip_push R [] (b ∷ ys) x y h r = absurd h
zip_push R (a ∷ xs) [] x y h r = absurd h
zip_push R (a ∷ xs) (b ∷ ys) x y h r = (h.0, zip_push R xs ys x y h.1 r)

-- one pair more
pub zip_more : {X Y : Type 0} (R : X → Y → Type 0) (xs : List X) (k : ℕ) (x : X) (before after : List Y) (y : Y) → k < length xs → x ≡ get_or xs k x → AllZip R (take k xs) before → R x y → after ≡ before ++ y ∷ []
    → AllZip R (take (k + 1) xs) after
zip_more {X} {Y} R xs k x before after y l read so_far here pushed =
    subst (λ (ys : List Y). AllZip R (take (k + 1) xs) ys) (sym pushed)
    (subst (λ (zs : List X). AllZip R zs (before ++ y ∷ [])) (sym (take_more xs k x l ∙ ap (λ (z : X). take k xs ++ z ∷ []) (sym read)))
    (zip_push R (take k xs) before x y so_far here))

-- the same, with the item that is read of the first list
pub zip_next : {X Y : Type 0} (R : X → Y → Type 0) (xs : List X) (k : ℕ) (d : X) (before after : List Y) (y : Y) → k < length xs → AllZip R (take k xs) before → R (get_or xs k d) y → after ≡ before ++ y ∷ []
    → AllZip R (take (k + 1) xs) after
zip_next {X} {Y} R xs k d before after y l so_far here pushed =
    subst (λ (ys : List Y). AllZip R (take (k + 1) xs) ys) (sym pushed)
    (subst (λ (zs : List X). AllZip R zs (before ++ y ∷ [])) (sym (take_more xs k d l))
    (zip_push R (take k xs) before (get_or xs k d) y so_far here))

-- ---- keys

-- a column of a key document is a key
weight_nonnegative : (homes : List (Option ℕ)) (zone : ℕ) (w : Weight) → key_laws.IsWeight homes zone w → pos 0 ≤ℤ w.weight
weight_nonnegative homes zone w h = let p = h.positive in omega (arith, ints, p)

block_is_key : (homes : List (Option ℕ)) (zone : ℕ) (b : Block) → key_laws.IsBlock homes zone b → IsBlock b
block_is_key homes zone b h = record {
  weights = All-weaker (key_laws.IsWeight homes zone) (λ w. pos 0 ≤ℤ w.weight) (weight_nonnegative homes zone) b.weights h.weights;
  total = h.total;
  some = let p = h.some in omega (arith, ints, p);
  small = h.few;
  share = h.share;
}

shares_whole : (blocks : List Block) → (blocks ≡ []) ⊎ (sum_over key_laws.share_in blocks ≡ pos (10 ^ 8)) → 0 < length blocks → sum_over (λ b. b.share) blocks ≡ pos 100000000
shares_whole blocks (inl e) some = let none = ap length e in absurd (omega (arith, none))
shares_whole blocks (inr e) some = e

column_is_key : (homes : List (Option ℕ)) (zone : ℕ) (c : Column) → key_laws.IsColumn homes zone c → IsKey c
column_is_key homes zone c h = record {
  blocks = All-weaker (key_laws.IsBlock homes zone) IsBlock (block_is_key homes zone) c.blocks h.blocks;
  shares = shares_whole c.blocks h.whole;
}

module _ (nodes : List Node) (zones : List Zone) (columns : List Column) (long : length columns ≡ length zones)
    (each : (k : ℕ) (d : Column) → k < length zones → key_laws.IsColumn (homes_of zones nodes) k (get_or columns k d)) where
  pub columns_are_keys : All IsKey columns
  columns_are_keys = λ k d l. column_is_key (homes_of zones nodes) k (get_or columns k d) (each k d (omega arith))

  -- the key weights stand at nodes
  pub columns_at_nodes : AreKeysOf (length nodes) columns
  columns_at_nodes = λ k d l.
      All-weaker (key_laws.IsBlock (homes_of zones nodes) k) (λ block. All (λ w. w.node < length nodes) block.weights)
      (λ block b. All-weaker (key_laws.IsWeight (homes_of zones nodes) k) (λ w. w.node < length nodes) (λ w p. let node = p.node in let e = length-map nodes (home_of zones) in omega (arith, node, e)) block.weights b.weights)
      (get_or columns k d).blocks (each k d (omega arith)).blocks

pub are_keys : (inputs : Inputs) → IsWhole inputs → All IsKey inputs.keys.columns
are_keys inputs whole = columns_are_keys inputs.grid.nodes inputs.settings.zones inputs.keys.columns whole.keys.columns whole.keys.each

pub keys_at_nodes : (inputs : Inputs) → IsWhole inputs → AreKeysOf (length inputs.grid.nodes) inputs.keys.columns
keys_at_nodes inputs whole = columns_at_nodes inputs.grid.nodes inputs.settings.zones inputs.keys.columns whole.keys.columns whole.keys.each

-- ---- zones

flags_length : (zones : List Zone) → length (core_bounds zones) ≡ length (filter (λ flag. flag) (map (λ zone. zone.core) zones))
flags_length [] = refl
flags_length (z ∷ zones) = by_test z.core (flags_length zones)
  where
    by_test : (b : Bool) → length (core_bounds zones) ≡ length (filter (λ flag. flag) (map (λ zone. zone.core) zones))
        → length (map (λ (zone : Zone). zone.bounds) (cond b (z ∷ filter (λ zone. zone.core) zones) (filter (λ zone. zone.core) zones)))
        ≡ length (cond b (b ∷ filter (λ flag. flag) (map (λ (zone : Zone). zone.core) zones)) (filter (λ flag. flag) (map (λ (zone : Zone). zone.core) zones)))
    by_test true e = ap suc e
    by_test false e = e

some_core : (zones : List Zone) → has_core zones ≡ true → 0 < length (core_bounds zones)
unfolding has_core
some_core [] e = absurd (cc)
some_core (z ∷ zones) e = by_test z.core e (some_core zones)
  where
    by_test : (b : Bool) → (b || list_any (λ zone. zone.core) zones) ≡ true → (list_any (λ zone. zone.core) zones ≡ true → 0 < length (core_bounds zones))
        → 0 < length (map (λ (zone : Zone). zone.bounds) (cond b (z ∷ filter (λ zone. zone.core) zones) (filter (λ zone. zone.core) zones)))
    by_test true e rest = omega arith
    by_test false e rest = rest e

few_core : (zones : List Zone) → length (core_bounds zones) ≤ length zones
few_core [] = omega arith
few_core (z ∷ zones) = by_test z.core (few_core zones)
  where
    by_test : (b : Bool) → length (core_bounds zones) ≤ length zones → length (map (λ (zone : Zone). zone.bounds) (cond b (z ∷ filter (λ zone. zone.core) zones) (filter (λ zone. zone.core) zones))) ≤ suc (length zones)
    by_test true e = omega arith
    by_test false e = omega arith

-- what holds of the bounds of all zones holds of those of Core
core_all : (P : Bounds → Type 0) (zones : List Zone) → All (λ zone. P zone.bounds) zones → All P (core_bounds zones)
core_all P [] h = All-nil P
core_all P (z ∷ zones) h = by_test z.core (All-head (λ zone. P zone.bounds) z zones h) (core_all P zones (All-tail (λ zone. P zone.bounds) z zones h))
  where
    by_test : (b : Bool) → P z.bounds → All P (core_bounds zones) → All P (map (λ (zone : Zone). zone.bounds) (cond b (z ∷ filter (λ zone. zone.core) zones) (filter (λ zone. zone.core) zones)))
    by_test true here rest = All-cons P z.bounds (core_bounds zones) here rest
    by_test false here rest = rest

-- the sum of a first term and those of the rest
total_first : (f : ℕ → ℕ) (n : ℕ) → total_below (suc n) f ≡ f 0 + total_below n (λ k. f (suc k))
total_first f zero = omega arith
total_first f (suc n) = let e = total_first f n in omega arith

sizes_total : (ps : List ℤ) → sizes_of ps ≡ total_below (length ps) (λ k. nat_abs (at ps k))
sizes_total [] = refl
sizes_total (p ∷ ps) = ap (λ n. nat_abs p + n) (sizes_total ps) ∙ sym (total_first (λ k. nat_abs (at (p ∷ ps) k)) (length ps))

pub zones_fit : (inputs : Inputs) → IsWhole inputs → AreRowZones inputs.keys.columns (row_zones inputs.settings inputs.keys)
zones_fit inputs whole =
    let zones = inputs.settings.zones in
    let bounds = whole.settings.zones.bounds in
    record {
      positions = whole.keys.positions ∙ sym whole.keys.columns;
      flags = length-map zones (λ zone. zone.core) ∙ sym whole.keys.columns;
      bounds = flags_length zones;
      some = some_core zones whole.settings.core;
      in_range = record {
        few = let le = few_core zones in let few = whole.settings.few in omega (arith, le, few);
        lows = core_all (λ b. IsWithin (10 ^ 11) b.low) zones (All-weaker HasBounds (λ zone. IsWithin (10 ^ 11) zone.bounds.low) (λ zone h. h.low) zones bounds);
        highs = core_all (λ b. IsWithin (10 ^ 11) b.high) zones (All-weaker HasBounds (λ zone. IsWithin (10 ^ 11) zone.bounds.high) (λ zone h. h.high) zones bounds);
      };
      ordered = core_all (λ b. b.low ≤ℤ b.high) zones (All-weaker HasBounds (λ zone. zone.bounds.low ≤ℤ zone.bounds.high) (λ zone h. h.ordered) zones bounds);
      small = let small = whole.keys.small in
          subst (λ (n : ℕ). n ≤ 1000000000000) (sym (sizes_total inputs.keys.positions ∙ ap (λ (n : ℕ). total_below n (λ k. nat_abs (at inputs.keys.positions k))) whole.keys.positions)) small;
    }

-- ---- states

pub states_long : (inputs : Inputs) → IsWhole inputs → length inputs.states ≡ suc (length inputs.outages)
states_long inputs whole =
    sym (zip_length (IsStateOf inputs.grid whole.slack) (out_by_state inputs.crac inputs.outages) inputs.states whole.states.of_grid)
    ∙ ap suc (length-map inputs.outages _)

range_few : (test : ℕ → Bool) (from n : ℕ) → length (filter test (range_with_len from n)) ≤ n
range_few test from zero = omega arith
range_few test from (suc n) = by_test (test from) (range_few test (from + 1) n)
  where
    by_test : (b : Bool) → length (filter test (range_with_len (from + 1) n)) ≤ n → length (cond b (from ∷ filter test (range_with_len (from + 1) n)) (filter test (range_with_len (from + 1) n))) ≤ suc n
    by_test true l = omega arith
    by_test false l = omega arith

pub few_outages : (inputs : Inputs) → IsWhole inputs → length inputs.outages ≤ 512
few_outages inputs whole =
    subst (λ (ks : List ℕ). length ks ≤ 512) (sym whole.outages)
    (let l = range_few (λ k. list_any (names k) inputs.crac.elements) 0 (length inputs.crac.contingencies) in let few = whole.crac.few_contingencies in omega (arith, l, few))

pub state_of_grid : (inputs : Inputs) → IsWhole inputs → (k : ℕ) (d : GridState) → k < length inputs.states → IsOfGrid inputs.grid (get_or inputs.states k d)
state_of_grid inputs whole k d l = record {
  slack_node = whole.slack;
  outage = get_or (out_by_state inputs.crac inputs.outages) k [];
  of_grid = zip_get (IsStateOf inputs.grid whole.slack) (out_by_state inputs.crac inputs.outages) inputs.states k [] d whole.states.of_grid
      (let e = zip_length (IsStateOf inputs.grid whole.slack) (out_by_state inputs.crac inputs.outages) inputs.states whole.states.of_grid in omega (arith, e));
}

pub state_in_range : (inputs : Inputs) → IsWhole inputs → (k : ℕ) (d : GridState) → k < length inputs.states → IsInRange inputs.grid (get_or inputs.states k d)
state_in_range inputs whole k d l = All-get_or (IsInRange inputs.grid) inputs.states k d l whole.states.in_range

-- ---- the state of a row

-- the place of a number that is listed
found_below : (k at : ℕ) (xs : List ℕ) → list_any (λ x. x == k) xs ≡ true → unwrap_or (position_from (λ x. x == k) at xs) 0 < at + length xs
found_below k at [] e = absurd (cc)
found_below k at (x ∷ xs) e = by_test (x == k) e (found_below k (at + 1) xs)
  where
    by_test : (b : Bool) → (b || list_any (λ y. y == k) xs) ≡ true → (list_any (λ y. y == k) xs ≡ true → unwrap_or (position_from (λ y. y == k) (at + 1) xs) 0 < at + 1 + length xs)
        → unwrap_or (cond b (Some at) (position_from (λ y. y == k) (at + 1) xs)) 0 < at + suc (length xs)
    by_test true e rest = omega arith
    by_test false e rest = let l = rest e in omega (arith, l)

-- a number that passes a test is among those of a range that pass
kept_in_range : (test : ℕ → Bool) (k from n : ℕ) → from ≤ k → k < from + n → test k ≡ true → list_any (λ x. x == k) (filter test (range_with_len from n)) ≡ true
kept_in_range test k from zero low high e = absurd (omega arith)
kept_in_range test k from (suc n) low high e =
    elim (cases_eq from k) [
      | inl same ↦ here (test from) (ap test same ∙ e) same
      | inr apart ↦ further (test from) (kept_in_range test k (from + 1) n (omega arith) (omega arith) e)
    ]
  where
    here : (b : Bool) → b ≡ true → from ≡ k → list_any (λ x. x == k) (cond b (from ∷ filter test (range_with_len (from + 1) n)) (filter test (range_with_len (from + 1) n))) ≡ true
    here true b same = or_left (from == k) (list_any (λ x. x == k) (filter test (range_with_len (from + 1) n))) (eq-eqb from k same)
    here false b same = absurd (cc)

    further : (b : Bool) → list_any (λ x. x == k) (filter test (range_with_len (from + 1) n)) ≡ true
        → list_any (λ x. x == k) (cond b (from ∷ filter test (range_with_len (from + 1) n)) (filter test (range_with_len (from + 1) n))) ≡ true
    further true h = or_right (from == k) (list_any (λ x. x == k) (filter test (range_with_len (from + 1) n))) h
    further false h = h

-- an outage that an element names has a state
outage_listed : (crac : Crac) (k at : ℕ) (element : Element) → slice_get crac.elements at ≡ Some element → element.contingency ≡ Some k → k < length crac.contingencies → list_any (λ x. x == k) (outages_of crac) ≡ true
outage_listed crac k at element stands named below =
    kept_in_range (λ j. list_any (names j) crac.elements) k 0 (length crac.contingencies) (omega arith) (omega arith)
    (list_any_at (names k) crac.elements at element (slice_get_within crac.elements at element stands)
    (ap (names k) (get_or_from_slice_get crac.elements at element element stands) ∙ (ap (λ o. option_map_or (λ named. named == k) o false) named ∙ eq-eqb k k refl)))

pub element_fits : (inputs : Inputs) → IsWhole inputs → (at : ℕ) (element : Element) → slice_get inputs.crac.elements at ≡ Some element → IsElement (length inputs.grid.branches) (length inputs.crac.contingencies) element
element_fits inputs whole at element stands =
    subst (IsElement (length inputs.grid.branches) (length inputs.crac.contingencies)) (get_or_from_slice_get inputs.crac.elements at element element stands)
    (All-get_or (IsElement (length inputs.grid.branches) (length inputs.crac.contingencies)) inputs.crac.elements at element (slice_get_within inputs.crac.elements at element stands) whole.crac.elements)

pub state_below : (inputs : Inputs) → IsWhole inputs → (at : ℕ) (element : Element) → slice_get inputs.crac.elements at ≡ Some element → state_number inputs.outages element.contingency < length inputs.states
state_below inputs whole at element stands = by_contingency element.contingency refl (element_fits inputs whole at element stands).contingency
  where
    by_contingency : (o : Option ℕ) → element.contingency ≡ o → IfSome o (λ k. k < length inputs.crac.contingencies) → state_number inputs.outages o < length inputs.states
    by_contingency None named below = let e = states_long inputs whole in omega (arith, e)
    by_contingency (Some k) named below =
        let e = states_long inputs whole in
        let listed = subst (λ (xs : List ℕ). list_any (λ x. x == k) xs ≡ true) (sym whole.outages) (outage_listed inputs.crac k at element stands named below) in
        let l = found_below k 0 inputs.outages listed in
        omega (arith, e, l)

-- ---- what is stated of a row

found_all : {X : Type 0} (P : X → Type 0) (test : X → Bool) (xs : List X) → All P xs → IfSome (find test xs) P
found_all P test [] h = tt
found_all P test (x ∷ xs) h = by_test (test x) (All-head P x xs h) (found_all P test xs (All-tail P x xs h))
  where
    by_test : (b : Bool) → P x → IfSome (find test xs) P → IfSome (cond b (Some x) (find test xs)) P
    by_test true here rest = here
    by_test false here rest = rest

amount_or : (part : Reduction → ℤ) (o : Option Reduction) → IfSome o (λ r. (pos 0 ≤ℤ part r) × (part r ≤ℤ pos (10 ^ 11))) → (pos 0 ≤ℤ option_map_or part o (pos 0)) × (option_map_or part o (pos 0) ≤ℤ pos 100000000000)
amount_or part None h = (omega (arith, ints), omega (arith, ints))
amount_or part (Some r) h = h

limit_fits : (o : Option ℤ) (limit : ℤ) → IfSome o (λ l. (pos 1 ≤ℤ l) × (l ≤ℤ pos (10 ^ 11))) → o ≡ Some limit → (pos 1 ≤ℤ limit) × (limit ≤ℤ pos 100000000000)
limit_fits None limit h e = absurd (cc)
limit_fits (Some l) limit h e = subst (λ (z : ℤ). (pos 1 ≤ℤ z) × (z ≤ℤ pos 100000000000)) (same_Some l limit e) h

direction_fits : (branches contingencies : ℕ) (element : Element) (is_opposite : Bool) (limit : ℤ) → IsElement branches contingencies element → limit_in is_opposite element ≡ Some limit → (pos 1 ≤ℤ limit) × (limit ≤ℤ pos 100000000000)
direction_fits branches contingencies element true limit h e = limit_fits element.opposite limit h.opposite e
direction_fits branches contingencies element false limit h e = limit_fits element.direct limit h.direct e

pub stated_fit : (inputs : Inputs) → IsWhole inputs → (row : CracRow) → IsCracRow inputs.crac.elements row → AreTerms (stated inputs row)
stated_fit inputs whole row h =
    let element = element_fits inputs whole row.place row.element h.same_element in
    record {
      limit = direction_fits (length inputs.grid.branches) (length inputs.crac.contingencies) row.element row.opposite row.limit element h.limited;
      margin = element.margin;
      cva = amount_or (λ r. r.cva) (find (is_for row) inputs.reductions)
          (found_all (λ r. (pos 0 ≤ℤ r.cva) × (r.cva ≤ℤ pos (10 ^ 11))) (is_for row) inputs.reductions
          (All-weaker (IsReduction inputs.crac.elements) (λ r. (pos 0 ≤ℤ r.cva) × (r.cva ≤ℤ pos (10 ^ 11))) (λ r i. i.cva) inputs.reductions whole.reductions.each));
      iva = amount_or (λ r. r.iva) (find (is_for row) inputs.reductions)
          (found_all (λ r. (pos 0 ≤ℤ r.iva) × (r.iva ≤ℤ pos (10 ^ 11))) (is_for row) inputs.reductions
          (All-weaker (IsReduction inputs.crac.elements) (λ r. (pos 0 ≤ℤ r.iva) × (r.iva ≤ℤ pos (10 ^ 11))) (λ r i. i.iva) inputs.reductions whole.reductions.each));
      ramr = whole.settings.ramr;
    }

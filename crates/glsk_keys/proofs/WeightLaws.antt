-- What holds of the weights and the blocks of a key.
use Rattle.std.proofs.Common.{◌≡◌, ℕ, zero, suc, ◌+◌, ◌^◌, ◌<◌, ◌≤◌, ◌==◌, ◌||◌, Bool, true, false, cond, ℤ, pos, ◌+ℤ◌, ◌*ℤ◌, ◌<ℤ◌, List, [], ◌∷◌, length, get_or, Option, refl, sym, ap, subst, ◌∙◌, arith}
use Rattle.std.specs.Prelude.{◌≤ℤ◌, All, int_lt}
use Rattle.std.proofs.lemmas.Int.{ints}
use Rattle.std.proofs.lemmas.List.Elements.{All-head, All-tail, All-nil, All-cons}
use Rattle.std.proofs.lemmas.List.FromFn.{get_or-map-range_with_len, length-map-range_with_len}
use Rattle.std.proofs.lemmas.Bool.Decides.{nat_tests}
use Rattle.whole_laws.specs.Ring.{linear, *ℤ-add, mul-positive}
use Rattle.whole_laws.specs.Sums.{sum_over}
use Rattle.whole_laws.specs.SumLaws.{sum_over-nonnegative}
use Rattle.fb_types.specs.declared.grid.Node.{Node}
use Rattle.fb_types.specs.declared.keys.Weight.{Weight}
use Rattle.glsk_keys.specs.Zones.{members_of, is_member, is_listed, listed_of}
use Rattle.glsk_keys.specs.Measures.{values_of, part_at, factor_at, factors_of, total_of}
use Rattle.glsk_keys.specs.Scaling.{power_for, weights_from, block_with}
use Rattle.glsk_keys.specs.Laws.{number, IsWeight, IsBlock}
use Rattle.glsk_keys.specs.declared.measures.Measure.{Measure}
use Rattle.glsk_keys.specs.ScaleFound.{scale_for}
use Rattle.glsk_keys.proofs.ScalingLaws.{scale_some}
use Rattle.glsk_keys.proofs.SizeLaws.{values_low}

-- ---- members
pub member_within : (zone : ℕ) (homes : List (Option ℕ)) (node : ℕ) → is_member zone homes node ≡ true → node < length homes
member_within zone [] node e = absurd cc
member_within zone (h ∷ hs) zero e = omega arith
member_within zone (h ∷ hs) (suc node) e = let l = member_within zone hs node e in omega arith

member_read : (zone : ℕ) (homes : List (Option ℕ)) (node : ℕ) → get_or (members_of zone homes) node false ≡ true → is_member zone homes node ≡ true
member_read zone [] node e = absurd cc
member_read zone (h ∷ hs) zero e = e
member_read zone (h ∷ hs) (suc node) e = member_read zone hs node e

-- a listed node is one of the list
listed_member : (zone : ℕ) (homes : List (Option ℕ)) (places : List ℕ) (node : ℕ) → All (λ place. is_member zone homes place ≡ true) places → is_listed places node ≡ true → is_member zone homes node ≡ true
listed_member zone homes [] node h e = absurd cc
listed_member zone homes (place ∷ places) node h e = by_test (place == node) refl e (λ t. listed_member zone homes places node (All-tail (λ p. is_member zone homes p ≡ true) place places h) t)
  where
    by_test : (b : Bool) → (place == node) ≡ b → (b || is_listed places node) ≡ true → (is_listed places node ≡ true → is_member zone homes node ≡ true) → is_member zone homes node ≡ true
    by_test true same t later =
        let is : place ≡ node = grind (arith, nat_tests) in
        subst (λ n. is_member zone homes n ≡ true) is (All-head (λ p. is_member zone homes p ≡ true) place places h)
    by_test false other t later = later t

-- ---- weights of all nodes, of which those of a zone alone are above 0
pub record AreOf (homes : List (Option ℕ)) (zone : ℕ) (values : List ℤ) : Type 0 where
  pub low : All (λ w. pos 0 ≤ℤ w) values
  pub of_zone : (k : ℕ) → k < length values → pos 0 <ℤ get_or values k (pos 0) → is_member zone homes k ≡ true

chosen_one : (m : Measure) (cs : List Bool) (ns : List Node) (k : ℕ) → pos 0 <ℤ get_or (values_of m cs ns) k (pos 0) → get_or cs k false ≡ true
chosen_one m [] ns k h = absurd (omega (arith, ints))
chosen_one m (c ∷ cs) [] k h = absurd (omega (arith, ints))
chosen_one m (true ∷ cs) (n ∷ ns) zero h = refl
chosen_one m (false ∷ cs) (n ∷ ns) zero h = absurd (omega (arith, ints))
chosen_one m (c ∷ cs) (n ∷ ns) (suc k) h = chosen_one m cs ns k h

few_values : (m : Measure) (cs : List Bool) (ns : List Node) → length (values_of m cs ns) ≤ length cs
few_values m [] ns = omega arith
few_values m (c ∷ cs) [] = omega arith
few_values m (c ∷ cs) (n ∷ ns) = let l = few_values m cs ns in omega arith

pub members_are : (homes : List (Option ℕ)) (zone : ℕ) (m : Measure) (ns : List Node) → AreOf homes zone (values_of m (members_of zone homes) ns)
members_are homes zone m ns = record {
  low = values_low m (members_of zone homes) ns;
  of_zone = λ k l h. member_read zone homes k (chosen_one m (members_of zone homes) ns k h);
}

pub listed_are : (homes : List (Option ℕ)) (zone : ℕ) (m : Measure) (count : ℕ) (places : List ℕ) (ns : List Node) → All (λ place. is_member zone homes place ≡ true) places
    → AreOf homes zone (values_of m (listed_of count places) ns)
listed_are homes zone m count places ns members = record {
  low = values_low m (listed_of count places) ns;
  of_zone = λ k l h.
      let few = few_values m (listed_of count places) ns in
      let n = length-map-range_with_len (is_listed places) 0 count in
      let b : k < count = omega arith in
      let read = get_or-map-range_with_len (is_listed places) 0 count k k false b (omega arith) in
      listed_member zone homes places k members (sym read ∙ chosen_one m (listed_of count places) ns k h);
}

-- a factor that is not negative, of a node of the zone
pub record IsGiven (homes : List (Option ℕ)) (zone : ℕ) (w : Weight) : Type 0 where
  pub low : pos 0 ≤ℤ w.weight
  pub of_zone : is_member zone homes w.node ≡ true

given_low : (k : ℕ) (homes : List (Option ℕ)) (zone : ℕ) (w : Weight) → IsGiven homes zone w → pos 0 ≤ℤ part_at k w
given_low k homes zone w h = by_case (w.node == k)
  where
    by_case : (b : Bool) → pos 0 ≤ℤ cond b w.weight (pos 0)
    by_case true = h.low
    by_case false = omega (arith, ints)

given_one : (homes : List (Option ℕ)) (zone : ℕ) (xs : List Weight) (k : ℕ) → All (IsGiven homes zone) xs → pos 0 <ℤ factor_at xs k → is_member zone homes k ≡ true
given_one homes zone [] k h p = absurd (omega (arith, ints))
given_one homes zone (w ∷ ws) k h p = by_test (w.node == k) refl p (λ q. given_one homes zone ws k (All-tail (IsGiven homes zone) w ws h) q)
  where
    by_test : (b : Bool) → (w.node == k) ≡ b → pos 0 <ℤ (cond b w.weight (pos 0) +ℤ factor_at ws k) → (pos 0 <ℤ factor_at ws k → is_member zone homes k ≡ true) → is_member zone homes k ≡ true
    by_test true same q later =
        let is : w.node ≡ k = grind (arith, nat_tests) in
        subst (λ n. is_member zone homes n ≡ true) is (All-head (IsGiven homes zone) w ws h).of_zone
    by_test false other q later = later (omega (arith, ints))

pub given_are : (homes : List (Option ℕ)) (zone count : ℕ) (xs : List Weight) → All (IsGiven homes zone) xs → AreOf homes zone (factors_of count xs)
given_are homes zone count xs h = record {
  low = λ k d l.
      let b : k < count = omega (arith, length-map-range_with_len (factor_at xs) 0 count) in
      let read = get_or-map-range_with_len (factor_at xs) 0 count k k d b (omega arith) in
      subst (λ z. pos 0 ≤ℤ z) (sym read) (sum_over-nonnegative (part_at k) xs (λ j e m. given_low k homes zone _ (h j e m)));
  of_zone = λ k l p.
      let b : k < count = omega (arith, length-map-range_with_len (factor_at xs) 0 count) in
      let read = get_or-map-range_with_len (factor_at xs) 0 count k k (pos 0) b (omega arith) in
      given_one homes zone xs k h (subst (λ z. pos 0 <ℤ z) read p);
}

-- ---- scaled weights
weights_all : (homes : List (Option ℕ)) (zone node : ℕ) (power : ℤ) (ws : List ℤ) → pos 0 <ℤ power
    → ((k : ℕ) → k < length ws → pos 0 <ℤ get_or ws k (pos 0) → is_member zone homes (node + k) ≡ true) → All (IsWeight homes zone) (weights_from node power ws)
weights_all homes zone node power [] p h = All-nil (IsWeight homes zone)
weights_all homes zone node power (w ∷ ws) p h =
    by_test (int_lt (pos 0) w) refl
    (weights_all homes zone (node + 1) power ws p (λ k l q. let e : node + suc k ≡ node + 1 + k = omega arith in subst (λ n. is_member zone homes n ≡ true) e (h (suc k) (omega arith) q)))
  where
    by_test : (b : Bool) → int_lt (pos 0) w ≡ b → All (IsWeight homes zone) (weights_from (node + 1) power ws)
        → All (IsWeight homes zone) (cond b (record { node = node; weight = power *ℤ w } ∷ weights_from (node + 1) power ws) (weights_from (node + 1) power ws))
    by_test false e rest = rest
    by_test true e rest =
        let q : pos 0 <ℤ w = grind (arith, ints) in
        let same : node + 0 ≡ node = omega arith in
        let member = subst (λ n. is_member zone homes n ≡ true) same (h 0 (omega arith) q) in
        let one : IsWeight homes zone (record { node = node; weight = power *ℤ w }) = record { node = member_within zone homes node member; of_zone = member; positive = mul-positive power w p q } in
        All-cons (IsWeight homes zone) (record { node = node; weight = power *ℤ w }) (weights_from (node + 1) power ws) one rest

weights_total : (node : ℕ) (power : ℤ) (ws : List ℤ) → All (λ w. pos 0 ≤ℤ w) ws → sum_over number (weights_from node power ws) ≡ power *ℤ total_of ws
weights_total node power [] h = omega (arith, ints)
weights_total node power (w ∷ ws) h = by_test (int_lt (pos 0) w) refl (weights_total (node + 1) power ws (All-tail (λ v. pos 0 ≤ℤ v) w ws h))
  where
    by_test : (b : Bool) → int_lt (pos 0) w ≡ b → sum_over number (weights_from (node + 1) power ws) ≡ power *ℤ total_of ws
        → sum_over number (cond b (record { node = node; weight = power *ℤ w } ∷ weights_from (node + 1) power ws) (weights_from (node + 1) power ws)) ≡ power *ℤ total_of (w ∷ ws)
    by_test true e rest = ap (λ z. power *ℤ w +ℤ z) rest ∙ sym (*ℤ-add power w (total_of ws))
    by_test false e rest =
        let low = All-head (λ v. pos 0 ≤ℤ v) w ws h in
        let high : w ≤ℤ pos 0 = grind (arith, ints) in
        let none : w ≡ pos 0 = omega (arith, linear) in
        let same : total_of ws ≡ total_of (w ∷ ws) = omega (arith, ints) in
        rest ∙ ap (λ z. power *ℤ z) same

tenth : (z : ℤ) → pos (10 ^ 12) <ℤ (pos 10 *ℤ z) → pos (10 ^ 11) <ℤ z
tenth z h = omega (arith, ints)

pub block_holds : (homes : List (Option ℕ)) (zone : ℕ) (share : ℤ) (values : List ℤ) → pos 0 ≤ℤ share → AreOf homes zone values → pos 1 ≤ℤ total_of values → total_of values ≤ℤ pos (10 ^ 12)
    → IsBlock homes zone (block_with share values)
unfolding block_with
block_holds homes zone share values s h p l =
    let scale = scale_for (total_of values) p l in
    let some = scale_some (total_of values) (power_for (total_of values)) scale in
    record {
      share = s;
      weights = weights_all homes zone 0 (power_for (total_of values)) values (omega (arith, linear)) (λ k b q. subst (λ n. is_member zone homes n ≡ true) (let e : k ≡ 0 + k = omega arith in e) (h.of_zone k b q));
      total = sym (weights_total 0 (power_for (total_of values)) values h.low);
      some = tenth _ scale.greatest;
      few = scale.fits;
    }

pub block_share : (share : ℤ) (values : List ℤ) → (block_with share values).share ≡ share
unfolding block_with
block_share share values = refl

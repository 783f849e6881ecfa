-- How large the numbers at nodes are.
use Rattle.std.proofs.Common.{◌≡◌, ℕ, zero, suc, ◌+◌, ◌*◌, ◌^◌, ◌<◌, ◌≤◌, ◌==◌, Bool, true, false, cond, ℤ, pos, ◌+ℤ◌, List, [], ◌∷◌, length, take, get_or, refl, sym, ap, subst, ◌∙◌, arith, lit<, mul-le-mul}
use Rattle.std.specs.Prelude.{◌≤ℤ◌, All, sum_by}
use Rattle.std.specs.List.{range_with_len}
use Rattle.std.proofs.lemmas.Int.{ints, to_z-of_z}
use mir.Syntax.{w64, w128}
use mir.Val.{SFits, to_z, of_z}
use Rattle.std.proofs.lemmas.List.{length-take}
use Rattle.std.proofs.lemmas.List.Elements.{All-take, All-nil, All-cons, All-map, All-same}
use Rattle.std.proofs.lemmas.List.FromFn.{length-map-range_with_len}
use Rattle.std.proofs.lemmas.List.Sums.{sum_by-cons, sum_by-take-le}
use Rattle.whole_laws.specs.Sums.{IsWithin}
use Rattle.whole_laws.specs.SumLaws.{sum_over-nonnegative, sum_over-more, within_sum}
use Rattle.fb_types.specs.GridRanges.{exchange_of, AreInjections}
use Rattle.fb_types.specs.declared.grid.Node.{Node}
use Rattle.fb_types.specs.declared.keys.Weight.{Weight}
use Rattle.fb_types.specs.declared.keys.Block.{Block}
use Rattle.glsk_keys.specs.Measures.{value_of, chosen_value, values_of, part_at, factor_at, factors_of, total_of, injection_of, net_of}
use Rattle.glsk_keys.specs.Document.{shares_of}
use Rattle.glsk_keys.specs.Sizes.{AreSmall, AreWeights, IsFactor, IsShare}
use Rattle.glsk_keys.specs.declared.measures.Measure.{Measure}
use Rattle.glsk_keys.specs.declared.measures.Measure.TheVariants.{Generation, Load, One, Size}
use Rattle.glsk_keys.proofs.ScalingLaws.{fits, fits_64}
use Rattle.glsk_keys.proofs.MeasureLaws.{factor_within, factors_within, wider, sum_over-within}

-- ---- factors
part_low : (k : ℕ) (w : Weight) → IsFactor w → pos 0 ≤ℤ part_at k w
part_low k w h = by_case (w.node == k)
  where
    by_case : (b : Bool) → pos 0 ≤ℤ cond b w.weight (pos 0)
    by_case true = h.low
    by_case false = omega (arith, ints)

pub factors_weights : (count : ℕ) (xs : List Weight) (fs : List ℤ) → fs ≡ factors_of count xs → All IsFactor xs → AreWeights fs
factors_weights count xs fs e h = record {
  each = All-same (λ w. pos 0 ≤ℤ w) fs (factors_of count xs) e
      (All-map (λ w. pos 0 ≤ℤ w) (factor_at xs) (range_with_len 0 count) (λ j d l. sum_over-nonnegative (part_at (get_or (range_with_len 0 count) j d)) xs (λ k v m. part_low _ (get_or xs k v) (h k v m))));
}

pub factors_small : (count : ℕ) (xs : List Weight) (fs : List ℤ) → fs ≡ factors_of count xs → count ≤ 4096 → length xs < 2 ^ 64 → All IsFactor xs → AreSmall fs
factors_small count xs fs e few f h = record {
  few = omega (arith, ap length e, length-map-range_with_len (factor_at xs) 0 count);
  each = All-same (IsWithin (2 ^ 110)) fs (factors_of count xs) e
      (All-map (IsWithin (2 ^ 110)) (factor_at xs) (range_with_len 0 count) (λ j d l. one (get_or (range_with_len 0 count) j d)));
}
  where
    one : (k : ℕ) → IsWithin (2 ^ 110) (factor_at xs k)
    one k = wider (length xs * 10 ^ 12) (2 ^ 110) _ (omega arith) (factor_within (10 ^ 12) k xs (factors_within xs h))

-- ---- values
value_low : (m : Measure) (n : Node) → pos 0 ≤ℤ value_of m n
value_low Generation n = grind (arith, ints)
value_low Load n = grind (arith, ints)
value_low One n = omega (arith, ints)
value_low Size n = omega (arith, ints)

value_high : (m : Measure) (n : Node) (most : ℕ) → exchange_of n ≤ most → 1 ≤ most → value_of m n ≤ℤ pos most
value_high Generation n most h k = grind (arith, ints)
value_high Load n most h k = grind (arith, ints)
value_high One n most h k = omega (arith, ints)
value_high Size n most h k = omega (arith, ints)

chosen_low : (m : Measure) (c : Bool) (n : Node) → pos 0 ≤ℤ chosen_value m c n
chosen_low m true n = value_low m n
chosen_low m false n = omega (arith, ints)

chosen_high : (m : Measure) (c : Bool) (n : Node) (most : ℕ) → exchange_of n ≤ most → 1 ≤ most → chosen_value m c n ≤ℤ pos most
chosen_high m true n most h k = value_high m n most h k
chosen_high m false n most h k = omega (arith, ints)

exchanges : (n : Node) (ns : List Node) → sum_by exchange_of (n ∷ ns) ≡ exchange_of n + sum_by exchange_of ns
exchanges n ns = sum_by-cons exchange_of n ns

pub values_low : (m : Measure) (cs : List Bool) (ns : List Node) → All (λ w. pos 0 ≤ℤ w) (values_of m cs ns)
values_low m [] ns = All-nil (λ w. pos 0 ≤ℤ w)
values_low m (c ∷ cs) [] = All-nil (λ w. pos 0 ≤ℤ w)
values_low m (c ∷ cs) (n ∷ ns) = All-cons (λ w. pos 0 ≤ℤ w) (chosen_value m c n) (values_of m cs ns) (chosen_low m c n) (values_low m cs ns)

values_within : (m : Measure) (cs : List Bool) (ns : List Node) (most : ℕ) → sum_by exchange_of ns ≤ most → 1 ≤ most → All (IsWithin most) (values_of m cs ns)
values_within m [] ns most h k = All-nil (IsWithin most)
values_within m (c ∷ cs) [] most h k = All-nil (IsWithin most)
values_within m (c ∷ cs) (n ∷ ns) most h k =
    let e = exchanges n ns in
    let high = chosen_high m c n most (omega arith) k in
    let low = chosen_low m c n in
    All-cons (IsWithin most) (chosen_value m c n) (values_of m cs ns) (record { low = omega (arith, ints); high = high }) (values_within m cs ns most (omega arith) k)

pub length-values_of : (m : Measure) (cs : List Bool) (ns : List Node) → length cs ≡ length ns → length (values_of m cs ns) ≡ length ns
length-values_of m [] [] h = refl
length-values_of m [] (n ∷ ns) h = absurd cc
length-values_of m (c ∷ cs) [] h = absurd cc
length-values_of m (c ∷ cs) (n ∷ ns) h = ap suc (length-values_of m cs ns (omega arith))

pub values_weights : (m : Measure) (cs : List Bool) (ns : List Node) (vs : List ℤ) → vs ≡ values_of m cs ns → AreWeights vs
values_weights m cs ns vs e = record { each = All-same (λ w. pos 0 ≤ℤ w) vs (values_of m cs ns) e (values_low m cs ns) }

pub values_small : (m : Measure) (cs : List Bool) (ns : List Node) (vs : List ℤ) → vs ≡ values_of m cs ns → length cs ≡ length ns → length ns ≤ 4096 → AreInjections ns → AreSmall vs
values_small m cs ns vs e l few h = record {
  few = omega (arith, ap length e, length-values_of m cs ns l);
  each = All-same (IsWithin (2 ^ 110)) vs (values_of m cs ns) e (λ j d b. wider (10 ^ 12) (2 ^ 110) _ (omega arith) (values_within m cs ns (10 ^ 12) h.small (omega arith) j d b));
}

-- the sizes of chosen nodes are at most those of all
size_high : (c : Bool) (n : Node) → chosen_value Size c n ≤ℤ pos (exchange_of n)
size_high true n = omega (arith, ints)
size_high false n = omega (arith, ints)

pub sizes_high : (cs : List Bool) (ns : List Node) → total_of (values_of Size cs ns) ≤ℤ pos (sum_by exchange_of ns)
sizes_high [] ns = omega (arith, ints)
sizes_high (c ∷ cs) [] = omega (arith, ints)
sizes_high (c ∷ cs) (n ∷ ns) = let e = exchanges n ns in omega (arith, ints, size_high c n, sizes_high cs ns)

-- ---- net positions
injection_within : (c : Bool) (n : Node) → IsWithin (exchange_of n) (injection_of c n)
injection_within true n = record { low = omega (arith, ints); high = omega (arith, ints) }
injection_within false n = record { low = omega (arith, ints); high = omega (arith, ints) }

pub net_within : (cs : List Bool) (ns : List Node) → IsWithin (sum_by exchange_of ns) (net_of cs ns)
net_within [] ns = record { low = omega (arith, ints); high = omega (arith, ints) }
net_within (c ∷ cs) [] = record { low = omega (arith, ints); high = omega (arith, ints) }
net_within (c ∷ cs) (n ∷ ns) =
    subst (λ k. IsWithin k (net_of (c ∷ cs) (n ∷ ns))) (sym (exchanges n ns))
    (within_sum (exchange_of n) (sum_by exchange_of ns) (injection_of c n) (net_of cs ns) (injection_within c n) (net_within cs ns))

pub net_of-more : (cs : List Bool) (ns : List Node) (i : ℕ) (c : Bool) (n : Node) → i < length cs → i < length ns
    → net_of (take (i + 1) cs) (take (i + 1) ns) ≡ net_of (take i cs) (take i ns) +ℤ injection_of (get_or cs i c) (get_or ns i n)
net_of-more [] ns i c n h k = absurd (omega arith)
net_of-more (x ∷ cs) [] i c n h k = absurd (omega arith)
net_of-more (x ∷ cs) (y ∷ ns) zero c n h k = omega (arith, ints)
net_of-more (x ∷ cs) (y ∷ ns) (suc i) c n h k =
    let e : suc i + 1 ≡ suc (i + 1) = omega arith in
    rw e (omega (arith, ints, net_of-more cs ns i c n (omega arith) (omega arith)))

-- the net position of the first nodes
pub net_small : (cs : List Bool) (ns : List Node) (i : ℕ) → AreInjections ns → IsWithin (10 ^ 12) (net_of (take i cs) (take i ns))
net_small cs ns i h = wider (sum_by exchange_of (take i ns)) (10 ^ 12) _ (omega (arith, sum_by-take-le exchange_of ns i, h.small)) (net_within (take i cs) (take i ns))

-- one node more
pub net_next : (cs : List Bool) (ns : List Node) (i : ℕ) (node : Node) (net part : ℤ) → length cs ≡ length ns → i < length ns → node ≡ get_or ns i node
    → net ≡ net_of (take i cs) (take i ns) → part ≡ injection_of (get_or cs i false) node → net +ℤ part ≡ net_of (take (i + 1) cs) (take (i + 1) ns)
net_next cs ns i node net part e l r n p =
    let more = net_of-more cs ns i false node (omega arith) l in
    ap (λ z. z +ℤ part) n ∙ (ap (λ z. net_of (take i cs) (take i ns) +ℤ z) (p ∙ ap (λ y. injection_of (get_or cs i false) y) r) ∙ sym more)

pub net_fits : (cs : List Bool) (ns : List Node) (i : ℕ) (z : ℤ) → z ≡ net_of (take i cs) (take i ns) → AreInjections ns → SFits w64 z
net_fits cs ns i z e h = fits_64 (10 ^ 12) z (subst (IsWithin (10 ^ 12)) (sym e) (net_small cs ns i h)) (lit< tt)

-- each load and each generation is at most all of them
part_of_all : (nodes : List Node) (k : ℕ) (d : Node) → k < length nodes → exchange_of (get_or nodes k d) ≤ sum_by exchange_of nodes
part_of_all [] k d l = absurd (omega arith)
part_of_all (node ∷ nodes) zero d l = let e = exchanges node nodes in omega arith
part_of_all (node ∷ nodes) (suc k) d l = let e = exchanges node nodes in omega (arith, part_of_all nodes k d (omega arith))

pub parts_within : (nodes : List Node) (k : ℕ) (d : Node) → k < length nodes → AreInjections nodes → IsWithin (10 ^ 12) (get_or nodes k d).load × IsWithin (10 ^ 12) (get_or nodes k d).generation
parts_within nodes k d l h =
    let part = part_of_all nodes k d l in
    (record { low = omega (arith, ints, h.small); high = omega (arith, ints, h.small) }, record { low = omega (arith, ints, h.small); high = omega (arith, ints, h.small) })

-- ---- shares
pub shares_within : (blocks : List Block) (i : ℕ) → All (λ b. IsShare b.share) blocks → IsWithin (length blocks * 100000000) (shares_of (take i blocks))
shares_within blocks i h =
    let t = sum_over-within 100000000 (λ b. b.share) (take i blocks) (λ k d l. let s = All-take (λ b. IsShare b.share) i blocks h k d l in record { low = omega (arith, ints, s.low); high = omega (arith, ints, s.high) }) in
    let n = length-take i blocks in
    let l : length (take i blocks) ≤ length blocks = omega arith in
    let m : 100000000 ≤ 100000000 = omega arith in
    wider (length (take i blocks) * 100000000) (length blocks * 100000000) _ (mul-le-mul l m) t

pub shares_next : (blocks : List Block) (i : ℕ) (block : Block) (so_far share : ℤ) → length blocks < 2 ^ 63 → All (λ b. IsShare b.share) blocks → i < length blocks → block ≡ get_or blocks i block
    → so_far ≡ shares_of (take i blocks) → share ≡ to_z w64 (of_z w64 block.share)
    → SFits w128 share × SFits w128 (so_far +ℤ share) × (so_far +ℤ share ≡ shares_of (take (i + 1) blocks))
shares_next blocks i block so_far share few h l r e s =
    let one = h i block l in
    let small : IsShare block.share = subst (λ b. IsShare b.share) (sym r) one in
    let within : IsWithin 100000000 block.share = record { low = omega (arith, ints, small.low); high = omega (arith, ints, small.high) } in
    let is : share ≡ block.share = s ∙ to_z-of_z w64 _ (fits_64 100000000 _ within (lit< tt)) in
    let more = sum_over-more (λ b. b.share) blocks i block l in
    let next : so_far +ℤ share ≡ shares_of (take (i + 1) blocks) = ap (λ z. z +ℤ share) e ∙ (ap (λ z. shares_of (take i blocks) +ℤ z) (is ∙ ap (λ b. b.share) r) ∙ sym more) in
    let all : IsWithin (2 ^ 90) (shares_of (take (i + 1) blocks)) = wider (length blocks * 100000000) (2 ^ 90) _ (omega arith) (shares_within blocks (i + 1) h) in
    (subst (SFits w128) (sym is) (fits 100000000 _ within (lit< tt)), subst (SFits w128) (sym next) (fits (2 ^ 90) _ all (lit< tt)), next)

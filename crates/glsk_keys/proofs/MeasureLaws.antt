-- Numbers at nodes, one more at a time.
use Rattle.std.proofs.Common.{◌≡◌, ℕ, zero, suc, ◌+◌, ◌*◌, ◌^◌, ◌<◌, ◌≤◌, ◌==◌, ◌||◌, Bool, true, false, cond, inl, inr, ℤ, pos, ◌+ℤ◌, List, [], ◌∷◌, ◌++◌, length, take, get_or, set, map, replicate, refl, sym, ap, subst, ◌∙◌, arith, mul-le-mul, lit<}
use Rattle.std.specs.Prelude.{All}
use Rattle.std.specs.List.{range_with_len}
use Rattle.std.proofs.lemmas.Int.{ints, to_z-of_z}
use mir.Syntax.{w64, w128}
use mir.Val.{SFits, to_z, of_z}
use Rattle.std.proofs.lemmas.List.{length-set, length-take, get_or-set_same, get_or-set_other, get_or-replicate, length-replicate, get_or_default}
use Rattle.std.proofs.lemmas.List.Elements.{All-head, All-tail, All-take}
use Rattle.std.proofs.lemmas.List.Folds.{list_any_more}
use Rattle.glsk_keys.specs.Zones.{is_listed, listed_of}
use Rattle.std.proofs.lemmas.List.FromFn.{fill_by_all, get_or-map-range_with_len, length-map-range_with_len}
use Rattle.std.proofs.lemmas.Bool.{cases_eq}
use Rattle.std.proofs.lemmas.Bool.Decides.{nat_tests}
use Rattle.whole_laws.specs.Sums.{sum_over, IsWithin}
use Rattle.whole_laws.specs.SumLaws.{sum_over-more, within_sum}
use Rattle.fb_types.specs.declared.grid.Node.{Node}
use Rattle.fb_types.specs.declared.keys.Weight.{Weight}
use Rattle.glsk_keys.specs.Measures.{chosen_value, values_of, part_at, factor_at, factors_of, itself, total_of}
use Rattle.glsk_keys.specs.Sizes.{IsFactor}
use Rattle.glsk_keys.specs.declared.measures.Measure.{Measure}
use Rattle.glsk_keys.proofs.ScalingLaws.{fits, fits_64}

pub values_of-more : (m : Measure) (cs : List Bool) (ns : List Node) (i : ℕ) (c : Bool) (n : Node) → i < length cs → i < length ns
    → values_of m (take (i + 1) cs) (take (i + 1) ns) ≡ values_of m (take i cs) (take i ns) ++ chosen_value m (get_or cs i c) (get_or ns i n) ∷ []
values_of-more m [] ns i c n h k = absurd (omega arith)
values_of-more m (x ∷ cs) [] i c n h k = absurd (omega arith)
values_of-more m (x ∷ cs) (y ∷ ns) zero c n h k = refl
values_of-more m (x ∷ cs) (y ∷ ns) (suc i) c n h k =
    let e : suc i + 1 ≡ suc (i + 1) = omega arith in
    rw e (ap (λ zs. chosen_value m x y ∷ zs) (values_of-more m cs ns i c n (omega arith) (omega arith)))

-- ---- sums of so many numbers
pub sum_over-within : {X : Type 0} (m : ℕ) (f : X → ℤ) (xs : List X) → All (λ x. IsWithin m (f x)) xs → IsWithin (length xs * m) (sum_over f xs)
sum_over-within m f [] h = record { low = omega (arith, ints); high = omega (arith, ints) }
sum_over-within m f (x ∷ xs) h =
    let first = All-head (λ y. IsWithin m (f y)) x xs h in
    let rest = sum_over-within m f xs (All-tail (λ y. IsWithin m (f y)) x xs h) in
    let both = within_sum m (length xs * m) (f x) (sum_over f xs) first rest in
    let e : m + length xs * m ≡ length (x ∷ xs) * m = omega arith in
    subst (λ n. IsWithin n (f x +ℤ sum_over f xs)) e both

pub wider : (m n : ℕ) (z : ℤ) → m ≤ n → IsWithin m z → IsWithin n z
wider m n z l h = record { low = omega (arith, ints, h.low); high = omega (arith, ints, h.high) }

-- ---- factors
part_within : (m k : ℕ) (w : Weight) → IsWithin m w.weight → IsWithin m (part_at k w)
part_within m k w h = by_case (w.node == k)
  where
    by_case : (b : Bool) → IsWithin m (cond b w.weight (pos 0))
    by_case true = h
    by_case false = record { low = omega (arith, ints); high = omega (arith, ints) }

pub factor_within : (m k : ℕ) (xs : List Weight) → All (λ w. IsWithin m w.weight) xs → IsWithin (length xs * m) (factor_at xs k)
factor_within m k xs h = sum_over-within m (part_at k) xs (λ j d l. part_within m k (get_or xs j d) (h j d l))

part_same : (w : Weight) (k : ℕ) → w.node ≡ k → part_at k w ≡ w.weight
part_same w k e =
    let t : (w.node == k) ≡ true = grind (arith, nat_tests) in
    ap (λ (b : Bool). cond b w.weight (pos 0)) t

part_other : (w : Weight) (k : ℕ) → (w.node ≡ k → ⊥) → part_at k w ≡ pos 0
part_other w k n =
    let t : (w.node == k) ≡ false = grind (arith, nat_tests) in
    ap (λ (b : Bool). cond b w.weight (pos 0)) t

factor-more : (xs : List Weight) (i k : ℕ) (d : Weight) → i < length xs → factor_at (take (i + 1) xs) k ≡ factor_at (take i xs) k +ℤ part_at k (get_or xs i d)
factor-more xs i k d h = sum_over-more (part_at k) xs i d h

sized : (count : ℕ) (xs : List Weight) (fs : List ℤ) → fs ≡ factors_of count xs → length fs ≡ count
sized count xs fs e = ap length e ∙ length-map-range_with_len (factor_at xs) 0 count

read : (count : ℕ) (xs : List Weight) (fs : List ℤ) (k : ℕ) → fs ≡ factors_of count xs → k < count → get_or fs k (pos 0) ≡ factor_at xs k
read count xs fs k e b = ap (λ (zs : List ℤ). get_or zs k (pos 0)) e ∙ get_or-map-range_with_len (factor_at xs) 0 count k k (pos 0) b (omega arith)

-- the sum of the factors of a node, with one more
pub factor_raised : (count : ℕ) (xs : List Weight) (i : ℕ) (d : Weight) (fs : List ℤ) → i < length xs → fs ≡ factors_of count (take i xs) → (get_or xs i d).node < count
    → get_or fs (get_or xs i d).node (pos 0) +ℤ (get_or xs i d).weight ≡ factor_at (take (i + 1) xs) (get_or xs i d).node
factor_raised count xs i d fs h e l =
    let old = read count (take i xs) fs (get_or xs i d).node e l in
    let one = factor-more xs i (get_or xs i d).node d h in
    let now : part_at (get_or xs i d).node (get_or xs i d) ≡ (get_or xs i d).weight = part_same (get_or xs i d) (get_or xs i d).node refl in
    cc

-- a table of f, where a place that had another value is written
pub written : {X : Type 0} (f : ℕ → X) (fs : List X) (count node : ℕ) (d v : X) → length fs ≡ count → node < count → v ≡ f node → ((k : ℕ) → k < count → (k ≡ node → ⊥) → get_or fs k d ≡ f k)
    → set fs node v ≡ map f (range_with_len 0 count)
written f fs count node d v n l e o =
    fill_by_all f (set fs node v) count d (length-set fs node v ∙ n)
    (λ k b. elim (cases_eq k node) [ inl s ↦ subst (λ j. get_or (set fs node v) j d ≡ f j) (sym s) (get_or-set_same fs node v d (omega arith) ∙ e) | inr m ↦ get_or-set_other fs node k v d m ∙ o k b m ])

pub factors-more : (count : ℕ) (xs : List Weight) (i : ℕ) (d : Weight) (fs : List ℤ) → i < length xs → fs ≡ factors_of count (take i xs) → (get_or xs i d).node < count
    → set fs (get_or xs i d).node (get_or fs (get_or xs i d).node (pos 0) +ℤ (get_or xs i d).weight) ≡ factors_of count (take (i + 1) xs)
factors-more count xs i d fs h e l =
    written (factor_at (take (i + 1) xs)) fs count (get_or xs i d).node (pos 0) _ (sized count (take i xs) fs e) l (factor_raised count xs i d fs h e l)
    (λ k b o.
    let one = factor-more xs i k d h in
    let now : part_at k (get_or xs i d) ≡ pos 0 = part_other (get_or xs i d) k (λ s. o (sym s)) in
    let old = read count (take i xs) fs k e b in
    let none : factor_at (take i xs) k +ℤ pos 0 ≡ factor_at (take i xs) k = omega (arith, ints) in
    cc)

pub factors-past : (count : ℕ) (xs : List Weight) (i : ℕ) (d : Weight) (fs : List ℤ) → i < length xs → fs ≡ factors_of count (take i xs)
    → length fs ≤ (get_or xs i d).node → fs ≡ factors_of count (take (i + 1) xs)
factors-past count xs i d fs h e l =
    fill_by_all (factor_at (take (i + 1) xs)) fs count (pos 0) (sized count (take i xs) fs e)
    (λ k b.
    let size = sized count (take i xs) fs e in
    let old = read count (take i xs) fs k e b in
    let one = factor-more xs i k d h in
    let now : part_at k (get_or xs i d) ≡ pos 0 = part_other (get_or xs i d) k (λ s. absurd (omega arith)) in
    let none : factor_at (take i xs) k +ℤ pos 0 ≡ factor_at (take i xs) k = omega (arith, ints) in
    cc)

pub sized_factors : (count : ℕ) (xs : List Weight) (fs : List ℤ) (node : ℕ) → fs ≡ factors_of count xs → node < length fs → node < count
sized_factors count xs fs node e l = omega (arith, sized count xs fs e)

pub factors-none : (count : ℕ) → replicate count (pos 0) ≡ factors_of count []
factors-none count = fill_by_all (factor_at []) (replicate count (pos 0)) count (pos 0) (length-replicate count (pos 0)) (λ k b. get_or-replicate count k (pos 0) (pos 0) b)

pub factors_within : (xs : List Weight) → All IsFactor xs → All (λ w. IsWithin (10 ^ 12) w.weight) xs
factors_within xs h = λ k d l. let f = h k d l in record { low = omega (arith, ints, f.low); high = omega (arith, ints, f.high) }

-- ---- what the code adds up, in 128 bits
pub part_fits : (k : ℕ) (xs : List Weight) (i : ℕ) → length xs < 2 ^ 64 → All (λ w. IsWithin (10 ^ 12) w.weight) xs → SFits w128 (factor_at (take i xs) k)
part_fits k xs i f h =
    let t = factor_within (10 ^ 12) k (take i xs) (All-take (λ w. IsWithin (10 ^ 12) w.weight) i xs h) in
    let n = length-take i xs in
    let l : length (take i xs) ≤ 2 ^ 64 = omega arith in
    let m : 10 ^ 12 ≤ 10 ^ 12 = omega arith in
    fits (2 ^ 64 * 10 ^ 12) _ (wider (length (take i xs) * 10 ^ 12) (2 ^ 64 * 10 ^ 12) _ (mul-le-mul l m) t) (lit< tt)

pub added : (count : ℕ) (xs : List Weight) (i : ℕ) (d : Weight) (fs : List ℤ) (now from : ℤ) → i < length xs → fs ≡ factors_of count (take i xs) → (get_or xs i d).node < length fs
    → now ≡ get_or fs (get_or xs i d).node now → from ≡ to_z w64 (of_z w64 (get_or xs i d).weight) → length xs < 2 ^ 64 → All IsFactor xs
    → SFits w128 (to_z w128 (of_z w128 now) +ℤ to_z w128 (of_z w128 from))
    × (set fs (get_or xs i d).node (to_z w128 (of_z w128 (to_z w128 (of_z w128 now) +ℤ to_z w128 (of_z w128 from)))) ≡ factors_of count (take (i + 1) xs))
added count xs i d fs now from h e l r q f factors =
    let w = factors_within xs factors in
    let b : (get_or xs i d).node < count = omega (arith, sized count (take i xs) fs e) in
    let v : SFits w64 (get_or xs i d).weight = fits_64 (10 ^ 12) _ (w i d h) (lit< tt) in
    let from_is : from ≡ (get_or xs i d).weight = q ∙ to_z-of_z w64 _ v in
    let g : SFits w128 from = rw from_is (fits (10 ^ 12) _ (w i d h) (lit< tt)) in
    let now_is : now ≡ get_or fs (get_or xs i d).node (pos 0) = r ∙ get_or_default fs _ now (pos 0) l in
    let k : SFits w128 now = rw (now_is ∙ read count (take i xs) fs (get_or xs i d).node e b) (part_fits (get_or xs i d).node xs i f w) in
    let sum : now +ℤ from ≡ factor_at (take (i + 1) xs) (get_or xs i d).node = ap (λ z. z +ℤ from) now_is ∙ (ap (λ z. get_or fs (get_or xs i d).node (pos 0) +ℤ z) from_is ∙ factor_raised count xs i d fs h e b) in
    let s : SFits w128 (now +ℤ from) = rw sum (part_fits (get_or xs i d).node xs (i + 1) f w) in
    let both : now +ℤ from ≡ get_or fs (get_or xs i d).node (pos 0) +ℤ (get_or xs i d).weight = ap (λ z. z +ℤ from) now_is ∙ ap (λ z. get_or fs (get_or xs i d).node (pos 0) +ℤ z) from_is in
    (simp to_z-of_z s, simp to_z-of_z (ap (λ z. set fs (get_or xs i d).node z) both ∙ factors-more count xs i d fs h e b))

-- ---- totals
pub total_within : (m : ℕ) (xs : List ℤ) (i : ℕ) → length xs ≤ 4096 → All (IsWithin m) xs → IsWithin (4096 * m) (total_of (take i xs))
total_within m xs i f h =
    let t = sum_over-within m itself (take i xs) (All-take (IsWithin m) i xs h) in
    let n = length-take i xs in
    let l : length (take i xs) ≤ 4096 = omega arith in
    let k : m ≤ m = omega arith in
    wider (length (take i xs) * m) (4096 * m) _ (mul-le-mul l k) t

-- ---- listed nodes
listed_more : (places : List ℕ) (i k d : ℕ) → i < length places → is_listed (take (i + 1) places) k ≡ is_listed (take i places) k || (get_or places i d == k)
listed_more places i k d h = list_any_more (λ (place : ℕ). place == k) places i d h

listed_sized : (count : ℕ) (places : List ℕ) (bs : List Bool) → bs ≡ listed_of count places → length bs ≡ count
listed_sized count places bs e = ap length e ∙ length-map-range_with_len (is_listed places) 0 count

listed_read : (count : ℕ) (places : List ℕ) (bs : List Bool) (k : ℕ) → bs ≡ listed_of count places → k < count → get_or bs k false ≡ is_listed places k
listed_read count places bs k e b = ap (λ (zs : List Bool). get_or zs k false) e ∙ get_or-map-range_with_len (is_listed places) 0 count k k false b (omega arith)

or_true : (a b : Bool) → b ≡ true → true ≡ a || b
or_true true b e = refl
or_true false b e = sym e

or_false : (a b : Bool) → b ≡ false → a ≡ a || b
or_false true b e = refl
or_false false b e = sym e

pub listed-set : (count : ℕ) (places : List ℕ) (i : ℕ) (d : ℕ) (bs : List Bool) → i < length places → bs ≡ listed_of count (take i places) → get_or places i d < length bs
    → set bs (get_or places i d) true ≡ listed_of count (take (i + 1) places)
listed-set count places i d bs h e l =
    written (is_listed (take (i + 1) places)) bs count (get_or places i d) false true (listed_sized count (take i places) bs e) (omega (arith, listed_sized count (take i places) bs e))
    (let t : (get_or places i d == get_or places i d) ≡ true = grind (arith, nat_tests) in or_true (is_listed (take i places) (get_or places i d)) _ t ∙ sym (listed_more places i (get_or places i d) d h))
    (λ k b o.
    let t : (get_or places i d == k) ≡ false = grind (arith, nat_tests) in
    listed_read count (take i places) bs k e b ∙ (or_false (is_listed (take i places) k) _ t ∙ sym (listed_more places i k d h)))

pub listed-past : (count : ℕ) (places : List ℕ) (i : ℕ) (d : ℕ) (bs : List Bool) → i < length places → bs ≡ listed_of count (take i places) → length bs ≤ get_or places i d
    → bs ≡ listed_of count (take (i + 1) places)
listed-past count places i d bs h e l =
    fill_by_all (is_listed (take (i + 1) places)) bs count false (listed_sized count (take i places) bs e)
    (λ k b.
    let n = listed_sized count (take i places) bs e in
    let t : (get_or places i d == k) ≡ false = grind (arith, nat_tests) in
    listed_read count (take i places) bs k e b ∙ (or_false (is_listed (take i places) k) _ t ∙ sym (listed_more places i k d h)))

pub listed-none : (count : ℕ) → replicate count false ≡ listed_of count []
listed-none count = fill_by_all (is_listed []) (replicate count false) count false (length-replicate count false) (λ k b. get_or-replicate count k false false b)

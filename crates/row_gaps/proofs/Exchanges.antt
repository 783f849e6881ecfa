-- How wide the span is of what exchanges put on a row.
use Rattle.std.proofs.Common.{◌≡◌, ℕ, suc, ◌+◌, ◌^◌, ◌≤◌, List, [], ◌∷◌, All, ℤ, pos, negsuc, nat_abs, ◌+ℤ◌, ◌-ℤ◌, ◌*ℤ◌, neg_ℤ, ◌≤ℤ◌, ◌<ℤ◌, arith}
use Rattle.std.specs.Int.{int_max, int_min}
use Rattle.std.proofs.lemmas.Int.{ints, clamps}
use Rattle.std.proofs.lemmas.List.Elements.{All-head, All-tail}
use Rattle.whole_laws.specs.Ring.{ring, linear, scale-≤, anti, cancel-≤}
use Rattle.reference_flows.specs.WithoutExchanges.{trillion, least_exchange, greatest_exchange, exchanges_span, sizes_of}
use Rattle.row_gaps.specs.Narrow.{width_of, IsNarrow, IsOrdered}

-- one zone: the size of the position times the width of the factor
one_zone : (p : ℤ) (s : ℤ × ℤ) → IsOrdered s
    → (greatest_exchange (s, p) -ℤ least_exchange (s, p)) ≤ℤ (pos (nat_abs p) *ℤ (s.1 -ℤ s.0))
one_zone (pos n) s h = between n s.0 s.1 h
  where
    between : (n : ℕ) (x y : ℤ) → x ≤ℤ y
        → (int_max (pos n *ℤ x) (pos n *ℤ y) -ℤ int_min (pos n *ℤ x) (pos n *ℤ y)) ≤ℤ (pos n *ℤ (y -ℤ x))
    between n x y h =
        let m = scale-≤ (pos n) x y (omega (arith, ints)) h in
        let e : pos n *ℤ (y -ℤ x) ≡ pos n *ℤ y -ℤ pos n *ℤ x = simp ring (omega (arith, linear)) in
        omega (arith, linear, clamps, m, e)
one_zone (negsuc n) s h = between n s.0 s.1 h
  where
    between : (n : ℕ) (x y : ℤ) → x ≤ℤ y
        → (int_max (negsuc n *ℤ x) (negsuc n *ℤ y) -ℤ int_min (negsuc n *ℤ x) (negsuc n *ℤ y)) ≤ℤ (pos (suc n) *ℤ (y -ℤ x))
    between n x y h =
        let m = anti (negsuc n) x y (omega (arith, ints)) h in
        let e : pos (suc n) *ℤ (y -ℤ x) ≡ negsuc n *ℤ x -ℤ negsuc n *ℤ y =
        opposite (pos (suc n)) (negsuc n) x y (omega (arith, ints)) in
        omega (arith, linear, clamps, m, e)
      where
        opposite : (a b x y : ℤ) → a ≡ neg_ℤ b → a *ℤ (y -ℤ x) ≡ b *ℤ x -ℤ b *ℤ y
        opposite a b x y e = rw e (plain b x y)
          where
            plain : (b x y : ℤ) → neg_ℤ b *ℤ (y -ℤ x) ≡ b *ℤ x -ℤ b *ℤ y
            plain b x y = simp ring (omega (arith, linear))

narrow_zone : (t m : ℤ) (p : ℤ) (s : ℤ × ℤ) → pos 0 ≤ℤ t → IsOrdered s → IsNarrow t m s
    → (t *ℤ (greatest_exchange (s, p) -ℤ least_exchange (s, p))) ≤ℤ (pos (nat_abs p) *ℤ m)
narrow_zone t m p s some o h =
    let one = scale-≤ t _ _ some (one_zone p s o) in
    let two = scale-≤ (pos (nat_abs p)) (t *ℤ (s.1 -ℤ s.0)) m (omega (arith, ints)) (omega (arith, linear, h)) in
    let e : t *ℤ (pos (nat_abs p) *ℤ (s.1 -ℤ s.0)) ≡ pos (nat_abs p) *ℤ (t *ℤ (s.1 -ℤ s.0)) =
    swap t (pos (nat_abs p)) (s.1 -ℤ s.0) in
    omega (arith, linear, one, two, e)
  where
    swap : (t n x : ℤ) → t *ℤ (n *ℤ x) ≡ n *ℤ (t *ℤ x)
    swap t n x = simp ring

zones : (t m : ℤ) (ss : List (ℤ × ℤ)) (ps : List ℤ) → pos 0 ≤ℤ t → pos 0 ≤ℤ m → All IsOrdered ss → All (IsNarrow t m) ss
    → (t *ℤ width_of (exchanges_span ss ps)) ≤ℤ (pos (sizes_of ps) *ℤ m)
zones t m [] ps some n o h = nothing t m (sizes_of ps) n
  where
    nothing : (t m : ℤ) (k : ℕ) → pos 0 ≤ℤ m → (t *ℤ (pos 0 -ℤ pos 0)) ≤ℤ (pos k *ℤ m)
    nothing t (pos m) k n = omega (arith, ints)
    nothing t (negsuc m) k n = absurd (omega (arith, ints))
zones t m (s ∷ ss) [] some n o h = omega (arith, ints)
zones t m (s ∷ ss) (p ∷ ps) some n o h =
    let first = narrow_zone t m p s some (All-head IsOrdered s ss o) (All-head (IsNarrow t m) s ss h) in
    let rest = zones t m ss ps some n (All-tail IsOrdered s ss o) (All-tail (IsNarrow t m) s ss h) in
    more t m (nat_abs p) (sizes_of ps) (greatest_exchange (s, p)) (least_exchange (s, p)) (exchanges_span ss ps).0
    (exchanges_span ss ps).1 first rest
  where
    more : (t m : ℤ) (a b : ℕ) (g l x y : ℤ) → (t *ℤ (g -ℤ l)) ≤ℤ (pos a *ℤ m) → (t *ℤ (y -ℤ x)) ≤ℤ (pos b *ℤ m)
        → (t *ℤ ((g +ℤ y) -ℤ (l +ℤ x))) ≤ℤ (pos (a + b) *ℤ m)
    more t m a b g l x y h k =
        let e : t *ℤ ((g +ℤ y) -ℤ (l +ℤ x)) ≡ t *ℤ (g -ℤ l) +ℤ t *ℤ (y -ℤ x) = simp ring (omega (arith, linear)) in
        let f : pos (a + b) *ℤ m ≡ pos a *ℤ m +ℤ pos b *ℤ m = two a b m in
        omega (arith, linear, e, f, h, k)
      where
        two : (a b : ℕ) (m : ℤ) → pos (a + b) *ℤ m ≡ pos a *ℤ m +ℤ pos b *ℤ m
        two a b m = omega (arith, ints)

-- all net positions together are at most 10^12 W
pub exchanges_narrow : (m : ℤ) (ss : List (ℤ × ℤ)) (ps : List ℤ) → pos 0 ≤ℤ m → sizes_of ps ≤ 10 ^ 12 → All IsOrdered ss
    → All (IsNarrow trillion m) ss → width_of (exchanges_span ss ps) ≤ℤ m
exchanges_narrow m ss ps n small o h =
    let all = zones trillion m ss ps (record { le = tt }) n o h in
    cancelled trillion m (sizes_of ps) (width_of (exchanges_span ss ps)) (record { lt = tt }) n
    (omega (arith, ints, small)) all
  where
    cancelled : (t m : ℤ) (k : ℕ) (w : ℤ) → pos 0 <ℤ t → pos 0 ≤ℤ m → pos k ≤ℤ t → (t *ℤ w) ≤ℤ (pos k *ℤ m) → w ≤ℤ m
    cancelled t m k w some n le h =
        let up = scale-≤ m (pos k) t n le in
        let e : m *ℤ pos k ≡ pos k *ℤ m = turned m (pos k) in
        let f : m *ℤ t ≡ t *ℤ m = turned m t in
        cancel-≤ t w m some (omega (arith, linear, h, up, e, f))
      where
        turned : (x y : ℤ) → x *ℤ y ≡ y *ℤ x
        turned x y = simp ring

-- the ends are in order, whatever the factors are
pub exchanges_ordered : (ss : List (ℤ × ℤ)) (ps : List ℤ) → IsOrdered (exchanges_span ss ps)
exchanges_ordered [] ps = omega (arith, ints)
exchanges_ordered (s ∷ ss) [] = omega (arith, ints)
exchanges_ordered (s ∷ ss) (p ∷ ps) = both (p *ℤ s.0) (p *ℤ s.1) _ _ (exchanges_ordered ss ps)
  where
    both : (a b x y : ℤ) → x ≤ℤ y → (int_min a b +ℤ x) ≤ℤ (int_max a b +ℤ y)
    both a b x y h = omega (arith, linear, clamps, h)

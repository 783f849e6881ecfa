-- How wide the spans of a block, of a zone and of a reference flow are.
use Rattle.std.proofs.Common.{◌≡◌, ℕ, ◌+◌, ◌*◌, ◌^◌, ◌<◌, true, List, [], ◌∷◌, length, All, ℤ, pos, ◌+ℤ◌, ◌-ℤ◌, ◌*ℤ◌, neg_ℤ, ◌≤ℤ◌, ◌<ℤ◌, refl, arith}
use Rattle.std.specs.List.{AllZip, zip}
use Rattle.std.proofs.lemmas.Int.{ints, clamps}
use Rattle.std.proofs.lemmas.List.Elements.{All-head, All-tail}
use Rattle.whole_laws.specs.Ring.{ring, linear, scale-≤, cancel-<, *ℤ-sub, *ℤ-one}
use Rattle.whole_laws.specs.Quotients.{floor_of, ceil_of}
use Rattle.whole_laws.specs.QuotientLaws.{quotient_gap, floor-high, ceil-low}
use Rattle.whole_laws.specs.Sums.{sum_over}
use Rattle.fb_span.specs.Ends.{EndsWithin}
use Rattle.fb_types.specs.declared.grid.Grid.{Grid}
use Rattle.fb_types.specs.declared.keys.Block.{Block}
use Rattle.fb_types.specs.declared.keys.Column.{Column}
use Rattle.fb_types.specs.declared.rows.Angles.{Angles}
use Rattle.grid_state.specs.GridState.{GridState, carries_at, IsSound}
use Rattle.grid_laplacian.specs.Ranges.{IsOfGrid}
use Rattle.grid_laplacian.specs.Enclosures.{IsBarrier, EnclosesColumn}
use Rattle.security.specs.Balances.{block_side}
use Rattle.security.specs.Flows.{NumberedBranch}
use Rattle.branch_spans.specs.FlowSpans.{flow_span_of, IsBranchOf}
use Rattle.zonal_factors.specs.FactorSpans.{trillion, block_span_of, share_span_of, zone_span_of, IsBlock, IsKey}
use Rattle.reference_flows.specs.ReferenceSpans.{greatest_flow, shift_part, carried_span_of}
use Rattle.row_gaps.specs.Narrow.{IsNarrow, IsOrdered}
use Rattle.security.specs.Gaps.{stretch_of}
use Rattle.row_gaps.specs.Widths.{block_most, factor_most, reference_most}
use Rattle.row_gaps.proofs.Quotients.{quotient_narrow, clipped_narrow}
use Rattle.row_gaps.proofs.Flows.{flow_narrow}

trillion-positive : pos 0 <ℤ trillion
trillion-positive = record { lt = tt }

-- ten times a total above 10^11
ten_times : (w : ℤ) → pos (10 ^ 11) <ℤ w → trillion ≤ℤ (pos 10 *ℤ w)
ten_times w h = omega (arith, ints, h)

-- the shares of a key are at most 1 together
at_most_one : (blocks : List Block) → (0 < length blocks → sum_over (λ b. b.share) blocks ≡ pos 100_000_000)
    → sum_over (λ b. b.share) blocks ≤ℤ pos 100_000_000
at_most_one [] h = omega (arith, ints)
at_most_one (b ∷ blocks) h = let e = h (omega arith) in omega (arith, linear, e)

-- what shares of at most 1 have together, divided by them
whole_zone : (t d low high shares : ℤ) (n : ℕ) → t ≡ pos (10 ^ 12) → pos 0 <ℤ d → shares ≤ℤ d
    → (t *ℤ (high -ℤ low)) ≤ℤ (shares *ℤ pos (8 * n + 2 * 10 ^ 12))
    → (t *ℤ (ceil_of high d -ℤ floor_of low d)) <ℤ pos (8 * n + 4 * 10 ^ 12)
whole_zone t d low high shares n same some le h =
    let q = ceil_of high d -ℤ floor_of low d in
    let m = pos (8 * n + 2 * 10 ^ 12) in
    let gap = quotient_gap low high d some in
    let up = scale-≤ m shares d (omega (arith, ints)) le in
    let e1 : m *ℤ shares ≡ shares *ℤ m = turned m shares in
    let positive : pos 0 <ℤ t = rw same (record { lt = tt }) in
    let s = scaled t (q *ℤ d) ((high -ℤ low) +ℤ (d +ℤ d)) positive gap in
    let e2 : t *ℤ (q *ℤ d) ≡ d *ℤ (t *ℤ q) = swapped t q d in
    let e3 : t *ℤ ((high -ℤ low) +ℤ (d +ℤ d)) ≡ t *ℤ (high -ℤ low) +ℤ d *ℤ (t +ℤ t) = parted t (high -ℤ low) d in
    let e4 : m *ℤ d +ℤ d *ℤ (t +ℤ t) ≡ d *ℤ (m +ℤ (t +ℤ t)) = joined m d t in
    let all : (t *ℤ q) <ℤ (m +ℤ (t +ℤ t)) =
    cancel-< d (t *ℤ q) (m +ℤ (t +ℤ t)) some (omega (arith, linear, s, e1, e2, e3, e4, up, h)) in
    omega (arith, ints, all, same)
  where
    turned : (x y : ℤ) → x *ℤ y ≡ y *ℤ x
    turned x y = simp ring

    swapped : (t q d : ℤ) → t *ℤ (q *ℤ d) ≡ d *ℤ (t *ℤ q)
    swapped t q d = simp ring

    parted : (t x d : ℤ) → t *ℤ (x +ℤ (d +ℤ d)) ≡ t *ℤ x +ℤ d *ℤ (t +ℤ t)
    parted t x d = simp ring

    joined : (m d t : ℤ) → m *ℤ d +ℤ d *ℤ (t +ℤ t) ≡ d *ℤ (m +ℤ (t +ℤ t))
    joined m d t = simp ring

    -- a strict inequality, times a positive number
    scaled : (k a b : ℤ) → pos 0 <ℤ k → a <ℤ b → (k *ℤ a) <ℤ (k *ℤ b)
    scaled k a b p l =
        let w = scale-≤ k a (b -ℤ pos 1) (omega (arith, linear, p)) (omega (arith, linear, l)) in
        let e : k *ℤ (b -ℤ pos 1) ≡ k *ℤ b -ℤ k = less k b in
        omega (arith, linear, w, e, p)
      where
        less : (k b : ℤ) → k *ℤ (b -ℤ pos 1) ≡ k *ℤ b -ℤ k
        less k b = let e = *ℤ-sub k b (pos 1) in let one = *ℤ-one k in omega (arith, linear, e, one)

module _ (grid : Grid) (s : GridState) (c : NumberedBranch) (sound : IsSound s) (of : IsOfGrid grid s) (stands : IsBranchOf grid c) (carries : carries_at s c.number ≡ true) (v : List ℤ) (barrier : IsBarrier s v) where
  pub block_narrow : (p : List ℤ) (block : Block) (angles : Angles) → EnclosesColumn s p angles
      → pos (10 ^ 11) <ℤ block.total
      → IsNarrow trillion (block_most (stretch_of s c.branch)) (block_span_of s c v block angles)
  block_narrow p block angles encloses great =
      let flow = flow_narrow grid s c sound of stands carries v angles barrier encloses.at_most_one in
      let span = flow_span_of s c.branch v angles in
      clipped_narrow trillion (floor_of span.0 (pos 10 *ℤ block.total)) (ceil_of span.1 (pos 10 *ℤ block.total))
      (neg_ℤ trillion) trillion (block_most (stretch_of s c.branch)) (omega (arith, ints))
      (sum (stretch_of s c.branch) _ (quotient_narrow trillion (pos 10 *ℤ block.total) span.0 span.1 (pos (8 * stretch_of s c.branch)) trillion-positive (ten_times block.total great) (omega (arith, ints)) flow))
    where
      sum : (n : ℕ) (z : ℤ) → z <ℤ (pos (8 * n) +ℤ (trillion +ℤ trillion)) → z <ℤ pos (8 * n + 2 * 10 ^ 12)
      sum n z h = omega (arith, ints, h)

  -- the shares of the blocks that have angles
  shares_narrow : (blocks : List Block) (as' : List Angles) → All IsBlock blocks
      → All (λ block. pos (10 ^ 11) <ℤ block.total) blocks
      → AllZip (λ b a. EnclosesColumn s (block_side s b) a) blocks as'
      → (trillion *ℤ (sum_over (λ z. (share_span_of s c v z.0 z.1).1) (zip blocks as') -ℤ sum_over (λ z. (share_span_of s c v z.0 z.1).0) (zip blocks as')))
      ≤ℤ (sum_over (λ b. b.share) blocks *ℤ block_most (stretch_of s c.branch))
  shares_narrow [] [] are great enc = omega (arith, ints)
  shares_narrow [] (a ∷ as') are great enc = absurd enc
  shares_narrow (b ∷ blocks) [] are great enc = absurd enc
  shares_narrow (b ∷ blocks) (a ∷ as') are great enc =
      let here =
      block_narrow (block_side s b) b a enc.0 (All-head (λ (x : Block). pos (10 ^ 11) <ℤ x.total) b blocks great) in
      let rest =
      shares_narrow blocks as' (All-tail IsBlock b blocks are)
      (All-tail (λ (x : Block). pos (10 ^ 11) <ℤ x.total) b blocks great) enc.1 in
      let share = (All-head IsBlock b blocks are).share in
      more trillion b.share (sum_over (λ b. b.share) blocks) (block_most (stretch_of s c.branch))
      (block_span_of s c v b a).0 (block_span_of s c v b a).1
      (sum_over (λ z. (share_span_of s c v z.0 z.1).0) (zip blocks as'))
      (sum_over (λ z. (share_span_of s c v z.0 z.1).1) (zip blocks as')) share here rest
    where
      more : (t k r m low high x y : ℤ) → pos 0 ≤ℤ k → (t *ℤ (high -ℤ low)) <ℤ m → (t *ℤ (y -ℤ x)) ≤ℤ (r *ℤ m)
          → (t *ℤ ((k *ℤ high +ℤ y) -ℤ (k *ℤ low +ℤ x))) ≤ℤ ((k +ℤ r) *ℤ m)
      more t k r m low high x y some h g =
          let one = scale-≤ k (t *ℤ (high -ℤ low)) m some (omega (arith, linear, h)) in
          let e : t *ℤ ((k *ℤ high +ℤ y) -ℤ (k *ℤ low +ℤ x)) ≡ k *ℤ (t *ℤ (high -ℤ low)) +ℤ t *ℤ (y -ℤ x) =
          simp ring (omega (arith, linear)) in
          let f : (k +ℤ r) *ℤ m ≡ k *ℤ m +ℤ r *ℤ m = simp ring in
          omega (arith, linear, one, e, f, g)

  -- a sum of shares of at most 1, divided by 10^8
  pub zone_narrow : (column : Column) (as' : List Angles) → IsKey column
      → All (λ block. pos (10 ^ 11) <ℤ block.total) column.blocks
      → AllZip (λ b a. EnclosesColumn s (block_side s b) a) column.blocks as'
      → IsNarrow trillion (factor_most (stretch_of s c.branch)) (zone_span_of s c v (zip column.blocks as'))
  zone_narrow column as' key great enc =
      let sum = shares_narrow column.blocks as' key.blocks great enc in
      whole_zone trillion (pos 100_000_000) (sum_over (λ z. (share_span_of s c v z.0 z.1).0) (zip column.blocks as'))
      (sum_over (λ z. (share_span_of s c v z.0 z.1).1) (zip column.blocks as')) (sum_over (λ b. b.share) column.blocks)
      (stretch_of s c.branch) refl (record { lt = tt }) (at_most_one column.blocks key.shares) sum

  -- the reference flow, whose phase shift moves both ends alike
  pub reference_narrow : (p : List ℤ) (angles : Angles) → EnclosesColumn s p angles
      → IsNarrow (pos 10) (reference_most (stretch_of s c.branch)) (carried_span_of s c v angles)
  reference_narrow p angles encloses =
      let flow = flow_narrow grid s c sound of stands carries v angles barrier encloses.at_most_one in
      let span = flow_span_of s c.branch v angles in
      let x = shift_part c.branch in
      clipped_narrow (pos 10) (floor_of (span.0 +ℤ x) (pos 10)) (ceil_of (span.1 +ℤ x) (pos 10)) (neg_ℤ greatest_flow)
      greatest_flow (reference_most (stretch_of s c.branch)) (omega (arith, ints))
      (sum (stretch_of s c.branch) _ (quotient_narrow (pos 10) (pos 10) (span.0 +ℤ x) (span.1 +ℤ x) (pos (8 * stretch_of s c.branch)) (record { lt = tt }) (omega (arith, ints)) (omega (arith, ints)) (moved span.0 span.1 x _ flow)))
    where
      moved : (a b x m : ℤ) → (b -ℤ a) ≤ℤ m → ((b +ℤ x) -ℤ (a +ℤ x)) ≤ℤ m
      moved a b x m h = omega (arith, linear, h)

      sum : (n : ℕ) (z : ℤ) → z <ℤ (pos (8 * n) +ℤ (pos 10 +ℤ pos 10)) → z <ℤ pos (8 * n + 20)
      sum n z h = omega (arith, ints, h)

-- ---- how large the ends are

module _ (s : GridState) (c : NumberedBranch) (v : List ℤ) where
  lows : (t : ℤ) → t ≡ trillion → (blocks : List Block) (as' : List Angles) → All IsBlock blocks
      → AllZip (λ b a. EnclosesColumn s (block_side s b) a) blocks as'
      → (neg_ℤ t *ℤ sum_over (λ b. b.share) blocks) ≤ℤ sum_over (λ z. (share_span_of s c v z.0 z.1).0) (zip blocks as')
  lows t same [] [] are enc = omega (arith, ints)
  lows t same [] (a ∷ as') are enc = absurd enc
  lows t same (b ∷ blocks) [] are enc = absurd enc
  lows t same (b ∷ blocks) (a ∷ as') are enc =
      more b.share (sum_over (λ b. b.share) blocks) (block_span_of s c v b a).0
      (sum_over (λ z. (share_span_of s c v z.0 z.1).0) (zip blocks as')) (All-head IsBlock b blocks are).share
      (rw same (omega (arith, linear, clamps))) (lows t same blocks as' (All-tail IsBlock b blocks are) enc.1)
    where
      more : (k r x y : ℤ) → pos 0 ≤ℤ k → neg_ℤ t ≤ℤ x → (neg_ℤ t *ℤ r) ≤ℤ y → (neg_ℤ t *ℤ (k +ℤ r)) ≤ℤ (k *ℤ x +ℤ y)
      more k r x y some h g =
          let one = scale-≤ k (neg_ℤ t) x some h in
          let e : neg_ℤ t *ℤ (k +ℤ r) ≡ k *ℤ neg_ℤ t +ℤ neg_ℤ t *ℤ r = simp ring in
          omega (arith, linear, one, e, g)

  highs : (t : ℤ) → t ≡ trillion → (blocks : List Block) (as' : List Angles) → All IsBlock blocks
      → AllZip (λ b a. EnclosesColumn s (block_side s b) a) blocks as'
      → sum_over (λ z. (share_span_of s c v z.0 z.1).1) (zip blocks as') ≤ℤ (t *ℤ sum_over (λ b. b.share) blocks)
  highs t same [] [] are enc = omega (arith, ints)
  highs t same [] (a ∷ as') are enc = absurd enc
  highs t same (b ∷ blocks) [] are enc = absurd enc
  highs t same (b ∷ blocks) (a ∷ as') are enc =
      more b.share (sum_over (λ b. b.share) blocks) (block_span_of s c v b a).1
      (sum_over (λ z. (share_span_of s c v z.0 z.1).1) (zip blocks as')) (All-head IsBlock b blocks are).share
      (rw same (omega (arith, linear, clamps))) (highs t same blocks as' (All-tail IsBlock b blocks are) enc.1)
    where
      more : (k r x y : ℤ) → pos 0 ≤ℤ k → x ≤ℤ t → y ≤ℤ (t *ℤ r) → (k *ℤ x +ℤ y) ≤ℤ (t *ℤ (k +ℤ r))
      more k r x y some h g =
          let one = scale-≤ k x t some h in
          let e : t *ℤ (k +ℤ r) ≡ k *ℤ t +ℤ t *ℤ r = simp ring in
          omega (arith, linear, one, e, g)

-- a number of at least −t times shares of at most d, over d
floor_least : (t d z shares : ℤ) → pos 0 ≤ℤ t → pos 0 <ℤ d → shares ≤ℤ d → (neg_ℤ t *ℤ shares) ≤ℤ z
    → neg_ℤ t ≤ℤ floor_of z d
floor_least t d z shares n some le h =
    let up = scale-≤ t shares d n le in
    let f = floor-high z d some in
    let e1 : neg_ℤ t *ℤ shares ≡ neg_ℤ (t *ℤ shares) = simp ring in
    let e2 : d *ℤ neg_ℤ t ≡ neg_ℤ (t *ℤ d) = simp ring in
    let e3 : (floor_of z d +ℤ pos 1) *ℤ d ≡ d *ℤ (floor_of z d +ℤ pos 1) = turned (floor_of z d +ℤ pos 1) d in
    let l = cancel-< d (neg_ℤ t) (floor_of z d +ℤ pos 1) some (omega (arith, linear, up, f, e1, e2, e3, h)) in
    omega (arith, linear, l)
  where
    turned : (x y : ℤ) → x *ℤ y ≡ y *ℤ x
    turned x y = simp ring

ceil_most : (t d z shares : ℤ) → pos 0 ≤ℤ t → pos 0 <ℤ d → shares ≤ℤ d → z ≤ℤ (t *ℤ shares) → ceil_of z d ≤ℤ t
ceil_most t d z shares n some le h =
    let up = scale-≤ t shares d n le in
    let f = ceil-low z d some in
    let e2 : d *ℤ t ≡ t *ℤ d = turned d t in
    let e3 : (ceil_of z d -ℤ pos 1) *ℤ d ≡ d *ℤ (ceil_of z d -ℤ pos 1) = turned (ceil_of z d -ℤ pos 1) d in
    let l = cancel-< d (ceil_of z d -ℤ pos 1) t some (omega (arith, linear, up, f, e2, e3, h)) in
    omega (arith, linear, l)
  where
    turned : (x y : ℤ) → x *ℤ y ≡ y *ℤ x
    turned x y = simp ring

-- both ends of a span in order are within m, where the low end is at least −m and the high one at most m
pub both_within : (m : ℕ) (x y : ℤ) → neg_ℤ (pos m) ≤ℤ x → y ≤ℤ pos m → x ≤ℤ y → EndsWithin m (x, y)
both_within m x y h k o = record { low = record { low = h; high = omega (arith, linear, k, o) }; high = record { low = omega (arith, linear, h, o); high = k } }

pub zone_within : (s : GridState) (c : NumberedBranch) (v : List ℤ) (column : Column) (as' : List Angles) → IsKey column
    → AllZip (λ b a. EnclosesColumn s (block_side s b) a) column.blocks as'
    → IsOrdered (zone_span_of s c v (zip column.blocks as'))
    → EndsWithin (10 ^ 12) (zone_span_of s c v (zip column.blocks as'))
zone_within s c v column as' key enc ordered =
    let shares = at_most_one column.blocks key.shares in
    both_within (10 ^ 12) (zone_span_of s c v (zip column.blocks as')).0 (zone_span_of s c v (zip column.blocks as')).1
    (floor_least trillion (pos 100_000_000) (sum_over (λ z. (share_span_of s c v z.0 z.1).0) (zip column.blocks as')) (sum_over (λ b. b.share) column.blocks) (record { le = tt }) (record { lt = tt }) shares (lows s c v trillion refl column.blocks as' key.blocks enc))
    (ceil_most trillion (pos 100_000_000) (sum_over (λ z. (share_span_of s c v z.0 z.1).1) (zip column.blocks as')) (sum_over (λ b. b.share) column.blocks) (record { le = tt }) (record { lt = tt }) shares (highs s c v trillion refl column.blocks as' key.blocks enc))
    ordered

pub reference_within : (s : GridState) (c : NumberedBranch) (v : List ℤ) (angles : Angles)
    → IsOrdered (carried_span_of s c v angles) → EndsWithin (3 * 10 ^ 24) (carried_span_of s c v angles)
reference_within s c v angles ordered =
    both_within (3 * 10 ^ 24) (carried_span_of s c v angles).0 (carried_span_of s c v angles).1
    (omega (arith, linear, clamps)) (omega (arith, linear, clamps)) ordered

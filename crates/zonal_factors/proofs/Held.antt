-- The span of a block holds the flow of its weights over their total, and meets the span from −1 to 1.
use Rattle.std.proofs.Common.{◌≡◌, ℕ, zero, suc, ◌^◌, ◌<◌, true, List, [], ◌∷◌, length, Some, ℤ, pos, negsuc, ◌*ℤ◌, neg_ℤ, ◌≤ℤ◌, ◌<ℤ◌, refl, ap, ◌∙◌, arith}
use Rattle.std.specs.Prelude.{slice_get}
use Rattle.std.proofs.lemmas.Int.{ints}
use Rattle.whole_laws.specs.Ring.{ring, linear, scale-≤}
use Rattle.whole_laws.specs.Quotients.{floor_of, ceil_of}
use Rattle.fractions.specs.Fractions.{Fraction, Same, times, over}
use Rattle.fractions.specs.Spans.{Lies, LiesAt}
use Rattle.fractions.specs.SpanLaws.{Lies-Same, Lies_wider, Lies_ordered, Lies-over, Lies-meet}
use Rattle.fb_types.specs.declared.grid.Branch.{Branch}
use Rattle.fb_types.specs.declared.grid.Grid.{Grid}
use Rattle.fb_types.specs.declared.keys.Block.{Block}
use Rattle.fb_types.specs.declared.rows.Angles.{Angles}
use Rattle.grid_state.specs.GridState.{GridState, carries_at, IsSound}
use Rattle.grid_laplacian.specs.Ranges.{IsOfGrid}
use Rattle.grid_laplacian.specs.Enclosures.{IsBarrier, EnclosesColumn}
use Rattle.grid_laplacian.proofs.LawProofs.{existence_holds}
use Rattle.security.specs.Quotients.{divisor_of, divided}
use Rattle.security.specs.Balances.{block_weights, block_side}
use Rattle.security.specs.Flows.{ExactAngles, AreAnglesOf, NumberedBranch, flow_of}
use Rattle.branch_spans.specs.FlowSpans.{flow_span_of, IsBranchOf}
use Rattle.branch_spans.proofs.Held.{flow_held}
use Rattle.zonal_factors.specs.FactorSpans.{trillion, block_span_of, IsBlock}
use Rattle.zonal_factors.proofs.Scaled.{multiple, solves_times, flow_times, flow_cut}
use Rattle.zonal_factors.proofs.Supplies.{supply_at_most_total}

total_is : (w : ℤ) → pos 1 ≤ℤ w → divisor_of w ≡ w
total_is (pos zero) h = absurd (omega (arith, ints))
total_is (pos (suc n)) h = refl
total_is (negsuc n) h = absurd (omega (arith, ints))

-- the flow of a block's weights over their total
abbrev pub part_of : GridState → NumberedBranch → Block → ExactAngles → Fraction
part_of s c block e = divided (flow_of s c e) block.total

tens : (w : ℤ) → pos 1 ≤ℤ w → pos 0 <ℤ (pos 10 *ℤ w)
tens w h = omega (arith, ints)

-- 10^13·F/(10·W) is 10^12·(F/W)
in_trillionths : (f : Fraction) (w : ℤ) (h : pos 0 <ℤ (pos 10 *ℤ w)) → pos 1 ≤ℤ w → Same (over (times (pos (10 ^ 13)) f) (pos 10 *ℤ w) h) (times trillion (divided f w))
in_trillionths f w h some = record { same = rw (total_is w some) (step (pos (10 ^ 13)) trillion (pos 10) f.num f.den w refl) }
  where
    step : (a b t n d w : ℤ) → a ≡ b *ℤ t → (a *ℤ n) *ℤ (d *ℤ w) ≡ (b *ℤ n) *ℤ (d *ℤ (t *ℤ w))
    step a b t n d w e = ap (λ z. (z *ℤ n) *ℤ (d *ℤ w)) e ∙ plain b t n d w
      where
        plain : (b t n d w : ℤ) → ((b *ℤ t) *ℤ n) *ℤ (d *ℤ w) ≡ (b *ℤ n) *ℤ (d *ℤ (t *ℤ w))
        plain b t n d w = simp ring

pub quotient_held : (grid : Grid) (s : GridState) (c : NumberedBranch) → IsSound s → IsOfGrid grid s → IsBranchOf grid c → carries_at s c.number ≡ true
    → (v : List ℤ) (block : Block) (angles : Angles) → IsBarrier s v → IsBlock block → EnclosesColumn s (block_side s block) angles
    → (e : ExactAngles) → AreAnglesOf s (block_weights s block) e
    → LiesAt trillion (floor_of (flow_span_of s c.branch v angles).0 (pos 10 *ℤ block.total), ceil_of (flow_span_of s c.branch v angles).1 (pos 10 *ℤ block.total)) (part_of s c block e)
quotient_held grid s c sound of stands carries v block angles barrier is_block encloses e solves =
    let held = flow_held grid s c sound of stands carries v angles barrier (block_side s block) encloses (multiple (pos (10 ^ 13)) e) (solves_times s (pos (10 ^ 13)) (block_weights s block) e solves) in
    let h = tens block.total is_block.some in
    Lies-Same (in_trillionths (flow_of s c e) block.total h is_block.some)
    (Lies-over _ _ (pos 10 *ℤ block.total) h (Lies-Same (flow_times s c (pos (10 ^ 13)) e) held))

-- a flow that is at most the total is at most 1 over it
unit_lies : (f : Fraction) (w : ℤ) → pos 1 ≤ℤ w → Lies f (neg_ℤ w) w → Lies (times trillion (divided f w)) (neg_ℤ trillion) trillion
unit_lies f w some h = record { above = record { at_most = rw (total_is w some) (low f.num f.den h.above.at_most) }; below = record { at_most = rw (total_is w some) (high f.num f.den h.below.at_most) } }
  where
    low : (n d : ℤ) → (neg_ℤ w *ℤ d) ≤ℤ (n *ℤ pos 1) → (neg_ℤ trillion *ℤ (d *ℤ w)) ≤ℤ ((trillion *ℤ n) *ℤ pos 1)
    low n d le =
        let s = scale-≤ trillion (neg_ℤ w *ℤ d) (n *ℤ pos 1) (omega (arith, linear)) le in
        let e : neg_ℤ trillion *ℤ (d *ℤ w) ≡ trillion *ℤ (neg_ℤ w *ℤ d) = left trillion in
        let f : trillion *ℤ (n *ℤ pos 1) ≡ (trillion *ℤ n) *ℤ pos 1 = right trillion in
        omega (arith, linear, s, e, f)
      where
        left : (t : ℤ) → neg_ℤ t *ℤ (d *ℤ w) ≡ t *ℤ (neg_ℤ w *ℤ d)
        left t = simp ring

        right : (t : ℤ) → t *ℤ (n *ℤ pos 1) ≡ (t *ℤ n) *ℤ pos 1
        right t = simp ring

    high : (n d : ℤ) → (n *ℤ pos 1) ≤ℤ (w *ℤ d) → ((trillion *ℤ n) *ℤ pos 1) ≤ℤ (trillion *ℤ (d *ℤ w))
    high n d le =
        let s = scale-≤ trillion (n *ℤ pos 1) (w *ℤ d) (omega (arith, linear)) le in
        let e : trillion *ℤ (d *ℤ w) ≡ trillion *ℤ (w *ℤ d) = left trillion in
        let f : trillion *ℤ (n *ℤ pos 1) ≡ (trillion *ℤ n) *ℤ pos 1 = right trillion in
        omega (arith, linear, s, e, f)
      where
        left : (t : ℤ) → t *ℤ (d *ℤ w) ≡ t *ℤ (w *ℤ d)
        left t = simp ring

        right : (t : ℤ) → t *ℤ (n *ℤ pos 1) ≡ (t *ℤ n) *ℤ pos 1
        right t = simp ring

pub unit_held : (grid : Grid) (s : GridState) (c : NumberedBranch) → IsSound s → IsOfGrid grid s → IsBranchOf grid c → carries_at s c.number ≡ true
    → (block : Block) → IsBlock block → (e : ExactAngles) → AreAnglesOf s (block_weights s block) e → LiesAt trillion (neg_ℤ trillion, trillion) (part_of s c block e)
unit_held grid s c sound of stands carries block is_block e solves =
    let cut = flow_cut grid s c sound of stands carries (block_weights s block) e solves in
    let most = supply_at_most_total s block is_block in
    unit_lies (flow_of s c e) block.total is_block.some (Lies_wider _ _ (neg_ℤ block.total) block.total (omega (arith, ints, most)) (omega (arith, ints, most)) cut)

-- exact angles of a block
pub some_angles : (s : GridState) → IsSound s → (p : List ℤ) → (e : ExactAngles) × AreAnglesOf s p e
some_angles s sound p = let x = existence_holds s sound p in (record { angles = x.0; scale = x.1 }, x.2)

-- a branch under its number
pub some_branch : (bs : List Branch) (k : ℕ) → k < length bs → (br : Branch) × (slice_get bs k ≡ Some br)
some_branch [] k h = absurd (omega arith)
some_branch (b ∷ bs) zero h = (b, refl)
some_branch (b ∷ bs) (suc k) h = some_branch bs k (omega arith)

-- both spans have a common part
pub clipped_ordered : (grid : Grid) (s : GridState) (c : NumberedBranch) → IsSound s → IsOfGrid grid s → IsBranchOf grid c → carries_at s c.number ≡ true
    → (v : List ℤ) (block : Block) (angles : Angles) → IsBarrier s v → IsBlock block → EnclosesColumn s (block_side s block) angles
    → (block_span_of s c v block angles).0 ≤ℤ (block_span_of s c v block angles).1
clipped_ordered grid s c sound of stands carries v block angles barrier is_block encloses =
    let x = some_angles s sound (block_weights s block) in
    Lies_ordered _ _ (Lies-meet _ _ _ _ (quotient_held grid s c sound of stands carries v block angles barrier is_block encloses x.0 x.1) (unit_held grid s c sound of stands carries block is_block x.0 x.1))

pub block_held : (grid : Grid) (s : GridState) (c : NumberedBranch) → IsSound s → IsOfGrid grid s → IsBranchOf grid c → carries_at s c.number ≡ true
    → (v : List ℤ) (block : Block) (angles : Angles) → IsBarrier s v → IsBlock block → EnclosesColumn s (block_side s block) angles
    → (e : ExactAngles) → AreAnglesOf s (block_weights s block) e → LiesAt trillion (block_span_of s c v block angles) (part_of s c block e)
block_held grid s c sound of stands carries v block angles barrier is_block encloses e solves =
    Lies-meet _ _ _ _ (quotient_held grid s c sound of stands carries v block angles barrier is_block encloses e solves) (unit_held grid s c sound of stands carries block is_block e solves)

-- what the code computes
pub quotient_is : (f g q : ℤ × ℤ) (w u : ℤ) → f ≡ g → u ≡ w → q ≡ (floor_of f.0 (pos 10 *ℤ u), ceil_of f.1 (pos 10 *ℤ u)) → q ≡ (floor_of g.0 (pos 10 *ℤ w), ceil_of g.1 (pos 10 *ℤ w))
quotient_is f g q w u e h k = k ∙ ap (λ (x : ℤ × ℤ). (floor_of x.0 (pos 10 *ℤ u), ceil_of x.1 (pos 10 *ℤ u))) e ∙ ap (λ (x : ℤ). (floor_of g.0 (pos 10 *ℤ x), ceil_of g.1 (pos 10 *ℤ x))) h

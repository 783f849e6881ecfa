-- The span of a flow holds the exact flow.
use Rattle.std.proofs.Common.{◌≡◌, ℕ, zero, suc, ◌*◌, ◌^◌, ◌<◌, ◌≤◌, true, List, [], ◌∷◌, length, get_or, Some, ℤ, pos, ◌+ℤ◌, ◌-ℤ◌, ◌*ℤ◌, ◌≤ℤ◌, refl, sym, ap, subst, ◌∙◌, arith}
use Rattle.std.specs.Prelude.{slice_get, FitsSigned}
use Rattle.std.specs.Int.{w128}
use Rattle.std.proofs.lemmas.Int.{ints}
use Rattle.std.proofs.lemmas.Bool.{cond-true}
use Rattle.whole_laws.specs.Ring.{ring, linear, scale-≤}
use Rattle.whole_laws.specs.Sums.{at, IsWithin}
use Rattle.fractions.specs.Fractions.{Fraction, whole}
use Rattle.fractions.specs.Spans.{Lies, LiesIn}
use Rattle.fb_types.specs.declared.rows.Angles.{Angles}
use Rattle.fb_types.specs.declared.grid.Branch.{Branch}
use Rattle.fb_types.specs.declared.grid.Grid.{Grid}
use Rattle.grid_state.specs.GridState.{GridState, class_at, carries_at, IsSound}
use Rattle.grid_laplacian.specs.Ranges.{IsOfGrid}
use Rattle.grid_laplacian.specs.Enclosures.{IsBarrier}
use Rattle.grid_laplacian.proofs.Enclosure.{angles_lie}
use Rattle.security.specs.Flows.{NumberedBranch}
use Rattle.security.specs.Quotients.{divisor_of, divided}
use Rattle.exact_flows.proofs.Listed.{class_below}
use Rattle.branch_spans.specs.FlowSpans.{difference_of, doubt_of, flow_span_of, IsBranchOf, HoldsFlow}
use Rattle.branch_spans.proofs.Branches.{in_range}

-- ---- the branch under its number

stands_at : (bs : List Branch) (k : ℕ) (br : Branch) → k < length bs → br ≡ get_or bs k br → slice_get bs k ≡ Some br
stands_at [] k br h e = absurd (omega arith)
stands_at (b ∷ bs) zero br h e = ap Some (sym e)
stands_at (b ∷ bs) (suc k) br h e = stands_at bs k br (omega arith) e

-- what the code reads at a place of the branches
pub stands_in : (grid : Grid) (k : ℕ) (br : Branch) (read : List Branch) → k < length grid.branches → br ≡ get_or read k br → read ≡ grid.branches → IsBranchOf grid (record { number = k; branch = br })
stands_in grid k br read h e same = record { stands = stands_at grid.branches k br h (e ∙ ap (λ (bs : List Branch). get_or bs k br) same) }

pub same_branch : (grid : Grid) (c d : NumberedBranch) → c.number ≡ d.number → IsBranchOf grid c → IsBranchOf grid d → c.branch ≡ d.branch
same_branch grid c d same h k = from_some (sym h.stands ∙ ap (slice_get grid.branches) same ∙ k.stands)
  where
    from_some : Some c.branch ≡ Some d.branch → c.branch ≡ d.branch
    from_some e = cc

-- ---- the exact flow

scale_is : (d : ℕ) → 1 ≤ d → divisor_of (pos d) ≡ pos d
scale_is zero h = absurd (omega arith)
scale_is (suc d) h = refl

-- with t_i and t_j between d times the ends of their spans, b·(t_i − t_j)/d is between the ends of the flow's
ratio_lies : (b d k wi wj vi vj ti tj : ℤ) (n : ℕ) → pos 0 ≤ℤ b → divisor_of (pos n) ≡ d
    → (d *ℤ (wi -ℤ k *ℤ vi)) ≤ℤ ti → ti ≤ℤ (d *ℤ (wi +ℤ k *ℤ vi)) → (d *ℤ (wj -ℤ k *ℤ vj)) ≤ℤ tj → tj ≤ℤ (d *ℤ (wj +ℤ k *ℤ vj))
    → Lies (divided (whole (b *ℤ (ti -ℤ tj))) (pos n)) (b *ℤ ((wi -ℤ wj) -ℤ k *ℤ (vi +ℤ vj))) (b *ℤ ((wi -ℤ wj) +ℤ k *ℤ (vi +ℤ vj)))
ratio_lies b d k wi wj vi vj ti tj n nonnegative scale al au bl bu = record {
  above = record { at_most = rw scale low };
  below = record { at_most = rw scale high };
}
  where
    low : ((b *ℤ ((wi -ℤ wj) -ℤ k *ℤ (vi +ℤ vj))) *ℤ (pos 1 *ℤ d)) ≤ℤ ((b *ℤ (ti -ℤ tj)) *ℤ pos 1)
    low =
        let e : d *ℤ ((wi -ℤ wj) -ℤ k *ℤ (vi +ℤ vj)) ≡ d *ℤ (wi -ℤ k *ℤ vi) -ℤ d *ℤ (wj +ℤ k *ℤ vj) = simp ring (omega (arith, linear)) in
        let s = scale-≤ b (d *ℤ ((wi -ℤ wj) -ℤ k *ℤ (vi +ℤ vj))) (ti -ℤ tj) nonnegative (omega (arith, linear, e, al, bu)) in
        let f : (b *ℤ ((wi -ℤ wj) -ℤ k *ℤ (vi +ℤ vj))) *ℤ (pos 1 *ℤ d) ≡ b *ℤ (d *ℤ ((wi -ℤ wj) -ℤ k *ℤ (vi +ℤ vj))) = simp ring (omega (arith, linear)) in
        let g : (b *ℤ (ti -ℤ tj)) *ℤ pos 1 ≡ b *ℤ (ti -ℤ tj) = simp ring in
        omega (arith, linear, s, f, g)

    high : ((b *ℤ (ti -ℤ tj)) *ℤ pos 1) ≤ℤ ((b *ℤ ((wi -ℤ wj) +ℤ k *ℤ (vi +ℤ vj))) *ℤ (pos 1 *ℤ d))
    high =
        let e : d *ℤ ((wi -ℤ wj) +ℤ k *ℤ (vi +ℤ vj)) ≡ d *ℤ (wi +ℤ k *ℤ vi) -ℤ d *ℤ (wj -ℤ k *ℤ vj) = simp ring (omega (arith, linear)) in
        let s = scale-≤ b (ti -ℤ tj) (d *ℤ ((wi -ℤ wj) +ℤ k *ℤ (vi +ℤ vj))) nonnegative (omega (arith, linear, e, au, bl)) in
        let f : (b *ℤ ((wi -ℤ wj) +ℤ k *ℤ (vi +ℤ vj))) *ℤ (pos 1 *ℤ d) ≡ b *ℤ (d *ℤ ((wi -ℤ wj) +ℤ k *ℤ (vi +ℤ vj))) = simp ring (omega (arith, linear)) in
        let g : (b *ℤ (ti -ℤ tj)) *ℤ pos 1 ≡ b *ℤ (ti -ℤ tj) = simp ring in
        omega (arith, linear, s, f, g)

pub flow_held : (grid : Grid) (s : GridState) (c : NumberedBranch) → IsSound s → IsOfGrid grid s → IsBranchOf grid c → carries_at s c.number ≡ true
    → (v : List ℤ) (angles : Angles) → IsBarrier s v → HoldsFlow s c angles (flow_span_of s c.branch v angles)
flow_held grid s c sound of stands carries v angles barrier p encloses e solves =
    let i = class_at s c.branch.from in
    let j = class_at s c.branch.to in
    let lie = angles_lie s sound v p e.angles angles (2 * 10 ^ 25) e.scale barrier encloses solves in
    let hi = class_below s sound c.branch.from in
    let hj = class_below s sound c.branch.to in
    let range = in_range grid s c of stands carries in
    let held = ratio_lies c.branch.b (pos e.scale) (pos angles.kappa) (at angles.w i) (at angles.w j) (at v i) (at v j) (at e.angles i) (at e.angles j) e.scale
    (let some = range.some in omega (arith, linear, some)) (scale_is e.scale solves.positive) (lie.above i hi) (lie.below i hi) (lie.above j hj) (lie.below j hj) in
    subst (λ (f : Fraction). LiesIn (flow_span_of s c.branch v angles) f)
    (sym (cond-true {A = Fraction} (carries_at s c.number) (divided (whole (c.branch.b *ℤ (at e.angles i -ℤ at e.angles j))) (pos e.scale)) (whole (pos 0)) carries)) held

-- ---- what the code computes

pub fits_within : (z : ℤ) → IsWithin (2 ^ 123) z → FitsSigned w128 z
fits_within z h = omega (arith, ints, h.low, h.high)

pub flow_is : (s : GridState) (br : Branch) (v : List ℤ) (angles : Angles) (k : ℤ) (d r : ℤ × ℤ) → k ≡ br.b
    → d ≡ (difference_of angles (class_at s br.from) (class_at s br.to) -ℤ doubt_of v angles (class_at s br.from) (class_at s br.to), difference_of angles (class_at s br.from) (class_at s br.to) +ℤ doubt_of v angles (class_at s br.from) (class_at s br.to))
    → r ≡ (k *ℤ d.0, k *ℤ d.1) → r ≡ flow_span_of s br v angles
flow_is s br v angles k d r e f g = g ∙ ap (λ (x : ℤ). (x *ℤ d.0, x *ℤ d.1)) e ∙ ap (λ (x : ℤ × ℤ). (br.b *ℤ x.0, br.b *ℤ x.1)) f
